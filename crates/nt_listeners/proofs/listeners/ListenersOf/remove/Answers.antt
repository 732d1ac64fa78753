use Rattle.std.proofs.Common.{◌≡◌, ◌∙◌, List, None, sym, refl, ap}
use Rattle.std.specs.Prelude.{◌==◌}
use Rattle.nt_rules.proofs.Positions.{IsFirst, first-position, position-None, find-first, find-none, change-first, change-none, remove-change}
use Rattle.nt_listeners.specs.declared.row.Row.{Row}
use Rattle.nt_listeners.specs.Rosters.{without}
use Rattle.nt_listeners.proofs.listeners.ListenersOf.remove.Goals as goal

pub returns-in-Some-clause-listener : goal.returns-in-Some-clause-listener
returns-in-Some-clause-listener g c =
    let test = λ (row : Row g.row.L.Denot). row.id == c.args.id in
    let rows = c.self.inside.rows.items in
    let first : IsFirst test rows c.in-Some.i c.remove-row.result =
    first-position test c.deref.result.now rows c.in-Some.i c.remove-row.result c.deref.ensures.value c.in-Some.ensures
    c.remove-row.ensures.value in
    rw (← c.self.view_is, find-first test rows c.in-Some.i c.remove-row.result first) refl

pub returns-in-Some-clause-others : goal.returns-in-Some-clause-others
returns-in-Some-clause-others g c =
    let test = λ (row : Row g.row.L.Denot). row.id == c.args.id in
    let rows = c.self.inside.rows.items in
    let first : IsFirst test rows c.in-Some.i c.remove-row.result =
    first-position test c.deref.result.now rows c.in-Some.i c.remove-row.result c.deref.ensures.value c.in-Some.ensures
    c.remove-row.ensures.value in
    let left : c.remove-row.new.self.items ≡ without c.args.id rows =
    c.remove-row.ensures.items
    ∙ remove-change (λ row. None) rows c.in-Some.i c.remove-row.result first.within first.item refl
    ∙ change-first test (λ row. None) rows c.in-Some.i c.remove-row.result first in
    rw (← c.self.view_is) (ap (λ (rows : List (Row g.row.L.Denot)). record { rows = rows; added = c.self.inside.added }) left)

pub returns-in-None-clause-listener : goal.returns-in-None-clause-listener
returns-in-None-clause-listener g c =
    let test = λ (row : Row g.row.L.Denot). row.id == c.args.id in
    let rows = c.self.inside.rows.items in
    let nowhere = position-None test c.deref.result.now rows c.deref.ensures.value c.in-None.ensures in
    rw (← c.self.view_is, find-none test rows nowhere) refl

pub returns-in-None-clause-others : goal.returns-in-None-clause-others
returns-in-None-clause-others g c =
    let test = λ (row : Row g.row.L.Denot). row.id == c.args.id in
    let rows = c.self.inside.rows.items in
    let nowhere = position-None test c.deref.result.now rows c.deref.ensures.value c.in-None.ensures in
    rw (← c.self.view_is) (ap (λ (rows : List (Row g.row.L.Denot)). record { rows = rows; added = c.self.inside.added })
    (sym (change-none test (λ row. None) rows nowhere)))
