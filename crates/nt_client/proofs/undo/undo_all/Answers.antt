use Rattle.std.proofs.Common.{◌≡◌, [], ◌∷◌, ◌++◌, List, refl, sym, ◌∙◌, ap, subst, rules}
use Rattle.std.specs.Prelude.{reverse, vec_len, vec_capacity}
use Rattle.nt_client.specs.declared.undo.Undo.{Undo}
use Rattle.nt_client.specs.Kept.{CanUndo, before}
use Rattle.nt_client.proofs.Back.{before-more, can-one, newest-first}
use Rattle.nt_client.proofs.undo.undo_all.Goals as goal

pub loop-change-init : goal.loop-change-init
loop-change-init c = record { way = c.requires; back = refl }

pub take_back-requires : goal.take_back-requires
take_back-requires c =
    let items : c.loop-change.log.items ≡ c.pop.new.self.items ++ c.in-Some.change ∷ [] = search rules in
    let can : CanUndo (vec_capacity c.loop-change.held) (vec_len c.loop-change.held)
    (c.in-Some.change ∷ reverse c.pop.new.self.items) =
    subst (λ (l : List Undo). CanUndo (vec_capacity c.loop-change.held) (vec_len c.loop-change.held) l)
    (ap reverse items ∙ newest-first c.pop.new.self.items c.in-Some.change) c.loop-change.invariant.way in
    can-one (vec_capacity c.loop-change.held) (vec_len c.loop-change.held) c.in-Some.change
    (reverse c.pop.new.self.items) can

pub loop-change-preserved : goal.loop-change-preserved
loop-change-preserved c =
    let items : c.loop-change.log.items ≡ c.pop.new.self.items ++ c.in-Some.change ∷ [] = search rules in
    let can : CanUndo (vec_capacity c.loop-change.held) (vec_len c.loop-change.held)
    (c.in-Some.change ∷ reverse c.pop.new.self.items) =
    subst (λ (l : List Undo). CanUndo (vec_capacity c.loop-change.held) (vec_len c.loop-change.held) l)
    (ap reverse items ∙ newest-first c.pop.new.self.items c.in-Some.change) c.loop-change.invariant.way in
    record {
      way = c.take_back.ensures.way (reverse c.pop.new.self.items) can;
      back = ap (before c.pop.new.self.items) c.take_back.ensures.held
          ∙ sym (before-more c.pop.new.self.items c.in-Some.change c.loop-change.held.items)
          ∙ ap (λ (l : List Undo). before l c.loop-change.held.items) (sym items)
          ∙ c.loop-change.invariant.back;
    }

pub returns : goal.returns
returns c =
    let empty : c.loop-change.log.items ≡ [] = search rules in
    ap (λ (l : List Undo). before l c.loop-change.held.items) (sym empty) ∙ c.loop-change.invariant.back
