use Rattle.std.proofs.Common.{◌<◌, [], ◌∷◌, length, refl, sym, ◌∙◌, ap, subst}
use Rattle.std.specs.Prelude.{vec_len, vec_capacity}
use Rattle.nt_rules.specs.declared.held.Held.{Held}
use Rattle.nt_client.specs.declared.undo.Undo.{Undo}
use Rattle.nt_client.specs.Kept.{CanUndo, undo}
use Rattle.nt_client.proofs.Keeping.{at-set}
use Rattle.nt_client.proofs.undo.take_back.Goals as goal

pub returns-in-Props-clause-held : goal.returns-in-Props-clause-held
returns-in-Props-clause-held c =
    let can = subst (λ (u : Undo). CanUndo (vec_capacity c.args.held.now) (vec_len c.args.held.now) (u ∷ []))
    c.in-Props.is
    c.requires in
    let within : c.in-Props.at < length c.args.held.now.items =
    subst (λ n. c.in-Props.at < n) c.args.held.now.ok.0 can.0 in
    at-set (λ (h : Held). record h { props = c.in-Props.props }) c.in-Props.at c.args.held.now.items
    c.index_mut.result.now
    (record c.index_mut.result.now { props = c.in-Props.props }) within c.index_mut.ensures.value refl
    ∙ ap (λ (u : Undo). undo u c.args.held.now.items) (sym c.in-Props.is)

pub returns-in-Value-clause-held : goal.returns-in-Value-clause-held
returns-in-Value-clause-held c =
    let can = subst (λ (u : Undo). CanUndo (vec_capacity c.args.held.now) (vec_len c.args.held.now) (u ∷ []))
    c.in-Value.is
    c.requires in
    let within : c.in-Value.at < length c.args.held.now.items =
    subst (λ n. c.in-Value.at < n) c.args.held.now.ok.0 can.0 in
    at-set (λ (h : Held). record h { value = c.in-Value.value }) c.in-Value.at c.args.held.now.items
    c.index_mut-in-Value.result.now (record c.index_mut-in-Value.result.now { value = c.in-Value.value }) within
    c.index_mut-in-Value.ensures.value refl
    ∙ ap (λ (u : Undo). undo u c.args.held.now.items) (sym c.in-Value.is)
