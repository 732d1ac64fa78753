use Rattle.std.proofs.Common.{◌≡◌, ◌<◌, ◌++◌, ◌∷◌, ◌-◌, ℕ, [], List, Some, length, slice_get, refl, sym, ◌∙◌, ap, rules}
use Rattle.std.specs.Option.{option_copied}
use Rattle.nt_rules.specs.declared.held.Held.{Held}
use Rattle.nt_client.specs.declared.undo.Undo.{Undo}
use Rattle.nt_client.specs.declared.undo.Undo.TheVariants.{Props}
use Rattle.nt_client.proofs.Back.{leads-again, leads-props}
use Rattle.nt_client.proofs.Keeping.{at-set}
use Rattle.nt_client.proofs.undo.set_props.Goals as goal

pub returns-clause-ok : goal.returns-clause-ok
returns-clause-ok c =
    let within : c.args.at < length c.args.held.now.items = search rules in
    at-set (λ (h : Held). record h { props = c.args.props }) c.args.at c.args.held.now.items c.index_mut.result.now
    (record c.index_mut.result.now { props = c.args.props }) within c.index_mut.ensures.value refl

pub returns-clause-leads : goal.returns-clause-leads
returns-clause-leads c =
    let within : c.args.at < length c.args.held.now.items = search rules in
    let last : slice_get c.args.log.now.items (length c.args.log.now.items - 1)
    ≡ Some (Props c.args.at c.in-Some-Props.field-0-1) =
    ap (λ (xs : List Undo). slice_get xs (length xs - 1)) (sym c.deref.ensures.value)
    ∙ sym c.last.ensures.value
    ∙ ap option_copied c.in-Some-Props.is
    ∙ ap Some c.in-Some-Props.field-0-is
    ∙ ap (λ (n : ℕ). Some (Props n c.in-Some-Props.field-0-1)) c.if-noted-at.true in
    leads-again c.args.held.now _ c.args.log.now.items c.args.at c.in-Some-Props.field-0-1 c.args.props last
    (at-set (λ (h : Held). record h { props = c.args.props }) c.args.at c.args.held.now.items c.index_mut.result.now
    (record c.index_mut.result.now { props = c.args.props }) within c.index_mut.ensures.value refl) refl refl

pub returns-2-clause-ok : goal.returns-2-clause-ok
returns-2-clause-ok c =
    let within : c.args.at < length c.args.held.now.items = search rules in
    at-set (λ (h : Held). record h { props = c.args.props }) c.args.at c.args.held.now.items c.index_mut-3.result.now _
    within c.index_mut-3.ensures.value (search rules)

pub returns-2-clause-leads : goal.returns-2-clause-leads
returns-2-clause-leads c =
    let within : c.args.at < length c.args.held.now.items = search rules in
    let noted : c.push_reserved.new.self.items
    ≡ c.args.log.now.items ++ Props c.args.at c.index_mut-3.result.now.props ∷ [] = search rules in
    leads-props c.args.held.now _ c.args.log.now.items c.push_reserved.new.self.items c.args.at c.index_mut-3.result.now
    c.args.props noted
    (at-set (λ (h : Held). record h { props = c.args.props }) c.args.at c.args.held.now.items c.index_mut-3.result.now
    (record c.index_mut-3.result.now { props = c.replace-props.new.dest }) within
    c.index_mut-3.ensures.value (search rules))
    c.requires c.index_mut-3.ensures.value refl refl
