use Rattle.std.proofs.Common.{◌≡◌, ◌++◌, ◌∷◌, [], ℕ, false, List, map, refl, sym, ◌∙◌, ap, subst, arith, rules}
use Rattle.std.specs.List.{list_any}
use Rattle.serde_json.specs.Data.{Data}
use Rattle.nt_topics.specs.Properties.{updated}
use Rattle.nt_rules.specs.declared.held.Held.{Held}
use Rattle.nt_rules.specs.declared.topic.Change.TheVariants.{Props}
use Rattle.nt_rules.specs.telling.Told.{is_called, with_properties}
use Rattle.nt_client.specs.Kept.{IsLastAt, outline}
use Rattle.nt_client.proofs.Keeping.{any-last, at-outline, at-same, properties-last, properties-none, within-last}
use Rattle.nt_client.proofs.Changing.{no-change, update-last, update-none}
use Rattle.nt_client.proofs.Going.{goes-outline}
use Rattle.nt_client.proofs.step.set_properties.Goals as goal

pub index-requires : goal.index-requires
index-requires c =
    let last : IsLastAt c.args.name c.args.topics.now.held.items c.in-Some.at =
    subst (λ (n : List ℕ). IsLastAt n c.args.topics.now.held.items c.in-Some.at) c.as_str.ensures c.in-Some.ensures in
    let lt = within-last c.args.name c.args.topics.now.held.items c.in-Some.at last in
    let len = c.args.topics.now.held.ok.0 in
    omega arith

pub index-requires-in-Some : goal.index-requires-in-Some
index-requires-in-Some c =
    let last : IsLastAt c.args.name c.args.topics.now.held.items c.in-Some.at =
    subst (λ (n : List ℕ). IsLastAt n c.args.topics.now.held.items c.in-Some.at) c.as_str.ensures c.in-Some.ensures in
    let lt = within-last c.args.name c.args.topics.now.held.items c.in-Some.at last in
    let len = c.args.topics.now.held.ok.0 in
    omega arith

pub update_props-requires : goal.update_props-requires
update_props-requires c =
    let last : IsLastAt c.args.name c.args.topics.now.held.items c.in-Some.at =
    subst (λ (n : List ℕ). IsLastAt n c.args.topics.now.held.items c.in-Some.at) c.as_str.ensures c.in-Some.ensures in
    let lt = within-last c.args.name c.args.topics.now.held.items c.in-Some.at last in
    let len = c.args.topics.now.held.ok.0 in
    omega arith

pub returns-in_err-update_props-in-Some-clause-goes_on : goal.returns-in_err-update_props-in-Some-clause-goes_on
returns-in_err-update_props-in-Some-clause-goes_on c =
    goes-outline c.args.topics.now _ c.args.log.now.items _ c.requires (λ n k h. h) c.requires.in_order
    c.in_err-update_props-in-Some.ensures.same c.update_props.ensures.leads

pub returns-in_ok-update_props-in-Some-clause-known : goal.returns-in_ok-update_props-in-Some-clause-known
returns-in_ok-update_props-in-Some-clause-known c =
    let last : IsLastAt c.args.name c.args.topics.now.held.items c.in-Some.at =
    subst (λ (n : List ℕ). IsLastAt n c.args.topics.now.held.items c.in-Some.at) c.as_str.ensures c.in-Some.ensures in
    sym (any-last c.args.name c.args.topics.now.held.items c.in-Some.at last)

pub returns-in_ok-update_props-in-Some-clause-held : goal.returns-in_ok-update_props-in-Some-clause-held
returns-in_ok-update_props-in-Some-clause-held c =
    let last : IsLastAt c.args.name c.args.topics.now.held.items c.in-Some.at =
    subst (λ (n : List ℕ). IsLastAt n c.args.topics.now.held.items c.in-Some.at) c.as_str.ensures c.in-Some.ensures in
    let topic : Held = c.index-in-Some.result.now in
    let is : c.in_ok-props-in-Some.props ≡ updated topic.props c.args.update = search rules in
    c.in_ok-update_props-in-Some.ensures.ok
    ∙ at-same (with_properties c.in_ok-props-in-Some.props) (λ h. with_properties (updated h.props c.args.update) h)
    c.in-Some.at c.args.topics.now.held.items topic c.index-in-Some.ensures
    (ap (λ (props : Data). with_properties props topic) is)
    ∙ sym (properties-last c.args.name c.args.update c.args.topics.now.held.items c.in-Some.at last)

pub returns-in_ok-update_props-in-Some-clause-changes : goal.returns-in_ok-update_props-in-Some-clause-changes
returns-in_ok-update_props-in-Some-clause-changes c =
    let last : IsLastAt c.args.name c.args.topics.now.held.items c.in-Some.at =
    subst (λ (n : List ℕ). IsLastAt n c.args.topics.now.held.items c.in-Some.at) c.as_str.ensures c.in-Some.ensures in
    let told : c.push.new.self ≡ c.args.changes.now ++ Props c.index.result.now.id c.args.name c.args.update ∷ [] =
    search rules in
    told ∙ ap (λ cs. c.args.changes.now ++ cs)
    (sym (update-last c.args.name c.args.update c.args.topics.now.held.items c.in-Some.at c.index.result.now last
    c.index.ensures))

pub returns-in_ok-update_props-in-Some-clause-goes_on : goal.returns-in_ok-update_props-in-Some-clause-goes_on
returns-in_ok-update_props-in-Some-clause-goes_on c =
    goes-outline c.args.topics.now _ c.args.log.now.items _ c.requires (λ n k h. h) c.requires.in_order
    (ap (map outline) c.in_ok-update_props-in-Some.ensures.ok
    ∙ at-outline (with_properties c.in_ok-props-in-Some.props) c.in-Some.at c.args.topics.now.held.items (λ h. refl))
    c.update_props.ensures.leads

pub returns-in-None-clause-held : goal.returns-in-None-clause-held
returns-in-None-clause-held c =
    let none : list_any (is_called c.args.name) c.args.topics.now.held.items ≡ false =
    subst (λ (n : List ℕ). list_any (is_called n) c.args.topics.now.held.items ≡ false) c.as_str.ensures
    c.in-None.ensures in
    sym (properties-none c.args.name c.args.update c.args.topics.now.held.items none)

pub returns-in-None-clause-changes : goal.returns-in-None-clause-changes
returns-in-None-clause-changes c =
    let none : list_any (is_called c.args.name) c.args.topics.now.held.items ≡ false =
    subst (λ (n : List ℕ). list_any (is_called n) c.args.topics.now.held.items ≡ false) c.as_str.ensures
    c.in-None.ensures in
    no-change c.args.changes.now _ (update-none c.args.name c.args.update c.args.topics.now.held.items none)
