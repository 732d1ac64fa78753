use Rattle.std.proofs.Common.{◌≡◌, ◌++◌, ◌∷◌, [], ℕ, List, map, refl, sym, ◌∙◌, ap, subst, arith, rules}
use Rattle.std.specs.Prelude.{insert}
use Rattle.std.proofs.lemmas.Int.{to_z-of_z}
use Rattle.nt_rules.specs.declared.held.Held.{Held}
use Rattle.nt_rules.specs.declared.topic.Change.TheVariants.{Started}
use Rattle.nt_rules.specs.telling.Told.{new_held, with_properties}
use Rattle.nt_client.specs.Sorted.{IsFoundAt, IsMissedAt}
use Rattle.nt_client.specs.Names.{IsNoted}
use Rattle.nt_client.specs.Kept.{id_of, outline}
use Rattle.nt_client.proofs.Search.{within-found, within-missed}
use Rattle.nt_client.proofs.Keeping.{announce-found, announce-missed, at-outline}
use Rattle.nt_client.proofs.Changing.{no-change, start-found, start-missed}
use Rattle.nt_client.proofs.Going.{goes-insert, goes-outline}
use Rattle.nt_client.proofs.step.announce.Goals as goal

pub update_props-requires : goal.update_props-requires
update_props-requires c =
    let found : IsFoundAt id_of c.args.id c.args.topics.now.held.items c.in-Ok.at =
    subst (λ (xs : List Held). IsFoundAt id_of c.args.id xs c.in-Ok.at) c.deref.ensures.value
    (simp (to_z-of_z, c.ranges.id) at c.in-Ok.ensures) in
    let lt = within-found id_of c.args.id c.args.topics.now.held.items c.in-Ok.at found in
    let len = c.args.topics.now.held.ok.0 in
    omega arith

pub returns-in_err-update_props-in-Ok-clause-goes_on : goal.returns-in_err-update_props-in-Ok-clause-goes_on
returns-in_err-update_props-in-Ok-clause-goes_on c =
    goes-outline c.args.topics.now _ c.args.log.now.items _ c.requires (λ n k h. h) c.requires.in_order
    c.in_err-update_props-in-Ok.ensures.same c.update_props.ensures.leads

pub returns-in_err-note-in-Err-clause-goes_on : goal.returns-in_err-note-in-Err-clause-goes_on
returns-in_err-note-in-Err-clause-goes_on c =
    goes-outline c.args.topics.now _ c.args.log.now.items _ c.requires c.note.ensures.others c.note.ensures.in_order
    refl
    (record { back = refl; way = λ can. can })

pub add-requires : goal.add-requires
add-requires c =
    let missed : IsMissedAt id_of c.args.id c.args.topics.now.held.items c.in-Err.at =
    subst (λ (xs : List Held). IsMissedAt id_of c.args.id xs c.in-Err.at) c.deref.ensures.value
    (simp (to_z-of_z, c.ranges.id) at c.in-Err.ensures) in
    let le = within-missed id_of c.args.id c.args.topics.now.held.items c.in-Err.at missed in
    let len = c.args.topics.now.held.ok.0 in
    omega arith

pub returns-in_err-add-in-Err-clause-goes_on : goal.returns-in_err-add-in-Err-clause-goes_on
returns-in_err-add-in-Err-clause-goes_on c =
    goes-outline c.args.topics.now _ c.args.log.now.items _ c.requires c.note.ensures.others c.note.ensures.in_order
    (ap (map outline) c.in_err-add-in-Err.ensures.same) c.add.ensures.leads

pub returns-in_ok-update_props-in-Ok-clause-held : goal.returns-in_ok-update_props-in-Ok-clause-held
returns-in_ok-update_props-in-Ok-clause-held c =
    let found : IsFoundAt id_of c.args.id c.args.topics.now.held.items c.in-Ok.at =
    subst (λ (xs : List Held). IsFoundAt id_of c.args.id xs c.in-Ok.at) c.deref.ensures.value
    (simp (to_z-of_z, c.ranges.id) at c.in-Ok.ensures) in
    c.in_ok-update_props-in-Ok.ensures.ok
    ∙ sym (announce-found c.args.name c.args.id c.args.typ c.args.props c.args.topics.now.held.items c.in-Ok.at found)

pub returns-in_ok-update_props-in-Ok-clause-changes : goal.returns-in_ok-update_props-in-Ok-clause-changes
returns-in_ok-update_props-in-Ok-clause-changes c =
    let found : IsFoundAt id_of c.args.id c.args.topics.now.held.items c.in-Ok.at =
    subst (λ (xs : List Held). IsFoundAt id_of c.args.id xs c.in-Ok.at) c.deref.ensures.value
    (simp (to_z-of_z, c.ranges.id) at c.in-Ok.ensures) in
    no-change c.args.changes.now _
    (start-found c.args.name c.args.id c.args.typ c.args.props c.args.topics.now.held.items c.in-Ok.at found)

pub returns-in_ok-update_props-in-Ok-clause-goes_on : goal.returns-in_ok-update_props-in-Ok-clause-goes_on
returns-in_ok-update_props-in-Ok-clause-goes_on c =
    goes-outline c.args.topics.now _ c.args.log.now.items _ c.requires (λ n k h. h) c.requires.in_order
    (ap (map outline) c.in_ok-update_props-in-Ok.ensures.ok
    ∙ at-outline (with_properties c.args.props) c.in-Ok.at c.args.topics.now.held.items (λ h. refl))
    c.update_props.ensures.leads

pub returns-in_ok-add-in-Err-clause-held : goal.returns-in_ok-add-in-Err-clause-held
returns-in_ok-add-in-Err-clause-held c =
    let missed : IsMissedAt id_of c.args.id c.args.topics.now.held.items c.in-Err.at =
    subst (λ (xs : List Held). IsMissedAt id_of c.args.id xs c.in-Err.at) c.deref.ensures.value
    (simp (to_z-of_z, c.ranges.id) at c.in-Err.ensures) in
    let items : c.add.new.held.items ≡ insert c.args.topics.now.held.items c.in-Err.at
    (new_held c.args.name c.args.id c.args.typ c.args.props) = search rules in
    items ∙ sym (announce-missed c.args.name c.args.id c.args.typ c.args.props c.args.topics.now.held.items
    c.in-Err.at missed)

pub returns-in_ok-add-in-Err-clause-changes : goal.returns-in_ok-add-in-Err-clause-changes
returns-in_ok-add-in-Err-clause-changes c =
    let missed : IsMissedAt id_of c.args.id c.args.topics.now.held.items c.in-Err.at =
    subst (λ (xs : List Held). IsMissedAt id_of c.args.id xs c.in-Err.at) c.deref.ensures.value
    (simp (to_z-of_z, c.ranges.id) at c.in-Err.ensures) in
    let told : c.push.new.self ≡ c.args.changes.now ++ Started c.args.id c.args.name c.args.typ c.args.props ∷ [] =
    search rules in
    told ∙ ap (λ cs. c.args.changes.now ++ cs) (sym (start-missed c.args.name c.args.id c.args.typ c.args.props
    c.args.topics.now.held.items c.in-Err.at missed))

pub returns-in_ok-add-in-Err-clause-goes_on : goal.returns-in_ok-add-in-Err-clause-goes_on
returns-in_ok-add-in-Err-clause-goes_on c =
    let missed : IsMissedAt id_of c.args.id c.args.topics.now.held.items c.in-Err.at =
    subst (λ (xs : List Held). IsMissedAt id_of c.args.id xs c.in-Err.at) c.deref.ensures.value
    (simp (to_z-of_z, c.ranges.id) at c.in-Err.ensures) in
    let here : IsNoted c.note.new.self c.args.name c.args.id =
    subst (λ (n : List ℕ). IsNoted c.note.new.self n c.args.id) c.as_str.ensures
    (simp (to_z-of_z, c.ranges.id) at c.in_ok-note-in-Err.ensures.noted) in
    let items : c.add.new.held.items ≡ insert c.args.topics.now.held.items c.in-Err.at
    (new_held c.args.name c.args.id c.args.typ c.args.props) = search rules in
    goes-insert c.args.topics.now _ c.args.log.now.items _ c.in-Err.at
    (new_held c.args.name c.args.id c.args.typ c.args.props) c.requires c.note.ensures.others
    c.note.ensures.in_order here missed items c.add.ensures.leads
