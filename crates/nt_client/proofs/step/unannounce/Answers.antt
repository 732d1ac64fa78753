use Rattle.std.proofs.Common.{◌≡◌, ◌++◌, ◌∷◌, [], ℕ, List, sym, ◌∙◌, ap, subst, arith, rules}
use Rattle.std.proofs.lemmas.Int.{to_z-of_z}
use Rattle.nt_rules.specs.declared.held.Held.{Held}
use Rattle.nt_rules.specs.declared.topic.Change.TheVariants.{Ended}
use Rattle.nt_client.specs.Sorted.{IsFoundAt, IsMissedAt}
use Rattle.nt_client.specs.Names.{OthersStayNoted}
use Rattle.nt_client.specs.Kept.{id_of}
use Rattle.nt_client.proofs.Search.{any-found, any-missed, filter-found, filter-missed, within-found}
use Rattle.nt_client.proofs.Changing.{end-found, end-missed, no-change}
use Rattle.nt_client.proofs.Going.{goes-remove}
use Rattle.nt_client.proofs.step.unannounce.Goals as goal

pub index-requires : goal.index-requires
index-requires c =
    let found : IsFoundAt id_of c.args.id c.args.topics.now.held.items c.in-Ok.at =
    subst (λ (xs : List Held). IsFoundAt id_of c.args.id xs c.in-Ok.at) c.deref.ensures.value
    (simp (to_z-of_z, c.ranges.id) at c.in-Ok.ensures) in
    let lt = within-found id_of c.args.id c.args.topics.now.held.items c.in-Ok.at found in
    let len = c.args.topics.now.held.ok.0 in
    omega arith

pub remove-requires : goal.remove-requires
remove-requires c =
    let found : IsFoundAt id_of c.args.id c.args.topics.now.held.items c.in-Ok.at =
    subst (λ (xs : List Held). IsFoundAt id_of c.args.id xs c.in-Ok.at) c.deref.ensures.value
    (simp (to_z-of_z, c.ranges.id) at c.in-Ok.ensures) in
    let lt = within-found id_of c.args.id c.args.topics.now.held.items c.in-Ok.at found in
    let len = c.args.topics.now.held.ok.0 in
    omega arith

pub returns-in_ok-push-in-Ok-clause-known : goal.returns-in_ok-push-in-Ok-clause-known
returns-in_ok-push-in-Ok-clause-known c =
    let found : IsFoundAt id_of c.args.id c.args.topics.now.held.items c.in-Ok.at =
    subst (λ (xs : List Held). IsFoundAt id_of c.args.id xs c.in-Ok.at) c.deref.ensures.value
    (simp (to_z-of_z, c.ranges.id) at c.in-Ok.ensures) in
    sym (any-found id_of c.args.id c.args.topics.now.held.items c.in-Ok.at found)

pub returns-in_ok-push-in-Ok-clause-held : goal.returns-in_ok-push-in-Ok-clause-held
returns-in_ok-push-in-Ok-clause-held c =
    let found : IsFoundAt id_of c.args.id c.args.topics.now.held.items c.in-Ok.at =
    subst (λ (xs : List Held). IsFoundAt id_of c.args.id xs c.in-Ok.at) c.deref.ensures.value
    (simp (to_z-of_z, c.ranges.id) at c.in-Ok.ensures) in
    c.in_ok-remove-in-Ok.ensures.ok ∙ sym (filter-found id_of c.args.id c.args.topics.now.held.items c.in-Ok.at found)

pub returns-in_ok-push-in-Ok-clause-changes : goal.returns-in_ok-push-in-Ok-clause-changes
returns-in_ok-push-in-Ok-clause-changes c =
    let found : IsFoundAt id_of c.args.id c.args.topics.now.held.items c.in-Ok.at =
    subst (λ (xs : List Held). IsFoundAt id_of c.args.id xs c.in-Ok.at) c.deref.ensures.value
    (simp (to_z-of_z, c.ranges.id) at c.in-Ok.ensures) in
    let told : c.push.new.self ≡ c.args.changes.now ++ Ended c.args.id c.index.result.now.name ∷ [] = search rules in
    told ∙ ap (λ cs. c.args.changes.now ++ cs)
    (sym (end-found c.args.id c.args.topics.now.held.items c.in-Ok.at c.index.result.now found c.index.ensures))

pub returns-in_err-push-in-Ok-clause-goes_on : goal.returns-in_err-push-in-Ok-clause-goes_on
returns-in_err-push-in-Ok-clause-goes_on c =
    let found : IsFoundAt id_of c.args.id c.args.topics.now.held.items c.in-Ok.at =
    subst (λ (xs : List Held). IsFoundAt id_of c.args.id xs c.in-Ok.at) c.deref.ensures.value
    (simp (to_z-of_z, c.ranges.id) at c.in-Ok.ensures) in
    let others : OthersStayNoted c.in_ok-name-in-Ok.name c.args.id c.args.topics.now.names c.forget.new.self =
    subst (λ (n : List ℕ). OthersStayNoted n c.args.id c.args.topics.now.names c.forget.new.self) c.as_str.ensures
    (simp (to_z-of_z, c.ranges.id) at c.forget.ensures.others) in
    goes-remove c.args.topics.now _ c.args.log.now.items _ c.in-Ok.at c.args.id c.in_ok-name-in-Ok.name c.requires found
    others c.forget.ensures.in_order c.in_ok-remove-in-Ok.ensures.ok c.remove.ensures.leads

pub returns-in_ok-push-in-Ok-clause-goes_on : goal.returns-in_ok-push-in-Ok-clause-goes_on
returns-in_ok-push-in-Ok-clause-goes_on c =
    let found : IsFoundAt id_of c.args.id c.args.topics.now.held.items c.in-Ok.at =
    subst (λ (xs : List Held). IsFoundAt id_of c.args.id xs c.in-Ok.at) c.deref.ensures.value
    (simp (to_z-of_z, c.ranges.id) at c.in-Ok.ensures) in
    let others : OthersStayNoted c.in_ok-name-in-Ok.name c.args.id c.args.topics.now.names c.forget.new.self =
    subst (λ (n : List ℕ). OthersStayNoted n c.args.id c.args.topics.now.names c.forget.new.self) c.as_str.ensures
    (simp (to_z-of_z, c.ranges.id) at c.forget.ensures.others) in
    goes-remove c.args.topics.now _ c.args.log.now.items _ c.in-Ok.at c.args.id c.in_ok-name-in-Ok.name c.requires found
    others c.forget.ensures.in_order c.in_ok-remove-in-Ok.ensures.ok c.remove.ensures.leads

pub returns-in-Err-clause-known : goal.returns-in-Err-clause-known
returns-in-Err-clause-known c =
    let missed : IsMissedAt id_of c.args.id c.args.topics.now.held.items c.in-Err.field-0 =
    subst (λ (xs : List Held). IsMissedAt id_of c.args.id xs c.in-Err.field-0) c.deref.ensures.value
    (simp (to_z-of_z, c.ranges.id) at c.in-Err.ensures) in
    sym (any-missed id_of c.args.id c.args.topics.now.held.items c.in-Err.field-0 missed)

pub returns-in-Err-clause-held : goal.returns-in-Err-clause-held
returns-in-Err-clause-held c =
    let missed : IsMissedAt id_of c.args.id c.args.topics.now.held.items c.in-Err.field-0 =
    subst (λ (xs : List Held). IsMissedAt id_of c.args.id xs c.in-Err.field-0) c.deref.ensures.value
    (simp (to_z-of_z, c.ranges.id) at c.in-Err.ensures) in
    sym (filter-missed id_of c.args.id c.args.topics.now.held.items c.in-Err.field-0 missed)

pub returns-in-Err-clause-changes : goal.returns-in-Err-clause-changes
returns-in-Err-clause-changes c =
    let missed : IsMissedAt id_of c.args.id c.args.topics.now.held.items c.in-Err.field-0 =
    subst (λ (xs : List Held). IsMissedAt id_of c.args.id xs c.in-Err.field-0) c.deref.ensures.value
    (simp (to_z-of_z, c.ranges.id) at c.in-Err.ensures) in
    no-change c.args.changes.now _ (end-missed c.args.id c.args.topics.now.held.items c.in-Err.field-0 missed)
