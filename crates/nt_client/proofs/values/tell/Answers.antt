use Rattle.std.proofs.Common.{◌≡◌, ◌<◌, ◌++◌, ◌∷◌, [], length, sym, ◌∙◌, ap, rules}
use Rattle.nt_rules.specs.declared.topic.Change.TheVariants.{Changed}
use Rattle.nt_client.specs.Sorted.{IsFoundAt, IsMissedAt}
use Rattle.nt_client.specs.Kept.{id_of}
use Rattle.nt_client.proofs.Search.{any-found, any-missed, within-found}
use Rattle.nt_client.proofs.Changing.{no-change, value-found, value-nowhere}
use Rattle.nt_client.proofs.values.tell.Goals as goal

pub offset_bounds-held-at : goal.offset_bounds-held-at
offset_bounds-held-at c =
    let found : IsFoundAt id_of c.args.msg.now.id c.args.held.now c.in-Ok.at = search rules in
    let within : c.in-Ok.at < length c.args.held.now =
    within-found id_of c.args.msg.now.id c.args.held.now c.in-Ok.at found in
    search rules

pub bounds-held-at : goal.bounds-held-at
bounds-held-at c =
    let found : IsFoundAt id_of c.args.msg.now.id c.args.held.now c.in-Ok.at = search rules in
    within-found id_of c.args.msg.now.id c.args.held.now c.in-Ok.at found

pub returns-in_ok-push-in-Ok-clause-known : goal.returns-in_ok-push-in-Ok-clause-known
returns-in_ok-push-in-Ok-clause-known c =
    let found : IsFoundAt id_of c.args.msg.now.id c.args.held.now c.in-Ok.at = search rules in
    sym (any-found id_of c.args.msg.now.id c.args.held.now c.in-Ok.at found)

pub returns-in_ok-push-in-Ok-clause-changes : goal.returns-in_ok-push-in-Ok-clause-changes
returns-in_ok-push-in-Ok-clause-changes c =
    let found : IsFoundAt id_of c.args.msg.now.id c.args.held.now c.in-Ok.at = search rules in
    let told : c.push.new.self ≡ c.args.changes.now
    ++ Changed c.args.msg.now.id c.index-held-at.result.name c.args.msg.now.time c.args.msg.now.value ∷ [] =
    search rules in
    told ∙ ap (λ cs. c.args.changes.now ++ cs)
    (sym (value-found c.args.msg.now c.args.held.now c.in-Ok.at c.index-held-at.result found c.index-held-at.is))

pub returns-in-Err-clause-known : goal.returns-in-Err-clause-known
returns-in-Err-clause-known c =
    let missed : IsMissedAt id_of c.args.msg.now.id c.args.held.now c.in-Err.field-0 = search rules in
    sym (any-missed id_of c.args.msg.now.id c.args.held.now c.in-Err.field-0 missed)

pub returns-in-Err-clause-changes : goal.returns-in-Err-clause-changes
returns-in-Err-clause-changes c =
    let missed : IsMissedAt id_of c.args.msg.now.id c.args.held.now c.in-Err.field-0 = search rules in
    no-change c.args.changes.now _ (value-nowhere c.args.msg.now c.args.held.now c.in-Err.field-0 missed)
