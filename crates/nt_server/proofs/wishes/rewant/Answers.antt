use Rattle.std.proofs.Common.{◌≡◌, ◌+◌, ◌∙◌, List, drop, sym, ap}
use Rattle.nt_subs.specs.Wishes.{wanted}
use Rattle.nt_rules.specs.declared.topic.Topic.{Topic}
use Rattle.nt_rules.specs.outbox.Calls.{OutboxState, rewanted_to}
use Rattle.nt_rules.specs.history.State.{taken_at, rewanted_all}
use Rattle.nt_server.proofs.Lists.{drop_at}
use Rattle.nt_server.proofs.wishes.rewant.Goals as goal

pub loop-i-preserved : goal.loop-i-preserved
loop-i-preserved c =
    let ts = c.args.table.now.topics in
    let t : Topic = c.at-topic.result.now in
    let taken = c.args.taken.now in
    let old = wanted c.args.old.now in
    let new = wanted c.args.new.now in
    let step : c.rewant.new.self ≡ rewanted_to c.args.place t (taken_at t.id taken) (old t.name) (new t.name)
    c.loop-i.outbox =
    (let e = c.in_ok-rewant.ensures.owed in let at = c.at-at.ensures in let was = c.matches.ensures in
    let is = c.matches-in-loop-i.ensures in let text = c.as_str-name.ensures.text in cc) in
    ap (λ (b : OutboxState). rewanted_all c.args.place taken old new (drop (c.loop-i.i + 1) ts) b) step
    ∙ sym (ap (λ (xs : List Topic). rewanted_all c.args.place taken old new xs c.loop-i.outbox)
    (drop_at ts c.loop-i.i t c.at-topic.ensures.topic))
    ∙ c.loop-i.invariant
