use Rattle.std.proofs.Common.{◌≡◌, ℤ, List, [], ◌∷◌, ◌++◌, map, rules}
use Rattle.nt_rules.specs.declared.act.Msg.{Msg}
use Rattle.nt_client.specs.declared.publisher.Publisher.{Publisher}
use Rattle.nt_client.specs.Calls.{publish_said}
use Rattle.nt_client.proofs.Saying.{said-all, said-one}
use Rattle.nt_client.proofs.client.say_publishers.Goals as goal

pub loop-uid-preserved : goal.loop-uid-preserved
loop-uid-preserved c =
    let l = c.loop-uid in
    let e : ℤ × Publisher = (c.in-Some.uid.now, c.in-Some.publisher.now) in
    let all : List Msg = c.args.queue.now ++ map publish_said c.args.publishers.now.entries in
    let said : c.say.new.self ≡ l.queue ++ publish_said e ∷ [] = search rules in
    said-one publish_said l.queue c.say.new.self all e l.uid-iterator c.next.new.self c.in-Some.ensures.steps said l.invariant

pub returns : goal.returns
returns c =
    let all : List Msg = c.args.queue.now ++ map publish_said c.args.publishers.now.entries in
    said-all publish_said c.loop-uid.queue all c.loop-uid.uid-iterator c.in-None.ensures.steps.0 c.loop-uid.invariant
