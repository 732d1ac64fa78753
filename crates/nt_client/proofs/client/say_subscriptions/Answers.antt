use Rattle.std.proofs.Common.{◌≡◌, ℤ, List, [], ◌∷◌, ◌++◌, map, rules}
use Rattle.nt_rules.specs.declared.act.Msg.{Msg}
use Rattle.nt_subs.specs.declared.sub.Sub.{Sub}
use Rattle.nt_client.specs.Calls.{subscribe_said}
use Rattle.nt_client.proofs.Saying.{said-all, said-one}
use Rattle.nt_client.proofs.client.say_subscriptions.Goals as goal

pub loop-uid-preserved : goal.loop-uid-preserved
loop-uid-preserved c =
    let l = c.loop-uid in
    let e : ℤ × Sub = (c.in-Some.uid.now, c.in-Some.sub.now) in
    let all : List Msg = c.args.queue.now ++ map subscribe_said c.args.subscriptions.now.entries in
    let said : c.say.new.self ≡ l.queue ++ subscribe_said e ∷ [] = search rules in
    said-one subscribe_said l.queue c.say.new.self all e l.uid-iterator c.next.new.self c.in-Some.ensures.steps said l.invariant

pub returns : goal.returns
returns c =
    let all : List Msg = c.args.queue.now ++ map subscribe_said c.args.subscriptions.now.entries in
    said-all subscribe_said c.loop-uid.queue all c.loop-uid.uid-iterator c.in-None.ensures.steps.0 c.loop-uid.invariant
