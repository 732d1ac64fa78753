use Rattle.std.proofs.Common.{◌≡◌, ◌++◌, map}
use Rattle.nt_client.specs.Calls.{subscribe_said}
use Rattle.nt_client.proofs.client.say_subscriptions.Given as goal

-- what was said, and what is still to be
abbrev pub invariant-loop-uid : goal.invariant-loop-uid
invariant-loop-uid l =
    l.queue ++ map subscribe_said l.uid-iterator ≡ l.fn.queue ++ map subscribe_said l.subscriptions.entries
