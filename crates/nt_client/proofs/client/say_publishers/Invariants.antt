use Rattle.std.proofs.Common.{◌≡◌, ◌++◌, map}
use Rattle.nt_client.specs.Calls.{publish_said}
use Rattle.nt_client.proofs.client.say_publishers.Given as goal

-- what was said, and what is still to be
abbrev pub invariant-loop-uid : goal.invariant-loop-uid
invariant-loop-uid l = l.queue ++ map publish_said l.uid-iterator ≡ l.fn.queue ++ map publish_said l.publishers.entries
