use Rattle.std.proofs.Common.{◌≡◌, ◌++◌}
use Rattle.std.specs.List.{flat_map}
use Rattle.nt_client.specs.Calls.{value_said}
use Rattle.nt_client.proofs.client.put_last_values.Given as goal

-- what was put, and what is still to be
abbrev pub invariant-loop-uid : goal.invariant-loop-uid
invariant-loop-uid l =
    l.queue ++ flat_map value_said l.uid-iterator ≡ l.fn.queue ++ flat_map value_said l.publishers.entries
