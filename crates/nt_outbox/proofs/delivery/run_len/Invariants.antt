use Rattle.std.proofs.Common.{◌≡◌, ◌+◌, drop}
use Rattle.nt_outbox.specs.Steps.{run_of}
use Rattle.nt_outbox.proofs.delivery.run_len.Given as goal

-- those passed, and those of the keys that follow
abbrev pub invariant-loop-i : goal.invariant-loop-i
invariant-loop-i l = l.i + run_of l.id (drop l.i l.keys) ≡ run_of l.id l.keys
