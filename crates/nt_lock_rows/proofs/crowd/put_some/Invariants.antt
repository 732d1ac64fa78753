use Rattle.nt_lock_rows.specs.Crowds.{IsSame}
use Rattle.nt_lock_rows.proofs.crowd.put_some.Given as goal

abbrev pub invariant-loop : goal.invariant-loop
invariant-loop g l = IsSame l.fn.seat l.seat
