use Rattle.std.proofs.Common.{◌≡◌}
use Rattle.nt_lock.specs.Passes.{Gathers}
use Rattle.nt_lock.proofs.lock.Lock+L.close.Given as goal

abbrev pub invariant-loop-seat : goal.invariant-loop-seat
invariant-loop-seat g l =
    (l.pass.table_id ≡ l.table.shared.table_id) × Gathers l.fn.seats.items l.seats.items l.pass.me

abbrev pub decreases-loop-seat : goal.decreases-loop-seat
decreases-loop-seat g l = goal.left-loop-seat g l
