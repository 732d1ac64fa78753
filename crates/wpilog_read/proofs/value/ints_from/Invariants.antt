use Rattle.std.proofs.Common.{◌≡◌, ◌/◌, ◌++◌, length}
use Rattle.wpilog_read.proofs.Loops.{ints}
use Rattle.wpilog_read.proofs.value.ints_from.Given as goal

abbrev pub invariant-loop-rest : goal.invariant-loop-rest
invariant-loop-rest l = l.all.items ++ ints (length l.rest / 8) l.rest ≡ ints (length l.payload / 8) l.payload

abbrev pub decreases-loop-rest : goal.decreases-loop-rest
decreases-loop-rest l = length l.rest
