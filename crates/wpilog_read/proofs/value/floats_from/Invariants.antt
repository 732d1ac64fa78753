use Rattle.std.proofs.Common.{◌≡◌, ◌/◌, ◌++◌, length}
use Rattle.wpilog_read.specs.Reading.{numbers}
use Rattle.wpilog_read.proofs.value.floats_from.Given as goal

abbrev pub invariant-loop-rest : goal.invariant-loop-rest
invariant-loop-rest l = l.all.items ++ numbers 4 (length l.rest / 4) l.rest
    ≡ numbers 4 (length l.payload / 4) l.payload

abbrev pub decreases-loop-rest : goal.decreases-loop-rest
decreases-loop-rest l = length l.rest
