use Rattle.std.proofs.Common.{◌≡◌, ◌/◌, ◌++◌, length}
use Rattle.wpilog_read.specs.Reading.{numbers}
use Rattle.wpilog_read.proofs.value.doubles_from.Given as goal

abbrev pub invariant-loop-rest : goal.invariant-loop-rest
invariant-loop-rest l = l.all.items ++ numbers 8 (length l.rest / 8) l.rest
    ≡ numbers 8 (length l.payload / 8) l.payload

abbrev pub decreases-loop-rest : goal.decreases-loop-rest
decreases-loop-rest l = length l.rest
