use Rattle.std.proofs.Common.{◌≡◌, drop}
use Rattle.wpilog_read.specs.Reading.{booleans_of}
use Rattle.wpilog_read.proofs.Loops.{with_truths}
use Rattle.wpilog_read.proofs.value.booleans_from.Given as goal

abbrev pub invariant-loop-byte : goal.invariant-loop-byte
invariant-loop-byte l = booleans_of l.payload ≡ with_truths l.truths.items (booleans_of (drop l.byte-index l.payload))
