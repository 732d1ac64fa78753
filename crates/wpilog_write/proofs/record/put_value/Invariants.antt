use Rattle.std.proofs.Common.{◌≡◌, ◌++◌, take}
use Rattle.std.specs.List.{flat_map}
use Rattle.std.specs.Int.{w32, w64, to_le_bytes}
use Rattle.wpilog_write.specs.Written.{boolean, int64, string}
use Rattle.wpilog_write.proofs.record.put_value.Given as goal

abbrev pub invariant-loop-truth : goal.invariant-loop-truth
invariant-loop-truth l = l.out.items ≡ l.initial.out.items ++ flat_map boolean (take l.truth-index l.truth-items)

abbrev pub invariant-loop-number : goal.invariant-loop-number
invariant-loop-number l = l.out.items ≡ l.initial.out.items ++ flat_map int64 (take l.number-index l.number-items)

abbrev pub invariant-loop-float : goal.invariant-loop-float
invariant-loop-float l = l.out.items ≡ l.initial.out.items ++ flat_map (to_le_bytes w32) (take l.float-index l.float-items)

abbrev pub invariant-loop-double : goal.invariant-loop-double
invariant-loop-double l = l.out.items ≡ l.initial.out.items ++ flat_map (to_le_bytes w64) (take l.double-index l.double-items)

abbrev pub invariant-loop-text : goal.invariant-loop-text
invariant-loop-text l = l.out.items ≡ l.initial.out.items ++ flat_map string (take l.text-index l.text-items)
