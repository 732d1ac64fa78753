use Rattle.std.proofs.Common.{◌≡◌, List, ℕ, ◌++◌, length}
use Rattle.wpilog_read.specs.declared.item_at.ItemAt.{ItemAt}
use Rattle.wpilog_read.specs.Run.{Stands}
use Rattle.wpilog_read.proofs.whole.take_items.Given as goal

abbrev pub invariant-loop-item : goal.invariant-loop-item
invariant-loop-item l = (bytes : List ℕ) (before : List ItemAt) → Stands bytes before l.fn.reader
    → (more : List ItemAt) × (l.items.items ≡ l.fn.items.items ++ more) × Stands bytes (before ++ more) l.reader

abbrev pub decreases-loop-item : goal.decreases-loop-item
decreases-loop-item l = length l.reader.rest
