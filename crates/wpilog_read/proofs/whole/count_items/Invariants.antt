use Rattle.std.proofs.Common.{◌≡◌, List, ℕ, ◌+◌, ◌++◌, ◌≤◌, length}
use Rattle.wpilog_read.specs.declared.item_at.ItemAt.{ItemAt}
use Rattle.wpilog_read.specs.Run.{Reading, Stands}
use Rattle.wpilog_read.proofs.whole.count_items.Given as goal

-- what was counted from one state of the reader to another
pub record Counted (first r : Reading) (count : ℕ) : Type 0 where
  pub counts : (bytes : List ℕ) (items : List ItemAt) → Stands bytes items first
      → (more : List ItemAt) × (length more ≡ count) × Stands bytes (items ++ more) r
  pub most : first.at + count ≤ r.at

abbrev pub invariant-loop-item : goal.invariant-loop-item
invariant-loop-item l = Counted l.fn.reader l.reader l.count

abbrev pub decreases-loop-item : goal.decreases-loop-item
decreases-loop-item l = length l.reader.rest
