use Rattle.std.proofs.Common.{take, List, ℕ}
use Rattle.std.specs.List.{flat_map}
use Rattle.wpilog_read.specs.declared.item_at.ItemAt.{ItemAt}
use Rattle.wpilog_read.specs.Run.{Reading, Stands, IsEnded}
use Rattle.wpilog_read.proofs.whole.read_pieces.Given as goal

-- these pieces were fed, and all items that they hold were taken
pub record HasRead (pieces : List (List ℕ)) (items : List ItemAt) (r : Reading) : Type 0 where
  pub stands : Stands (flat_map (λ piece. piece) pieces) items r
  pub ended : IsEnded r

abbrev pub invariant-loop-piece : goal.invariant-loop-piece
invariant-loop-piece l = HasRead (take l.piece-index l.pieces) l.items.items l.reader
