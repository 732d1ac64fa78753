use Rattle.std.proofs.Common.{◌≡◌}
use Rattle.nt_client.specs.Kept.{IsWayBack, before}
use Rattle.nt_client.proofs.undo.undo_all.Given as goal

-- the changes that are left lead back to where all did
abbrev pub invariant-loop-change : goal.invariant-loop-change
invariant-loop-change l = record {
  way : IsWayBack l.held l.log.items;
  back : before l.log.items l.held.items ≡ before l.fn.log.items l.fn.held.items;
}

abbrev pub decreases-loop-change : goal.decreases-loop-change
decreases-loop-change l = goal.left-loop-change l
