use Rattle.std.proofs.Common.{◌≡◌, length}
use Rattle.nt_world_rows.proofs.rows.first_other.Given as goal

abbrev pub invariant-loop-number : goal.invariant-loop-number
invariant-loop-number l = length l.world.peers ≡ 2
