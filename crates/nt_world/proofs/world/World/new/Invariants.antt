use Rattle.std.proofs.Common.{◌≡◌}
use Rattle.std.specs.Prelude.{replicate}
use Rattle.nt_world.specs.World.{new_peer}
use Rattle.nt_world.proofs.world.World.new.Given as goal

abbrev pub invariant-loop : goal.invariant-loop
invariant-loop l = l.peers.items ≡ replicate l.counter new_peer
