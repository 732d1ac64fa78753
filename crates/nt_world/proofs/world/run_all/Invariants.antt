use Rattle.std.proofs.Common.{◌≡◌, length, take}
use Rattle.nt_world.specs.Frames.{Decoding, IsDecoding}
use Rattle.nt_world.specs.World.{Scene, Runs, with_steps}
use Rattle.nt_world.proofs.world.run_all.Given as goal

abbrev pub invariant-loop-step : goal.invariant-loop-step
invariant-loop-step l = record {
  runs : (decode : Decoding) → IsDecoding decode → (scene : Scene)
      → Runs l.fn.host.server l.fn.host.entries l.fn.peers.items scene
      → Runs l.host.server l.host.entries l.peers.items (with_steps decode (take l.step-index l.steps) scene);
  count : length l.peers.items ≡ length l.fn.peers.items;
}
