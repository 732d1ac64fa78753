use Rattle.nt_world.proofs.world.turn.Goals as goal

pub returns-in-Up : goal.returns-in-Up
returns-in-Up c = rw c.in-Up.is c.up.ensures
