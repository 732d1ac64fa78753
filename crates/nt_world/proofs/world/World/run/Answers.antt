use Rattle.nt_world.proofs.Clients.{ran}
use Rattle.nt_world.proofs.world.World.run.Goals as goal

pub returns-clause-stands : goal.returns-clause-stands
returns-clause-stands c = ran c.run_all-done.result c.is_err-self-inside.result c.self.inside.failed c.args.self.now
    _ _ _ _ _ _ c.args.steps.now c.is_err-self-inside.ensures.value c.self.view_is c.run_all-done.ensures.runs
