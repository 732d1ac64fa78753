use Rattle.nt_world.specs.World.{start}
use Rattle.nt_world.proofs.Entries.{hosts-acted}
use Rattle.nt_world.proofs.host.Host.act.Goals as goal

pub returns-clause-host : goal.returns-clause-host
returns-clause-host c = λ past h. hosts-acted _ _ _ past c.args.worker c.args.act c.in_ok-stepped.stepped.out
    c.in_ok-stepped.stepped.entry h (c.in_ok-stepped.ensures.steps start past h.represents)
