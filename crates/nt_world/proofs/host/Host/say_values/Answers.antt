use Rattle.nt_rules.specs.declared.act.Msg.TheVariants.{Put}
use Rattle.nt_world.proofs.Entries.{said-one-more}
use Rattle.nt_world.proofs.host.Host.say_values.Goals as goal

pub loop-value-init : goal.loop-value-init
loop-value-init c = λ past h. h

pub loop-value-preserved : goal.loop-value-preserved
loop-value-preserved c = λ past h. said-one-more Put _ _ c.args.worker c.args.conn c.loop-value.yielded
    c.in-Some.value past (c.in_ok-say.ensures _ (c.loop-value.invariant past h))
