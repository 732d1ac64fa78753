use Rattle.nt_rules.specs.declared.act.Msg.TheVariants.{Control}
use Rattle.nt_world.proofs.Entries.{said-one-more}
use Rattle.nt_world.proofs.host.Host.say_controls.Goals as goal

pub loop-msg-init : goal.loop-msg-init
loop-msg-init c = λ past h. h

pub loop-msg-preserved : goal.loop-msg-preserved
loop-msg-preserved c = λ past h. said-one-more Control _ _ c.args.worker c.args.conn c.loop-msg.yielded c.in-Some.msg
    past (c.in_ok-say.ensures _ (c.loop-msg.invariant past h))
