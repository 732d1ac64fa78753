use Rattle.std.proofs.Common.{◌≡◌, map}
use Rattle.nt_rules.specs.declared.act.Msg.TheVariants.{Control}
use Rattle.nt_cli.proofs.messages.controls_of.Given as goal

abbrev pub invariant-loop-msg : goal.invariant-loop-msg
invariant-loop-msg l = l.msgs.items ≡ map Control l.yielded
