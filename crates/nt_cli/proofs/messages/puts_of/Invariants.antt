use Rattle.std.proofs.Common.{◌≡◌, map}
use Rattle.nt_rules.specs.declared.act.Msg.TheVariants.{Put}
use Rattle.nt_cli.proofs.messages.puts_of.Given as goal

abbrev pub invariant-loop-value : goal.invariant-loop-value
invariant-loop-value l = l.msgs.items ≡ map Put l.yielded
