use Rattle.std.proofs.Common.{List, map}
use Rattle.nt_rules.specs.declared.act.Entry.{Entry}
use Rattle.nt_rules.specs.declared.act.Msg.TheVariants.{Put}
use Rattle.nt_world.specs.World.{Hosts, with_messages}
use Rattle.nt_world.proofs.host.Host.say_values.Given as goal

abbrev pub invariant-loop-value : goal.invariant-loop-value
invariant-loop-value l = (past : List Entry) → Hosts l.fn.self.server l.fn.self.entries past
    → Hosts l.self.server l.self.entries (with_messages l.worker l.conn (map Put l.yielded) past)
