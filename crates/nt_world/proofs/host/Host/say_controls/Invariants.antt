use Rattle.std.proofs.Common.{List, map}
use Rattle.nt_rules.specs.declared.act.Entry.{Entry}
use Rattle.nt_rules.specs.declared.act.Msg.TheVariants.{Control}
use Rattle.nt_world.specs.World.{Hosts, with_messages}
use Rattle.nt_world.proofs.host.Host.say_controls.Given as goal

abbrev pub invariant-loop-msg : goal.invariant-loop-msg
invariant-loop-msg l = (past : List Entry) → Hosts l.fn.self.server l.fn.self.entries past
    → Hosts l.self.server l.self.entries (with_messages l.worker l.conn (map Control l.yielded) past)
