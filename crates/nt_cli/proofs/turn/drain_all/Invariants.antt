use Rattle.std.proofs.Common.{List, ◌-◌}
use Rattle.nt_rules.specs.declared.act.Entry.{Entry}
use Rattle.nt_link.specs.Causes.{IsLater}
use Rattle.nt_cli.specs.DeskRun.{IsConnected}
use Rattle.nt_cli.proofs.DeskSteps.{DrainsBy}
use Rattle.nt_cli.proofs.turn.drain_all.Given as goal

abbrev pub invariant-loop : goal.invariant-loop
invariant-loop g l =
    ((past : List Entry) → IsConnected l.fn.server past → DrainsBy l.moment l.owed (l.owed - l.counter) past l.server
    (g.O.Sink.taken l.fn.out) (g.O.Sink.taken l.out))
    × IsLater g.O.Sink.faults g.O.Sink.aside l.fn.out l.out
