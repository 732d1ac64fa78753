use Rattle.nt_link.specs.Causes.{IsLater}
use Rattle.nt_cli.proofs.Turns.{Runs}
use Rattle.nt_cli.proofs.desk.answer_all.Given as goal

abbrev pub invariant-loop-desk : goal.invariant-loop-desk
invariant-loop-desk g l =
    Runs (g.R.Source.left l.fn.source) (g.R.Source.left l.source) (g.O.Sink.taken l.fn.out) (g.O.Sink.taken l.out)
    l.desk.server l.desk.lines l.desk.number
    × IsLater g.R.Source.faults g.R.Source.aside l.fn.source l.source
    × IsLater g.O.Sink.faults g.O.Sink.aside l.fn.out l.out

abbrev pub decreases-loop-desk : goal.decreases-loop-desk
decreases-loop-desk g l = l.desk.lines.room
