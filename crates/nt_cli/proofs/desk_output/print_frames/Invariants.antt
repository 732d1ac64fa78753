use Rattle.nt_link.specs.Causes.{IsLater}
use Rattle.nt_cli.proofs.FrameLines.{PrintsTo}
use Rattle.nt_cli.proofs.desk_output.print_frames.Given as goal

abbrev pub invariant-loop-frame : goal.invariant-loop-frame
invariant-loop-frame g l =
    PrintsTo l.frames l.frame-index (g.O.Sink.taken l.fn.out) (g.O.Sink.taken l.out)
    × IsLater g.O.Sink.faults g.O.Sink.aside l.fn.out l.out
