use Rattle.std.proofs.Common.{◌-◌, vec_len}
use Rattle.nt_link.specs.Causes.{IsLater}
use Rattle.nt_ws.proofs.Lines.{SoFar}
use Rattle.nt_ws.proofs.head.read_head.Given as goal

abbrev pub invariant-loop-source : goal.invariant-loop-source
invariant-loop-source g l =
    SoFar (g.R.Source.left l.fn.source) (g.R.Source.left l.source) l.head.bytes.items l.head.line l.head.begun
    × IsLater g.R.Source.faults g.R.Source.aside l.fn.source l.source

abbrev pub decreases-loop-source : goal.decreases-loop-source
decreases-loop-source g l = 8192 - vec_len l.head.bytes
