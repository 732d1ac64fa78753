use Rattle.std.proofs.Common.{length, [], ◌+◌, ◌-◌}
use Rattle.nt_link.specs.Causes.{IsLater}
use Rattle.nt_tools.specs.LineReading.{Reads}
use Rattle.nt_tools.proofs.line.LineReader.read_line.Given as goal

abbrev pub invariant-loop-self : goal.invariant-loop-self
invariant-loop-self g l =
    Reads (g.R.Source.left l.fn.source) (g.R.Source.left l.source) l.fn.self l.self l.line.items []
    × IsLater g.R.Source.faults g.R.Source.aside l.fn.source l.source

abbrev pub decreases-loop-self : goal.decreases-loop-self
decreases-loop-self g l = (l.self.room + 1) - length l.self.bytes
