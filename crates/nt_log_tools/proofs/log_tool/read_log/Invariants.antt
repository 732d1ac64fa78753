use Rattle.std.proofs.Common.{string_bytes}
use Rattle.nt_link.specs.Causes.{IsLater}
use Rattle.nt_log_tools.proofs.LogFeeds.{LogSoFar}
use Rattle.nt_log_tools.proofs.log_tool.read_log.Given as goal

abbrev pub invariant-loop-found : goal.invariant-loop-found
invariant-loop-found g l =
    LogSoFar l.tool (g.R.Source.left l.fn.source) (g.R.Source.left l.source) l.room l.reader l.found.count
    (string_bytes l.found.lines) (g.O.Sink.taken l.fn.out) (g.O.Sink.taken l.out)
    × IsLater g.R.Source.faults g.R.Source.aside l.fn.source l.source
    × IsLater g.O.Sink.faults g.O.Sink.aside l.fn.out l.out

abbrev pub decreases-loop-found : goal.decreases-loop-found
decreases-loop-found g l = l.room
