use Rattle.std.proofs.Common.{◌≤◌, ℕ, List, Option, length, string_bytes}
use Rattle.nt_link.specs.Causes.{IsLater}
use Rattle.nt_log_tools.specs.LogRun.{HasFound}
use Rattle.nt_log_tools.proofs.log_items.take_items.Given as goal

abbrev pub invariant-loop-item : goal.invariant-loop-item
invariant-loop-item g l =
    ((bytes : List ℕ) (before : Option (List ℕ))
    → HasFound l.tool bytes l.fn.reader l.fn.found.count (string_bytes l.fn.found.lines) before
    (g.O.Sink.taken l.fn.out)
    → HasFound l.tool bytes l.reader l.found.count (string_bytes l.found.lines) before (g.O.Sink.taken l.out))
    × (l.found.count ≤ l.reader.at) × IsLater g.O.Sink.faults g.O.Sink.aside l.fn.out l.out

abbrev pub decreases-loop-item : goal.decreases-loop-item
decreases-loop-item g l = length l.reader.rest
