use Rattle.std.proofs.Common.{length, ◌-◌}
use Rattle.nt_link.proofs.Transfers.{Writing}
use Rattle.nt_link.proofs.sink.write_all.Given as goal

abbrev pub invariant-loop-at : goal.invariant-loop-at
invariant-loop-at g l = Writing (g.S.Sink.taken l.fn.sink) (g.S.Sink.taken l.sink) (g.S.Sink.faults l.fn.sink) (g.S.Sink.faults l.sink) (g.S.Sink.aside l.fn.sink) (g.S.Sink.aside l.sink) l.bytes l.at

abbrev pub decreases-loop-at : goal.decreases-loop-at
decreases-loop-at g l = length l.bytes - l.at
