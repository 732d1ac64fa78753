use Rattle.std.proofs.Common.{◌≤◌}
use Rattle.std.specs.Vec.Iter.{into_iter_items}
use Rattle.nt_serve.proofs.Handing.{Sending}
use Rattle.nt_serve.proofs.rounds.send_all.Given as goal

abbrev pub invariant-loop-frame : goal.invariant-loop-frame
invariant-loop-frame g l = record {
  sending : Sending g.L.Link.coming g.L.Link.received g.L.Link.sent l.fn.frames.items
      (into_iter_items l.frame-iterator) l.fn.link l.link;
  later : g.L.Link.faults l.fn.link ≤ g.L.Link.faults l.link;
}
