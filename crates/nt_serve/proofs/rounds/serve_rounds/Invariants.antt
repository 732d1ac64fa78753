use Rattle.std.proofs.Common.{◌≡◌, ◌≤◌}
use Rattle.nt_serve.specs.Steps.{at, Reaches}
use Rattle.nt_serve.proofs.Turning.{AreWhole}
use Rattle.nt_serve.proofs.rounds.serve_rounds.Given as goal

abbrev pub invariant-loop : goal.invariant-loop
invariant-loop g l = record {
  lock : l.seat.lock ≡ l.fn.seat.lock;
  whole : Reaches (at g.L.Link.coming g.L.Link.received g.L.Link.sent l.fn.seat l.fn.link l.fn.ignored)
      (at g.L.Link.coming g.L.Link.received g.L.Link.sent l.seat l.link l.ignored) (AreWhole l.conn);
  later : g.L.Link.faults l.fn.link ≤ g.L.Link.faults l.link;
}
