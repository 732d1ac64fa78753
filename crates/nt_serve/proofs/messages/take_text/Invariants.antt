use Rattle.std.proofs.Common.{◌≡◌, ◌≤◌, map}
use Rattle.std.specs.Vec.Iter.{into_iter_items}
use Rattle.nt_link.specs.declared.frame.Frame.TheVariants.{Text}
use Rattle.nt_rules.specs.declared.act.Msg.TheVariants.{Control}
use Rattle.nt_serve.specs.Steps.{at, Reaches}
use Rattle.nt_serve.proofs.Taking.{IsPartly}
use Rattle.nt_serve.proofs.messages.take_text.Given as goal

abbrev pub invariant-loop-msg : goal.invariant-loop-msg
invariant-loop-msg g l = record {
  lock : l.seat.lock ≡ l.fn.seat.lock;
  partly : Reaches (at g.L.Link.coming g.L.Link.received g.L.Link.sent l.fn.seat l.fn.link l.fn.ignored)
      (at g.L.Link.coming g.L.Link.received g.L.Link.sent l.seat l.link l.ignored)
      (IsPartly l.conn (Text l.text) (map Control (into_iter_items l.msg-iterator)));
  later : g.L.Link.faults l.fn.link ≤ g.L.Link.faults l.link;
}
