use Rattle.std.proofs.Common.{◌≡◌, ◌≤◌, map}
use Rattle.std.specs.List.{AllByRecursion}
use Rattle.std.specs.Vec.Iter.{into_iter_items}
use Rattle.nt_link.specs.declared.frame.Frame.TheVariants.{Binary}
use Rattle.nt_rules.specs.declared.act.Msg.TheVariants.{Put}
use Rattle.nt_rules.specs.history.Step.{IsPut}
use Rattle.nt_serve.specs.Steps.{at, Reaches}
use Rattle.nt_serve.proofs.Taking.{IsPartly}
use Rattle.nt_serve.proofs.messages.take_binary.Given as goal

abbrev pub invariant-loop-msg : goal.invariant-loop-msg
invariant-loop-msg g l = record {
  lock : l.seat.lock ≡ l.fn.seat.lock;
  puts : AllByRecursion IsPut (map Put (into_iter_items l.msg-iterator));
  partly : Reaches (at g.L.Link.coming g.L.Link.received g.L.Link.sent l.fn.seat l.fn.link l.fn.ignored)
      (at g.L.Link.coming g.L.Link.received g.L.Link.sent l.seat l.link l.ignored)
      (IsPartly l.conn (Binary l.bytes) (map Put (into_iter_items l.msg-iterator)));
  later : g.L.Link.faults l.fn.link ≤ g.L.Link.faults l.link;
}
