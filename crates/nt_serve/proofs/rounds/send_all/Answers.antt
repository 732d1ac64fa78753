use Rattle.std.proofs.Common.{◌≡◌, arith, rules}
use Rattle.std.specs.Vec.Iter.{into_iter_items}
use Rattle.nt_serve.proofs.Handing.{sending-start, sending-next}
use Rattle.nt_serve.proofs.rounds.send_all.Goals as goal

pub loop-frame-init : goal.loop-frame-init
loop-frame-init g c =
    let items : into_iter_items c.into_iter-frame-iterator.result ≡ c.args.frames.items = search rules in
    record { sending = sending-start _ _ _ _ _ _ items; later = omega arith }

pub loop-frame-preserved-in_ok-send : goal.loop-frame-preserved-in_ok-send
loop-frame-preserved-in_ok-send g c =
    record {
      sending = sending-next _ _ _ _ _ _ c.in-Some.frame _ _ _ c.in-Some.ensures.steps.0 c.loop-frame.invariant.sending
          c.in_ok-send.ensures.coming c.in_ok-send.ensures.received c.in_ok-send.ensures.sent;
      later = omega (arith, c.loop-frame.invariant.later, c.in_ok-send.ensures.cause.later);
    }

pub loop-frame-preserved : goal.loop-frame-preserved
loop-frame-preserved g c =
    record {
      sending = sending-next _ _ _ _ _ _ c.in-Some.frame _ _ _ c.in-Some.ensures.steps.0 c.loop-frame.invariant.sending
          c.in_ok-send.ensures.coming c.in_ok-send.ensures.received c.in_ok-send.ensures.sent;
      later = omega (arith, c.loop-frame.invariant.later, c.in_ok-send.ensures.cause.later);
    }
