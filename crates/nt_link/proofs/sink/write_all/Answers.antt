use Rattle.std.proofs.Common.{◌-◌, length, drop, ◌∙◌, arith}
use Rattle.std.proofs.KnownBytes.{Appends-trans}
use Rattle.std.proofs.Math.Seq.{take-add}
use Rattle.std.proofs.lemmas.List.{take_rest, length-take, length-drop}
use Rattle.nt_link.proofs.Transfers.{StaysAtEnd-trans}
use Rattle.nt_link.proofs.sink.write_all.Goals as goal

pub loop-at-preserved : goal.loop-at-preserved
loop-at-preserved g c =
    let done = c.loop-at.invariant in
    record {
      within = omega (arith, c.loop-at-test.true, c.in-Ok.ensures.bound, length-take (length c.args.bytes.now - c.loop-at.at) (drop c.loop-at.at c.args.bytes.now), length-drop c.loop-at.at c.args.bytes.now);
      taken = rw (take-add c.loop-at.at c.in-Ok.count c.args.bytes.now, ← take_rest c.args.bytes.now c.loop-at.at) (Appends-trans _ _ _ _ _ done.taken c.in-Ok.ensures.bytes);
      later = omega (arith, done.later, c.write.ensures.cause.later);
      end = StaysAtEnd-trans _ _ _ done.end c.write.ensures.end done.later;
      aside = c.write.ensures.aside ∙ done.aside;
    }
