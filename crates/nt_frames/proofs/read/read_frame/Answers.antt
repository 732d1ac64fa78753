use Rattle.std.proofs.Common.{◌++◌, ◌∙◌, ap, sym, append_assoc, length, refl, rules}
use Rattle.std.proofs.lemmas.Bool.{eqb-true}
use Rattle.nt_frames.proofs.Runs.{frame-more, fault-only, whole-only}
use Rattle.nt_frames.proofs.read.read_frame.Goals as goal

pub loop-rest-preserved : goal.loop-rest-preserved
loop-rest-preserved c =
    let inv = c.loop-rest.invariant in
    let m = c.in-Ok.ensures.message in
    record {
      prefix = inv.prefix ++ m.0;
      whole = inv.whole ∙ ap (λ z. inv.prefix ++ z) m.1 ∙ sym (append_assoc inv.prefix m.0 c.in-Ok.after.now);
      frame = rw c.in_ok-push-in-Ok.ensures.items
          (frame-more c.args.most c.loop-rest.messages.items inv.prefix c.in-Ok.message m.0 inv.frame m.2 m.3);
    }

pub returns-in-Err-Fault-clause-only : goal.returns-in-Err-Fault-clause-only
returns-in-Err-Fault-clause-only c =
    fault-only c.args.most c.args.bytes.now c.loop-rest.messages.items c.loop-rest.invariant.prefix
    c.loop-rest.rest.now _
    c.loop-rest.invariant.whole c.loop-rest.invariant.frame refl (search rules) (search rules)

pub returns-clause-only : goal.returns-clause-only
returns-clause-only c =
    whole-only c.args.most c.args.bytes.now c.loop-rest.messages.items c.loop-rest.invariant.prefix c.loop-rest.rest.now
    c.loop-rest.invariant.whole c.loop-rest.invariant.frame
    (eqb-true (length c.loop-rest.rest.now) 0 (sym c.loop-rest-test.ensures))
