use Rattle.std.proofs.Common.{◌≡◌, ◌∙◌, Ok, Err, sym, ap, subst, arith}
use Rattle.nt_rules.specs.outbox.Marks.{weight}
use Rattle.nt_outbox.specs.Steps.{position_of}
use Rattle.nt_outbox.proofs.Places.{stands}
use Rattle.nt_outbox.proofs.Weights.{part-weight, weight-set}
use Rattle.nt_outbox.proofs.Runs.{handed-at, handed-nowhere}
use Rattle.nt_outbox.proofs.marks.hand_at.Goals as goal

pub overflow_sub-queued : goal.overflow_sub-queued
overflow_sub-queued c =
    let at : position_of c.args.id c.args.marks.now.items ≡ Ok c.in-Ok.i = cc in
    let within = (stands c.args.id c.args.marks.now.items c.in-Ok.i at).within in
    let part =
    part-weight c.args.marks.now.items c.in-Ok.i c.index_mut-mark.result.now (omega arith) c.index_mut-mark.ensures.value in
    let told = c.in_ok-before-in-Ok.ensures in
    let all = c.requires.weighed in omega arith

pub returns-in_ok-weight-in-Ok-clause-marks : goal.returns-in_ok-weight-in-Ok-clause-marks
returns-in_ok-weight-in-Ok-clause-marks c =
    let at : position_of c.args.id c.args.marks.now.items ≡ Ok c.in-Ok.i = cc in
    handed-at c.args.id c.in-Ok.i c.args.keys.now c.args.marks.now.items c.index_mut-mark.result.now c.hand.new.mark
    c.requires.rising c.requires.topic at c.index_mut-mark.ensures.value c.hand.ensures

pub returns-in_ok-weight-in-Ok-clause-weighed : goal.returns-in_ok-weight-in-Ok-clause-weighed
returns-in_ok-weight-in-Ok-clause-weighed c =
    let at : position_of c.args.id c.args.marks.now.items ≡ Ok c.in-Ok.i = cc in
    let within = (stands c.args.id c.args.marks.now.items c.in-Ok.i at).within in
    let part =
    part-weight c.args.marks.now.items c.in-Ok.i c.index_mut-mark.result.now (omega arith) c.index_mut-mark.ensures.value in
    let changed =
    weight-set c.args.marks.now.items c.in-Ok.i c.index_mut-mark.result.now c.hand.new.mark (omega arith)
    c.index_mut-mark.ensures.value in
    let before = c.in_ok-before-in-Ok.ensures in
    let after = c.in_ok-after-in-Ok.ensures in
    let told = c.in_ok-weight-in-Ok.ensures in
    let all = c.requires.weighed in omega arith

pub returns-in-Err-clause-marks : goal.returns-in-Err-clause-marks
returns-in-Err-clause-marks c =
    let at : position_of c.args.id c.args.marks.now.items ≡ Err c.in-Err.field-0 = cc in
    handed-nowhere c.args.id c.in-Err.field-0 c.args.keys.now c.args.marks.now.items c.requires.rising c.requires.topic
    at
