use Rattle.std.proofs.Common.{◌∙◌, ap, arith, set}
use Rattle.nt_rules.proofs.Positions.{change-set}
use Rattle.nt_rules.specs.outbox.Marks.{weight}
use Rattle.nt_outbox.specs.Steps.{after, left_of}
use Rattle.nt_outbox.proofs.Weights.{part-weight, weight-set, weight-settled}
use Rattle.nt_outbox.proofs.marks.change_at.Goals as goal

pub apply-requires : goal.apply-requires
apply-requires c =
    let part =
    part-weight c.args.marks.now.items c.args.i c.index_mut.result.now
    (omega arith) c.index_mut.ensures.value in
    let all = c.requires.weighed in omega arith

pub returns-clause-marks : goal.returns-clause-marks
returns-clause-marks c =
    c.settle.ensures
    ∙ change-set left_of (after c.args.step) c.args.marks.now.items c.args.i c.index_mut.result.now
    c.apply.new.mark
    c.index_mut.ensures.value c.in_ok-weight.ensures.mark

pub returns-clause-weighed : goal.returns-clause-weighed
returns-clause-weighed c =
    let settled = ap weight c.settle.ensures in
    let same = weight-settled (set c.args.marks.now.items c.args.i c.apply.new.mark) c.args.i in
    let changed =
    weight-set c.args.marks.now.items c.args.i c.index_mut.result.now c.apply.new.mark (omega arith)
    c.index_mut.ensures.value in
    let told = c.in_ok-weight.ensures.weight in
    let all = c.requires.weighed in omega arith
