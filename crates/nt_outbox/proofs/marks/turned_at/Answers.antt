use Rattle.std.proofs.Common.{◌≡◌, ◌∙◌, Ok, Err, [], ap, sym, subst, set, arith}
use Rattle.nt_rules.proofs.Positions.{change-set}
use Rattle.nt_rules.specs.outbox.Marks.{turned, weight, at_id}
use Rattle.nt_outbox.specs.Steps.{left_of, position_of, RiseFrom}
use Rattle.nt_outbox.proofs.Places.{stands, gap, rise-turned}
use Rattle.nt_outbox.proofs.Weights.{part-weight, weight-set, weight-settled}
use Rattle.nt_outbox.proofs.marks.turned_at.Goals as goal

pub turned-weight-requires : goal.turned-weight-requires
turned-weight-requires c =
    let at : position_of c.args.id c.args.marks.now.items ≡ Ok c.in-Ok.i = cc in
    let within = (stands c.args.id c.args.marks.now.items c.in-Ok.i at).within in
    let part =
    part-weight c.args.marks.now.items c.in-Ok.i c.index_mut.result.now (omega arith) c.index_mut.ensures.value in
    let all = c.requires.weighed in omega arith

turned_of : (c : goal.After-settle) → c.settle.new.marks.items ≡ at_id c.args.id [] turned c.args.marks.now.items
turned_of c =
    let at : position_of c.args.id c.args.marks.now.items ≡ Ok c.in-Ok.i = cc in
    c.settle.ensures
    ∙ change-set left_of turned c.args.marks.now.items c.in-Ok.i c.index_mut.result.now c.turned-weight.new.mark
    c.index_mut.ensures.value c.turned-weight.ensures.mark
    ∙ sym ((stands c.args.id c.args.marks.now.items c.in-Ok.i at).changed [] turned)

pub returns-in-Ok-clause-marks : goal.returns-in-Ok-clause-marks
returns-in-Ok-clause-marks c = turned_of c

pub returns-in-Ok-clause-rising : goal.returns-in-Ok-clause-rising
returns-in-Ok-clause-rising c =
    subst (RiseFrom 0) (sym (turned_of c))
    (rise-turned c.args.id c.args.marks.now.items (omega arith) c.requires.rising)

pub returns-in-Ok-clause-weighed : goal.returns-in-Ok-clause-weighed
returns-in-Ok-clause-weighed c =
    let at : position_of c.args.id c.args.marks.now.items ≡ Ok c.in-Ok.i = cc in
    let within = (stands c.args.id c.args.marks.now.items c.in-Ok.i at).within in
    let settled = ap weight c.settle.ensures in
    let same = weight-settled (set c.args.marks.now.items c.in-Ok.i c.turned-weight.new.mark) c.in-Ok.i in
    let changed =
    weight-set c.args.marks.now.items c.in-Ok.i c.index_mut.result.now c.turned-weight.new.mark (omega arith)
    c.index_mut.ensures.value in
    let told = c.turned-weight.ensures.weight in
    let all = c.requires.weighed in omega arith

pub returns-in-Err-clause-marks : goal.returns-in-Err-clause-marks
returns-in-Err-clause-marks c =
    let at : position_of c.args.id c.args.marks.now.items ≡ Err c.in-Err.field-0 = cc in
    sym ((gap c.args.id c.args.marks.now.items c.in-Err.field-0 at).put [] turned)
