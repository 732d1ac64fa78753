use Rattle.std.proofs.Common.{◌≡◌, Ok, Err, sym}
use Rattle.nt_outbox.specs.Steps.{position_of}
use Rattle.nt_outbox.proofs.Places.{mark-found, mark-missing}
use Rattle.nt_outbox.proofs.marks.mark_at.Goals as goal

pub returns-in-Ok : goal.returns-in-Ok
returns-in-Ok c =
    let at : position_of c.args.id c.args.marks.now ≡ Ok c.in-Ok.i = cc in
    sym (mark-found c.args.id c.args.marks.now c.in-Ok.i c.index-marks-i.result at c.index-marks-i.is)

pub returns-in-Err : goal.returns-in-Err
returns-in-Err c =
    let at : position_of c.args.id c.args.marks.now ≡ Err c.in-Err.field-0 = cc in
    sym (mark-missing c.args.id 0 c.args.marks.now c.in-Err.field-0 c.requires at)
