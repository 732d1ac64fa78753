use Rattle.std.proofs.Common.{◌∙◌, Ok, Err, sym}
use Rattle.nt_outbox.proofs.Ids.{found}
use Rattle.nt_outbox.proofs.owing.forget.Goals as goal

pub returns-in-Ok : goal.returns-in-Ok
returns-in-Ok c =
    c.remove.ensures.items
    ∙ sym (found c.args.id c.args.owing.now.items c.deref.result.now (Ok c.in-Ok.i) c.deref.ensures.value c.requires
    c.in-Ok.ensures.position).taken

pub returns-in_default : goal.returns-in_default
returns-in_default c =
    sym (found c.args.id c.args.owing.now.items c.deref.result.now (Err c.in_default.field-0) c.deref.ensures.value
    c.requires c.in_default.ensures.position).taken
