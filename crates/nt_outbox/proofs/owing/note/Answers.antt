use Rattle.std.proofs.Common.{◌∙◌, Ok, Err, sym}
use Rattle.nt_outbox.proofs.Ids.{found}
use Rattle.nt_outbox.proofs.owing.note.Goals as goal

pub returns-in_ok-insert : goal.returns-in_ok-insert
returns-in_ok-insert c =
    rw c.if-not-owes.false
    (c.in_ok-insert.ensures.items
    ∙ sym (found c.args.id c.args.owing.now.items c.deref.result.now (Err c.in-Err.i) c.deref.ensures.value c.requires
    c.in-Err.ensures.position).put)

pub returns-in_default : goal.returns-in_default
returns-in_default c =
    rw c.if-not-owes.false
    (sym (found c.args.id c.args.owing.now.items c.deref.result.now (Ok c.in_default.field-0) c.deref.ensures.value
    c.requires c.in_default.ensures.position).put)
