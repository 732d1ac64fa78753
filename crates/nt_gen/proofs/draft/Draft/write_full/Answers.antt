use Rattle.std.proofs.lemmas.Result.{err_from_is_err_and}
use Rattle.nt_tools.proofs.Printing.{print-stopped}
use Rattle.nt_gen.proofs.draft.Draft.write_full.Goals as goal

pub returns-in_err-write-clause-stopped : goal.returns-in_err-write-clause-stopped
returns-in_err-write-clause-stopped g c =
    let e = c.in_err-write.ensures in
    let p = err_from_is_err_and c.from_residual.result c.from_residual.ensures.1 in
    rw (p.1, p.2)
    (print-stopped c.args.self.now.bytes.items c.deref.result.now (g.S.Sink.taken c.args.sink.now)
    (g.S.Sink.taken c.write.new.sink) c.in_err-write.field-0.0 c.deref.ensures.value e.only e.prints)
