use Rattle.std.proofs.Common.{string_bytes}
use Rattle.std.proofs.lemmas.Result.{err_from_is_err_and}
use Rattle.nt_tools.proofs.Printing.{print-stopped}
use Rattle.nt_log_tools.proofs.log_items.print_full.Goals as goal

pub returns-in_err-print-clause-stopped : goal.returns-in_err-print-clause-stopped
returns-in_err-print-clause-stopped g c =
    let e = c.in_err-print.ensures in
    let p = err_from_is_err_and c.from_residual.result c.from_residual.ensures.1 in
    rw (p.1, p.2)
    (print-stopped (string_bytes c.args.lines.now) c.as_str.result.now (g.O.Sink.taken c.args.out.now)
    (g.O.Sink.taken c.print.new.out) c.in_err-print.field-0.0 c.as_str.ensures.value e.only e.prints)
