use Rattle.std.proofs.lemmas.Result.{err_from_is_err_and}
use Rattle.nt_tools.specs.declared.status.ToolFault.TheVariants.{Memory}
use Rattle.nt_tools.proofs.Printing.{nothing-printed, stopped-other}
use Rattle.nt_log_tools.proofs.log_items.print_item.Goals as goal

pub returns-in_err-append_line-in-Show-clause-stopped :
    goal.returns-in_err-append_line-in-Show-clause-stopped
returns-in_err-append_line-in-Show-clause-stopped g c =
    let p = err_from_is_err_and c.from_residual.result c.from_residual.ensures.1 in
    rw (p.1, p.2) (stopped-other _ _ Memory _ _ (λ is. cc) (nothing-printed _ _))
