use Rattle.std.proofs.Common.{◌≡◌, List, ℕ, rules, subst}
use Rattle.std.proofs.lemmas.Result.{err_from_is_err_and}
use Rattle.nt_cli.specs.Desk.{line_fault}
use Rattle.nt_tools.specs.Printing.{Prints}
use Rattle.nt_tools.proofs.Printing.{prefix-none}
use Rattle.nt_cli.proofs.desk_output.print_line_fault.Goals as goal

pub returns-in_err-text-clause-prints : goal.returns-in_err-text-clause-prints
returns-in_err-text-clause-prints g c =
    let p = err_from_is_err_and c.from_residual.result c.from_residual.ensures.1 in rw (p.1, p.2) (prefix-none _ _)

pub returns-clause-prints : goal.returns-clause-prints
unfolding line_fault
returns-clause-prints g c =
    let text : c.as_str.result.now ≡ line_fault c.args.number = search rules in
    subst (λ (l : List ℕ). Prints l (g.O.Sink.taken c.args.out.now) (g.O.Sink.taken c.print.new.out) c.print.result)
    text c.print.ensures.prints
