use Rattle.std.proofs.Common.{length, sym}
use Rattle.std.proofs.lemmas.Bool.{eqb-false}
use Rattle.nt_cli.proofs.DeskSteps.{last-some}
use Rattle.nt_cli.proofs.desk.answer_last.Goals as goal

pub returns-clause-prints : goal.returns-clause-prints
returns-clause-prints g c = λ decode is_decoding past connected.
    last-some decode past c.args.number c.args.line.now _ _ c.answer_line.result
    (eqb-false (length c.args.line.now) 0 (sym c.if-is_empty.ensures))
    (c.answer_line.ensures.prints decode is_decoding past connected)
