use Rattle.nt_lock_rows.specs.Crowds.{IsSame}
use Rattle.nt_serve_rows.proofs.rows.play_all.Given as goal

abbrev pub invariant-loop-row : goal.invariant-loop-row
invariant-loop-row g l = IsSame l.fn.first l.first × IsSame l.fn.second l.second
