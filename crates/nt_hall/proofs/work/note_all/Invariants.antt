use Rattle.std.proofs.Common.{◌≡◌}
use Rattle.nt_record.specs.declared.recorder.RecState.TheVariants.{Off}
use Rattle.nt_hall.proofs.work.note_all.Given as goal

abbrev pub invariant-loop-change : goal.invariant-loop-change
invariant-loop-change g l = l.fn.recorder.state ≡ Off → l.recorder ≡ l.fn.recorder
