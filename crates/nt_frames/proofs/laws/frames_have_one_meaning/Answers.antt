use Rattle.nt_frames.proofs.Faults.{messages-meet}
use Rattle.nt_frames.proofs.Runs.{meanings-meet, fault-longest}
use Rattle.nt_frames.proofs.laws.frames_have_one_meaning.Goals as goal

pub returns-clause-one : goal.returns-clause-one
returns-clause-one c = meanings-meet

pub returns-clause-apart : goal.returns-clause-apart
returns-clause-apart c = λ m n x y r s p q e. let same = messages-meet m n x y r s p q e in
    (same.message, same.spelling)

pub returns-clause-longest : goal.returns-clause-longest
returns-clause-longest c = fault-longest
