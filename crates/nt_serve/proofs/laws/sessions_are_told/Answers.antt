use Rattle.nt_serve.proofs.Telling.{steps-told}
use Rattle.nt_serve.proofs.laws.sessions_are_told.Goals as goal

pub returns : goal.returns
returns c = steps-told
