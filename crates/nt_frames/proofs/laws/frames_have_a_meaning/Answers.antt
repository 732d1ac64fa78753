use Rattle.nt_frames.proofs.Meanings.{meaning-some}
use Rattle.nt_frames.proofs.laws.frames_have_a_meaning.Goals as goal

pub returns : goal.returns
returns c = meaning-some
