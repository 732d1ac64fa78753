use Rattle.nt_laws.proofs.topics.SavedOnce.{saved-once}
use Rattle.nt_laws.proofs.history.saved_sets_are_one.Goals as goal

pub returns : goal.returns
returns c = saved-once
