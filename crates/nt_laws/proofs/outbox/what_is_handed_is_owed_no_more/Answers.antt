use Rattle.nt_laws.proofs.marks.HandedKeys.{left-drained}
use Rattle.nt_laws.proofs.outbox.what_is_handed_is_owed_no_more.Goals as goal

pub returns : goal.returns
returns c = left-drained
