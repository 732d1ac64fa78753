use Rattle.nt_msgpack.proofs.Spellings.{spelling-one}
use Rattle.nt_msgpack.proofs.laws.spellings_are_apart.Goals as goal

pub returns : goal.returns
returns c = spelling-one
