use Rattle.nt_msgpack.specs.Atoms.{shortest}
use Rattle.nt_msgpack.proofs.Spellings.{atom_at-spelled}
use Rattle.nt_msgpack.proofs.Shortest.{shortest-spelled}
use Rattle.nt_msgpack.proofs.Fewest.{shortest-fewest}
use Rattle.nt_msgpack.proofs.laws.shortest_is_least.Goals as goal

pub returns-clause-spells : goal.returns-clause-spells
returns-clause-spells c = shortest-spelled

pub returns-clause-again : goal.returns-clause-again
returns-clause-again c = λ a rest fits typed. atom_at-spelled a (shortest a) rest (shortest-spelled a fits typed)

pub returns-clause-fewest : goal.returns-clause-fewest
returns-clause-fewest c = shortest-fewest
