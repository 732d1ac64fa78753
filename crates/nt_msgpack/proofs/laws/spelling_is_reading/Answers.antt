use Rattle.nt_msgpack.proofs.Spellings.{atom_at-spelled, atom_at-got, atom_at-is_short, atom_at-is_bad, short-no_spelling, bad-no_spelling}
use Rattle.nt_msgpack.proofs.laws.spelling_is_reading.Goals as goal

pub returns-clause-reads : goal.returns-clause-reads
returns-clause-reads c = atom_at-spelled

pub returns-clause-got : goal.returns-clause-got
returns-clause-got c = atom_at-got

pub returns-clause-short : goal.returns-clause-short
returns-clause-short c = atom_at-is_short

pub returns-clause-bad : goal.returns-clause-bad
returns-clause-bad c = atom_at-is_bad

pub returns-clause-none_short : goal.returns-clause-none_short
returns-clause-none_short c = short-no_spelling

pub returns-clause-none_bad : goal.returns-clause-none_bad
returns-clause-none_bad c = bad-no_spelling
