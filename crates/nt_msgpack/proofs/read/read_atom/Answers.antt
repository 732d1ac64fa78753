use Rattle.std.proofs.Common.{◌≡◌, sym, subst}
use Rattle.std.specs.Prelude.{◌<◌, ◌≤◌, length, take, ◌↔◌}
use Rattle.nt_msgpack.specs.Atoms.{Spells}
use Rattle.nt_msgpack.specs.Reading.{Reading, got, short, bad, IsShort, IsBad}
use Rattle.nt_msgpack.proofs.Spellings.{atom_at-got, atom_at-is_short, atom_at-is_bad}
use Rattle.nt_msgpack.proofs.read.read_atom.Goals as goal

pub returns-clause-got : goal.returns-clause-got
returns-clause-got c = λ atom used.
    let bytes = c.args.bytes.now in
    subst (λ (r : Reading). (r ≡ got atom used) ↔
    ((0 < used) × (used ≤ length bytes) × Spells atom (take used bytes))) (sym c.first_atom.ensures)
    (atom_at-got bytes atom used)

pub returns-clause-short : goal.returns-clause-short
returns-clause-short c = subst (λ (r : Reading). (r ≡ short) ↔ IsShort c.args.bytes.now) (sym c.first_atom.ensures)
    (atom_at-is_short c.args.bytes.now)

pub returns-clause-bad : goal.returns-clause-bad
returns-clause-bad c = λ first. subst (λ (r : Reading). (r ≡ bad first) ↔ IsBad c.args.bytes.now first)
    (sym c.first_atom.ensures) (atom_at-is_bad c.args.bytes.now first)
