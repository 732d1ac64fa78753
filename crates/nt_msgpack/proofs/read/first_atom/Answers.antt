use Rattle.std.proofs.Common.{◌≡◌, ℕ, ◌-◌, ◌<◌, ◌≤◌, List, [], ◌∷◌, length, get_or, take, drop, Option, None, Some, refl, ap, ◌∙◌, arith}
use Rattle.std.specs.Option.{unwrap_or}
use Rattle.std.proofs.lemmas.List.{take_all}
use Rattle.nt_msgpack.specs.declared.atom.AtomRead.{AtomRead}
use Rattle.nt_msgpack.specs.declared.atom.AtomRead.TheVariants as answers
use Rattle.nt_msgpack.specs.Atoms.{format_of}
use Rattle.nt_msgpack.specs.Reading.{Reading, short, reading_of, answer_of, after_first, atom_at}
use Rattle.nt_msgpack.proofs.read.first_atom.Goals as goal

-- no bytes are too few
none-short : (bytes : List ℕ) → length bytes < 1 → short ≡ atom_at bytes
unfolding atom_at
none-short [] few = refl
none-short (b ∷ bs) few = absurd (omega arith)

-- the first byte, and those after it
first-after : (bytes : List ℕ) (r : Reading) → 1 ≤ length bytes
    → r ≡ after_first (get_or bytes 0 0) (format_of (get_or bytes 0 0)) (take (length bytes - 1) (drop 1 bytes))
    → r ≡ atom_at bytes
unfolding atom_at
first-after [] r some e = absurd (omega arith)
first-after (b ∷ bs) r some e = let all : take (length (b ∷ bs) - 1) bs ≡ bs = take_all _ bs (omega arith) in
    e ∙ ap (after_first b (format_of b)) all

-- no answer is the answer that the bytes are too few
unwrap_or-short : (o : Option AtomRead) → reading_of (unwrap_or o answers.Short) ≡ answer_of o
unwrap_or-short None = refl
unwrap_or-short (Some answer) = refl

pub returns-in_default : goal.returns-in_default
returns-in_default c = none-short _ c.in_default.len_below

pub returns : goal.returns
returns c = ap reading_of c.unwrap_or.ensures ∙ unwrap_or-short c.atom_after.result
    ∙ first-after _ _ c.in-len1-up.len_at_least c.atom_after.ensures
