-- An array that is written element by element.
use Rattle.std.specs.Prelude.{ℕ, ◌+◌, Bool, true, false, List, [], ◌∷◌, ◌++◌, length, nat_le, if◌then◌else◌}
use Rattle.nt_msgpack.specs.Atoms.{AtomValue, array_head, shortest}
use Rattle.nt_rules.specs.Limits.{most_bytes}
use Rattle.nt_rules.specs.meta.Elements.{spelled}

-- the elements so far: how many were kept, their bytes, and whether one was cut off
pub record Packed : Type 0 where
  pub count : ℕ
  pub bytes : List ℕ
  pub is_full : Bool

abbrev pub none_packed : Packed
none_packed = record { count = 0; bytes = []; is_full = false }

-- and one more, unless it makes them too long or one did before
abbrev pub with_element : Packed → List ℕ → Packed
with_element p x =
    if p.is_full then p
    else if nat_le (length p.bytes + length x) most_bytes
    then record { count = p.count + 1; bytes = p.bytes ++ x; is_full = false }
    else record p { is_full = true }

-- and many more
abbrev pub with_elements : Packed → List (List AtomValue) → Packed
with_elements p [] = p
with_elements p (x ∷ xs) = with_elements (with_element p (spelled x)) xs

-- the array that they make
abbrev pub packed_bytes : Packed → List ℕ
packed_bytes p = shortest (array_head p.count) ++ p.bytes
