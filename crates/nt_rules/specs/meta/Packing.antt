-- The array that a list of elements makes: the longest prefix of them whose spellings have at most 1,048,576
-- bytes together.
use Rattle.std.specs.Prelude.{ℕ, ◌+◌, List, [], ◌∷◌, ◌++◌, length, map, nat_le, if◌then◌else◌}
use Rattle.std.specs.List.{flat_map}
use Rattle.nt_msgpack.specs.Atoms.{AtomValue, array_head, shortest}
use Rattle.nt_rules.specs.meta.Elements.{spelled}
use Rattle.nt_rules.specs.Limits.{most_bytes}

-- the longest prefix of these spellings that stays within them, behind so many bytes
abbrev pub fitting : ℕ → List (List ℕ) → List (List ℕ)
fitting before [] = []
fitting before (x ∷ xs) =
    if nat_le (before + length x) most_bytes then x ∷ fitting (before + length x) xs else []

-- the head with the number of elements kept, and then these
abbrev pub array_of : List (List ℕ) → List ℕ
array_of kept = shortest (array_head (length kept)) ++ flat_map (λ x. x) kept

-- the array of these elements, cut where they get too long
abbrev pub array_bytes : List (List AtomValue) → List ℕ
array_bytes elements = array_of (fitting 0 (map spelled elements))
