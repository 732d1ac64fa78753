-- Ids in their order.
use Rattle.std.specs.Prelude.{ℕ, List, [], ◌∷◌, ◌≤◌, ◌+◌, ◌==◌, nat_lt, if◌then◌else◌}

-- the ids rise, from this number on
abbrev pub RiseIds : ℕ → List ℕ → Type 0
RiseIds n [] = Unit {0}
RiseIds n (x ∷ xs) = (n ≤ x) × RiseIds (x + 1) xs

-- the ids with this one, and without it
abbrev pub with_id : ℕ → List ℕ → List ℕ
with_id id [] = id ∷ []
with_id id (x ∷ xs) =
    if x == id then x ∷ xs
    else if nat_lt id x then id ∷ x ∷ xs
    else x ∷ with_id id xs

abbrev pub without_id : ℕ → List ℕ → List ℕ
without_id id [] = []
without_id id (x ∷ xs) =
    if x == id then xs
    else if nat_lt id x then x ∷ xs
    else x ∷ without_id id xs
