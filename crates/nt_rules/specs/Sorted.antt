-- Lists in which the keys of the items rise, so that each key stands there at most once.
use Rattle.std.specs.Prelude.{ℕ, zero, suc, List, [], ◌∷◌, Option, Some, None, ◌≡◌, ◌≤◌, ◌<◌, ◌+◌, ◌==◌, nat_lt, if◌then◌else◌}
use Rattle.std.specs.List.{cons_option}

-- the keys rise, from this number on
abbrev pub RisesFrom : {X : Type 0} → (X → ℕ) → ℕ → List X → Type 0
RisesFrom key n [] = Unit {0}
RisesFrom key n (x ∷ xs) = (n ≤ key x) × RisesFrom key (key x + 1) xs

-- the keys are below this number
abbrev pub AreBelow : {X : Type 0} → (X → ℕ) → ℕ → List X → Type 0
AreBelow key n [] = Unit {0}
AreBelow key n (x ∷ xs) = (key x < n) × AreBelow key n xs

-- the item at this index has this key: those before it have lesser ones, those after it greater ones
abbrev pub IsFoundAt : {X : Type 0} → (X → ℕ) → ℕ → List X → ℕ → Type 0
IsFoundAt key k [] i = ⊥
IsFoundAt key k (x ∷ xs) zero = (key x ≡ k) × RisesFrom key (k + 1) xs
IsFoundAt key k (x ∷ xs) (suc i) = (key x < k) × IsFoundAt key k xs i

-- no item has this key: those before this index have lesser ones, those from it on greater ones
abbrev pub IsMissedAt : {X : Type 0} → (X → ℕ) → ℕ → List X → ℕ → Type 0
IsMissedAt key k [] zero = Unit {0}
IsMissedAt key k [] (suc i) = ⊥
IsMissedAt key k (x ∷ xs) zero = (k + 1 ≤ key x) × RisesFrom key (key x + 1) xs
IsMissedAt key k (x ∷ xs) (suc i) = (key x < k) × IsMissedAt key k xs i

-- the list with the item of this key changed by f, which is given None where no item has it: then what f answers is
-- inserted where its key belongs. Where f answers None, nothing is left there
abbrev pub with_key : {X : Type 0} → (X → ℕ) → ℕ → (Option X → Option X) → List X → List X
with_key key k f [] = cons_option (f None) []
with_key key k f (x ∷ xs) =
    if key x == k then cons_option (f (Some x)) xs
    else if nat_lt k (key x) then cons_option (f None) (x ∷ xs)
    else x ∷ with_key key k f xs

-- what may stand under this key
abbrev pub HasKey : {X : Type 0} → (X → ℕ) → ℕ → Option X → Type 0
HasKey key k None = Unit {0}
HasKey key k (Some x) = key x ≡ k
