-- Lists in which the keys of the items rise, where keys have a sign.
use Rattle.std.specs.Prelude.{◌≡◌, ℕ, zero, suc, ℤ, ◌<ℤ◌, List, [], ◌∷◌}

-- the keys are all above this one
abbrev pub AreAbove : {X : Type 0} → (X → ℤ) → ℤ → List X → Type 0
AreAbove key k [] = Unit {0}
AreAbove key k (x ∷ xs) = (k <ℤ key x) × AreAbove key k xs

-- each key is below those after it
abbrev pub Rise : {X : Type 0} → (X → ℤ) → List X → Type 0
Rise key [] = Unit {0}
Rise key (x ∷ xs) = AreAbove key (key x) xs × Rise key xs

-- the item at this index has this key: those before it have lesser ones, those after it greater ones
abbrev pub IsFoundAt : {X : Type 0} → (X → ℤ) → ℤ → List X → ℕ → Type 0
IsFoundAt key k [] i = ⊥
IsFoundAt key k (x ∷ xs) zero = (key x ≡ k) × AreAbove key k xs
IsFoundAt key k (x ∷ xs) (suc i) = (key x <ℤ k) × IsFoundAt key k xs i

-- no item has this key: those before this index have lesser ones, those from it on greater ones
abbrev pub IsMissedAt : {X : Type 0} → (X → ℤ) → ℤ → List X → ℕ → Type 0
IsMissedAt key k [] zero = Unit {0}
IsMissedAt key k [] (suc i) = ⊥
IsMissedAt key k (x ∷ xs) zero = (k <ℤ key x) × AreAbove key k xs
IsMissedAt key k (x ∷ xs) (suc i) = (key x <ℤ k) × IsMissedAt key k xs i
