-- What is in a list after an item was inserted or taken out.
use Rattle.std.proofs.Common.{◌≡◌, ◌⊎◌, ◌<◌, ℕ, zero, suc, List, [], ◌∷◌, length, get_or, inl, inr, refl, sym, arith}
use Rattle.std.specs.Prelude.{insert, remove}
use Rattle.std.specs.List.{Contains}
use Rattle.std.proofs.lemmas.List.Sorted.{Contains-permutation, IsPermutation-insert, IsPermutation-remove}

pub contains-first : {X : Type 0} (x : X) (xs : List X) → Contains (x ∷ xs) x
contains-first x xs = (0, (omega arith), refl)

pub contains-more : {X : Type 0} (y x : X) (xs : List X) → Contains xs x → Contains (y ∷ xs) x
contains-more y x xs h = (suc h.0, (let lt = h.1 in omega arith), h.2)

pub contains-split : {X : Type 0} (y x : X) (xs : List X) → Contains (y ∷ xs) x → (x ≡ y) ⊎ Contains xs x
contains-split y x xs (zero, lt, e) = inl (sym e)
contains-split y x xs (suc i, lt, e) = inr (i, (omega arith), e)

pub contains-none : {X : Type 0} (x : X) → Contains {X = X} [] x → ⊥
contains-none x h = let lt = h.1 in omega arith

pub inserted : {X : Type 0} (xs : List X) (i : ℕ) (y : X) → Contains (insert xs i y) y
inserted xs i y = Contains-permutation (y ∷ xs) (insert xs i y) y (IsPermutation-insert xs i y) (contains-first y xs)

pub insert-keeps : {X : Type 0} (xs : List X) (i : ℕ) (y x : X) → Contains xs x → Contains (insert xs i y) x
insert-keeps xs i y x h =
    Contains-permutation (y ∷ xs) (insert xs i y) x (IsPermutation-insert xs i y) (contains-more y x xs h)

pub remove-keeps : {X : Type 0} (xs : List X) (i : ℕ) (y x : X) → i < length xs → y ≡ get_or xs i y → Contains xs x
    → (x ≡ y) ⊎ Contains (remove xs i) x
remove-keeps xs i y x lt e h =
    contains-split y x (remove xs i)
    (Contains-permutation xs (y ∷ remove xs i) x (IsPermutation-remove xs i y lt e) h)
