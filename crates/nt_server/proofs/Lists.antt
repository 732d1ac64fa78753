-- Lists that are passed item by item.
use Rattle.std.proofs.Common.{◌≡◌, ◌≤◌, ◌+◌, ◌||◌, ℕ, zero, suc, Bool, true, false, List, [], ◌∷◌, ◌++◌, Some, drop, length, map, refl, sym, ◌∙◌, ap, append_assoc, add-one, arith}
use Rattle.std.specs.List.{slice_get, list_any}

-- the item at a place begins what is left there
pub drop_at : {X : Type 0} (xs : List X) (i : ℕ) (x : X) → slice_get xs i ≡ Some x
    → drop i xs ≡ x ∷ drop (i + 1) xs
drop_at {X} xs i x h = rw add-one (down xs i h)
  where
    down : (xs : List X) (i : ℕ) → slice_get xs i ≡ Some x → drop i xs ≡ x ∷ drop (suc i) xs
    down [] i h = absurd (cc)
    down (y ∷ ys) zero h = cc
    down (y ∷ ys) (suc i) h = down ys i h

-- nothing is left past the end
pub drop_past : {X : Type 0} (xs : List X) (i : ℕ) → length xs ≤ i → drop i xs ≡ []
drop_past [] zero h = refl
drop_past [] (suc i) h = refl
drop_past (x ∷ xs) zero h = absurd (omega arith)
drop_past (x ∷ xs) (suc i) h = drop_past xs i (omega arith)

-- one row more of a list that is passed item by item
pub row_more : {X Y : Type 0} (f : X → Y) (rows later all : List Y) (xs : List X) (i : ℕ) (x : X) (y : Y)
    → slice_get xs i ≡ Some x → y ≡ f x → later ≡ rows ++ y ∷ [] → rows ++ map f (drop i xs) ≡ all
    → later ++ map f (drop (i + 1) xs) ≡ all
row_more f rows later all xs i x y h e pushed before =
    ap (λ ys. ys ++ map f (drop (i + 1) xs)) (pushed ∙ ap (λ z. rows ++ z ∷ []) e)
    ∙ append_assoc rows (f x ∷ []) (map f (drop (i + 1) xs))
    ∙ ap (λ ys. rows ++ map f ys) (sym (drop_at xs i x h))
    ∙ before

-- whether one passes a test, where those before it don't: it is the one at a place, or stands after it
pub any_here : {X : Type 0} (test : X → Bool) (xs : List X) (i : ℕ) (x : X) → slice_get xs i ≡ Some x → test x ≡ true
    → list_any test (drop i xs) ≡ list_any test xs → true ≡ list_any test xs
any_here test xs i x h passes before =
    sym (ap (λ ys. list_any test ys) (drop_at xs i x h) ∙ ap (λ b. b || list_any test (drop (i + 1) xs)) passes)
    ∙ before

pub any_later : {X : Type 0} (test : X → Bool) (xs : List X) (i : ℕ) (x : X) → slice_get xs i ≡ Some x → test x ≡ false
    → list_any test (drop i xs) ≡ list_any test xs → list_any test (drop (i + 1) xs) ≡ list_any test xs
any_later test xs i x h fails before =
    sym (ap (λ ys. list_any test ys) (drop_at xs i x h) ∙ ap (λ b. b || list_any test (drop (i + 1) xs)) fails)
    ∙ before
