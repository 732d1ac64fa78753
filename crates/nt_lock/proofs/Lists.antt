-- Lists with an item set, read by `get_elem?`, options, and truths.
--     stay                             what holds of the item set and of the others holds of each item
--     total-set                        a sum after an item was set
--     at-inside, same-at, at-middle, at-map-back      an item that is read
--     total-has, total-has-two         a sum is at least what one item adds, or two
--     some-injective, none-is-not-some of std's options
--     if-some                          what is said of an option's value
--     or-left, or-right, either-true, false-is-not-true
use Rattle.std.proofs.Common.{◌≡◌, ◌≢◌, ℕ, zero, suc, ◌+◌, ◌<◌, ◌≤◌, ⊎_elim, List, [], ◌∷◌, ◌++◌, length, map, set, sym, refl, ap, ◌∙◌, subst, arith, sum_by, Bool, true, false, ◌||◌}
use Rattle.std.proofs.lemmas.List.Sums.{sum_by-cons}
use Rattle.std.specs.Prelude.{Option, Some, None, IfSome}
use mathlib.Core.Option.{some, some-ne-none}
use mathlib.Core.Option as maybe
use lib.ListN.{get_elem?}
use Rattle.atomic_table.proofs.Lists.{at_set}

-- ---- options and truths

abbrev some-or : {A : Type 0} → A → Option A → A
some-or other (Some x) = x
some-or other None = other

abbrev is-some : {A : Type 0} → Option A → Type 0
is-some (Some x) = Unit {0}
is-some None = ⊥

pub some-injective : {A : Type 0} (x y : A) → Some x ≡ Some y → x ≡ y
some-injective x y e = ap (some-or x) e

pub none-is-not-some : {A : Type 0} (x : A) → None ≡ Some x → ⊥
none-is-not-some x e = subst is-some (sym e) tt

pub if-some : {A : Type 0} {P Q : A → Type 0} (o : Option A) → IfSome o P → ((x : A) → o ≡ Some x → P x → Q x)
    → IfSome o Q
if-some (Some x) p f = f x refl p
if-some None p f = tt

abbrev is-true : Bool → Type 0
is-true true = Unit {0}
is-true false = ⊥

pub false-is-not-true : false ≡ true → ⊥
false-is-not-true e = subst is-true (sym e) tt

pub either-true : {X : Type 0} (a b : Bool) → a || b ≡ true → (a ≡ true → X) → (b ≡ true → X) → X
either-true true b e f g = f refl
either-true false b e f g = g e

pub or-left : (a b : Bool) → a ≡ true → a || b ≡ true
or-left true b e = refl
or-left false b e = absurd (false-is-not-true e)

pub or-right : (a b : Bool) → b ≡ true → a || b ≡ true
or-right true b e = refl
or-right false b e = e

-- ---- lists

module _ {A : Type 0} where
  pub stay : (P : ℕ → A → Type 0) (l : List A) (me : ℕ) (w : A) → P me w
      → ((j : ℕ) (a : A) → j ≢ me → get_elem? l j ≡ some a → P j a)
      → (j : ℕ) (a : A) → get_elem? (set l me w) j ≡ some a → P j a
  stay P l me w mine others j a e =
      ⊎_elim
      (λ (t : (j ≡ me) × (w ≡ a)). subst (λ (z : ℕ × A). P z.0 z.1) (λ i. (sym t.0 i, t.1 i)) mine)
      (λ (t : (j ≢ me) × (get_elem? l j ≡ some a)). others j a t.0 t.1)
      (at_set l me j w a e)

  pub total-set : (f : A → ℕ) (l : List A) (me : ℕ) (v w : A) → get_elem? l me ≡ some v
      → sum_by f (set l me w) + f v ≡ sum_by f l + f w
  total-set f [] me v w e = absurd (some-ne-none v (sym e))
  total-set f (x ∷ xs) zero v w e =
      let h : f x ≡ f v = ap f (maybe.some-injective x v e) in
      omega (arith, sum_by-cons f x xs, sum_by-cons f w xs)
  total-set f (x ∷ xs) (suc i) v w e =
      let h = total-set f xs i v w e in
      omega (arith, sum_by-cons f x xs, sum_by-cons f x (set xs i w))

  pub at-inside : (l : List A) (i : ℕ) (a : A) → get_elem? l i ≡ some a → i < length l
  at-inside [] i a e = absurd (some-ne-none a (sym e))
  at-inside (x ∷ xs) zero a e = omega arith
  at-inside (x ∷ xs) (suc i) a e = let h = at-inside xs i a e in omega arith

  pub same-at : (l : List A) (i : ℕ) (x y : A) → get_elem? l i ≡ some x → get_elem? l i ≡ some y → x ≡ y
  same-at l i x y e f = maybe.some-injective x y (sym e ∙ f)

  -- the item after a list
  pub at-middle : (l : List A) (x : A) (m : List A) → get_elem? (l ++ x ∷ m) (length l) ≡ some x
  at-middle [] x m = refl
  at-middle (y ∷ ys) x m = at-middle ys x m

  pub total-has : (f : A → ℕ) (l : List A) (j : ℕ) (y : A) → get_elem? l j ≡ some y → f y ≤ sum_by f l
  total-has f [] j y e = absurd (some-ne-none y (sym e))
  total-has f (x ∷ xs) zero y e =
      let h : f x ≡ f y = ap f (maybe.some-injective x y e) in
      omega (arith, sum_by-cons f x xs)
  total-has f (x ∷ xs) (suc j) y e = let h = total-has f xs j y e in omega (arith, sum_by-cons f x xs)

  pub total-has-two : (f : A → ℕ) (l : List A) (i j : ℕ) (x y : A) → get_elem? l i ≡ some x → get_elem? l j ≡ some y
      → j ≢ i → f x + f y ≤ sum_by f l
  total-has-two f [] i j x y e e' other = absurd (some-ne-none x (sym e))
  total-has-two f (z ∷ zs) zero zero x y e e' other = absurd (other refl)
  total-has-two f (z ∷ zs) zero (suc j) x y e e' other =
      let h : f z ≡ f x = ap f (maybe.some-injective z x e) in
      let g = total-has f zs j y e' in
      omega (arith, sum_by-cons f z zs)
  total-has-two f (z ∷ zs) (suc i) zero x y e e' other =
      let h : f z ≡ f y = ap f (maybe.some-injective z y e') in
      let g = total-has f zs i x e in
      omega (arith, sum_by-cons f z zs)
  total-has-two f (z ∷ zs) (suc i) (suc j) x y e e' other =
      let g = total-has-two f zs i j x y e e' (λ is. other (ap suc is)) in
      omega (arith, sum_by-cons f z zs)

  pub at-map-back : {B : Type 0} (f : A → B) (l : List A) (i : ℕ) (b : B) → get_elem? (map f l) i ≡ some b
      → (a : A) × (get_elem? l i ≡ some a) × (f a ≡ b)
  at-map-back f [] i b e = absurd (some-ne-none b (sym e))
  at-map-back f (x ∷ xs) zero b e = (x, refl, maybe.some-injective (f x) b e)
  at-map-back f (x ∷ xs) (suc i) b e = at-map-back f xs i b e
