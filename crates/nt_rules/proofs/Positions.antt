-- The first item that passes a test, by its position.
use Rattle.std.proofs.Common.{◌≡◌, ◌<◌, ◌≤◌, ◌+◌, ℕ, zero, suc, Bool, true, false, cond, ltb, not, ◌||◌, List, [], ◌∷◌, Option, Some, None, length, get_or, set, refl, sym, ◌∙◌, ap, arith}
use Rattle.std.specs.Prelude.{remove}
use Rattle.std.specs.Option.{is_some}
use Rattle.std.specs.List.{list_any, find, position, position_or_len, cons_option}
use Rattle.std.proofs.lemmas.Bool.Decides.{nat_tests}
use Rattle.std.proofs.lemmas.List.Quantifiers.{position-Some}
use Rattle.nt_rules.specs.declared.topic.Cause.{Cause}
use Rattle.nt_rules.specs.topics.Topics.{change_first, change_at, if_counts}

-- the item at this position is the first that passes
pub record IsFirst {X : Type 0} (test : X → Bool) (xs : List X) (i : ℕ) (x : X) : Type 0 where
  pub within : i < length xs
  pub item : x ≡ get_or xs i x
  pub passes : test x ≡ true
  pub before : (k : ℕ) → k < i → test (get_or xs k x) ≡ false

-- what stands at a position that was found in an equal list
pub first-position : {X : Type 0} (test : X → Bool) (ys xs : List X) (i : ℕ) (x : X) → ys ≡ xs
    → Some i ≡ position test ys → x ≡ get_or xs i x → IsFirst test xs i x
first-position test ys xs i x same e item =
    let h = position-Some test xs i x (ap (λ zs. position test zs) (sym same) ∙ sym e) in
    record { within = h.0; item = item; passes = ap test item ∙ h.1; before = h.2 }

-- one that isn't the first stands in the rest
rest : {X : Type 0} (test : X → Bool) (x : X) (xs : List X) (i : ℕ) (r : X) → IsFirst test (x ∷ xs) (suc i) r
    → IsFirst test xs i r
rest test x xs i r h =
    let within : suc i < length (x ∷ xs) = h.within in
    record { within = omega arith; item = h.item; passes = h.passes; before = λ k less. h.before (suc k) (omega arith) }

-- where there is no position, none passes
pub position-None : {X : Type 0} (test : X → Bool) (ys xs : List X) → ys ≡ xs → None ≡ position test ys
    → list_any test xs ≡ false
position-None {X} test ys xs same e =
    down xs (by (ltb (position_or_len test xs) (length xs)) refl (e ∙ ap (λ zs. position test zs) same))
  where
    by : (b : Bool) → ltb (position_or_len test xs) (length xs) ≡ b
        → None ≡ cond b (Some (position_or_len test xs)) None
        → length xs ≤ position_or_len test xs
    by true t e = cc
    by false t e = grind (arith, nat_tests)

    down : (xs : List X) → length xs ≤ position_or_len test xs → list_any test xs ≡ false
    down [] h = refl
    down (x ∷ xs) h = on (λ k. down xs k) (test x) h
      where
        on : (length xs ≤ position_or_len test xs → list_any test xs ≡ false) → (b : Bool)
            → length (x ∷ xs) ≤ cond (not b) (1 + position_or_len test xs) 0 → (b || list_any test xs) ≡ false
        on more true h = absurd (omega arith)
        on more false h = more (omega arith)

-- there is a position where one passes
pub any-position : {X : Type 0} (test : X → Bool) (xs : List X) (o : Option ℕ) → o ≡ position test xs
    → list_any test xs ≡ is_some o
any-position test xs None e = position-None test xs xs refl e
any-position {X} test [] (Some i) e = absurd (cc)
any-position {X} test (x ∷ xs) (Some i) e =
    let h = position-Some test (x ∷ xs) i (get_or (x ∷ xs) i x) (sym e) in
    any-at (x ∷ xs) i (get_or (x ∷ xs) i x) h.0 h.1
  where
    any-at : (xs : List X) (i : ℕ) (d : X) → i < length xs → test (get_or xs i d) ≡ true → list_any test xs ≡ true
    any-at [] i d within passes = absurd (omega arith)
    any-at (x ∷ xs) zero d within passes = ap (λ b. b || list_any test xs) passes
    any-at (x ∷ xs) (suc i) d within passes = on (test x) (any-at xs i d (omega arith) passes)
      where
        on : (b : Bool) → list_any test xs ≡ true → (b || list_any test xs) ≡ true
        on true h = refl
        on false h = h

-- where one is the first, one passes
pub any-first : {X : Type 0} (test : X → Bool) (xs : List X) (i : ℕ) (r : X) → IsFirst test xs i r
    → list_any test xs ≡ true
any-first test [] i r h = let within : i < 0 = h.within in absurd (omega arith)
any-first test (x ∷ xs) zero r h = ap (λ b. b || list_any test xs) (ap test (sym h.item) ∙ h.passes)
any-first test (x ∷ xs) (suc i) r h =
    ap (λ b. b || list_any test xs) (h.before 0 (omega arith)) ∙ any-first test xs i r (rest test x xs i r h)

-- and it is what is found
pub find-first : {X : Type 0} (test : X → Bool) (xs : List X) (i : ℕ) (r : X) → IsFirst test xs i r
    → find test xs ≡ Some r
find-first test [] i r h = let within : i < 0 = h.within in absurd (omega arith)
find-first test (x ∷ xs) zero r h =
    ap (λ b. cond b (Some x) (find test xs)) (ap test (sym h.item) ∙ h.passes) ∙ ap Some (sym h.item)
find-first test (x ∷ xs) (suc i) r h =
    ap (λ b. cond b (Some x) (find test xs)) (h.before 0 (omega arith)) ∙ find-first test xs i r (rest test x xs i r h)

-- where none passes, none is found
pub find-none : {X : Type 0} (test : X → Bool) (xs : List X) → list_any test xs ≡ false → find test xs ≡ None
find-none test [] h = refl
find-none {X} test (x ∷ xs) h = by (λ k. find-none test xs k) (test x) h
  where
    by : (list_any test xs ≡ false → find test xs ≡ None) → (b : Bool) → (b || list_any test xs) ≡ false
        → cond b (Some x) (find test xs) ≡ None
    by more true h = absurd (cc)
    by more false h = more h

-- and nothing changes
pub change-none : {X : Type 0} (test : X → Bool) (f : X → Option X) (xs : List X) → list_any test xs ≡ false
    → change_first test f xs ≡ xs
change-none test f [] h = refl
change-none {X} test f (x ∷ xs) h = by (λ k. change-none test f xs k) (test x) h
  where
    by : (list_any test xs ≡ false → change_first test f xs ≡ xs) → (b : Bool) → (b || list_any test xs) ≡ false
        → cond b (cons_option (f x) xs) (x ∷ change_first test f xs) ≡ x ∷ xs
    by more true h = absurd (cc)
    by more false h = ap (λ ys. x ∷ ys) (more h)

-- a change at the position of the first that passes
pub change-first : {X : Type 0} (test : X → Bool) (f : X → Option X) (xs : List X) (i : ℕ) (r : X)
    → IsFirst test xs i r → change_at f i xs ≡ change_first test f xs
change-first test f [] i r h = refl
change-first test f (x ∷ xs) zero r h =
    sym (ap (λ b. cond b (cons_option (f x) xs) (x ∷ change_first test f xs)) (ap test (sym h.item) ∙ h.passes))
change-first test f (x ∷ xs) (suc i) r h =
    ap (λ ys. x ∷ ys) (change-first test f xs i r (rest test x xs i r h))
    ∙ sym (ap (λ b. cond b (cons_option (f x) xs) (x ∷ change_first test f xs)) (h.before 0 (omega arith)))

-- a write is such a change, where something is left
pub set-change : {X : Type 0} (f : X → Option X) (xs : List X) (i : ℕ) (r y : X) → r ≡ get_or xs i r → f r ≡ Some y
    → set xs i y ≡ change_at f i xs
set-change f [] i r y h e = refl
set-change f (x ∷ xs) zero r y h e = sym (ap (λ o. cons_option o xs) (ap f (sym h) ∙ e))
set-change f (x ∷ xs) (suc i) r y h e = ap (λ ys. x ∷ ys) (set-change f xs i r y h e)

-- and a removal, where nothing is left
pub remove-change : {X : Type 0} (f : X → Option X) (xs : List X) (i : ℕ) (r : X) → i < length xs → r ≡ get_or xs i r
    → f r ≡ None → remove xs i ≡ change_at f i xs
remove-change f [] i r within h e = absurd (omega arith)
remove-change f (x ∷ xs) zero r within h e = sym (ap (λ o. cons_option o xs) (ap f (sym h) ∙ e))
remove-change f (x ∷ xs) (suc i) r within h e = ap (λ ys. x ∷ ys) (remove-change f xs i r (omega arith) h e)

-- a change where all is left changes nothing
pub keep-change : {X : Type 0} (f : X → Option X) (xs : List X) (i : ℕ) (r : X) → r ≡ get_or xs i r → f r ≡ Some r
    → xs ≡ change_at f i xs
keep-change f [] i r h e = refl
keep-change f (x ∷ xs) zero r h e = sym (ap (λ o. cons_option o xs) (ap f (sym h) ∙ e ∙ ap Some h))
keep-change f (x ∷ xs) (suc i) r h e = ap (λ ys. x ∷ ys) (keep-change f xs i r h e)

-- a write and then a change there are one change
pub change-set : {X : Type 0} (f : X → Option X) (g : X → X) (xs : List X) (i : ℕ) (r y : X) → r ≡ get_or xs i r
    → y ≡ g r → change_at f i (set xs i y) ≡ change_at (λ x. f (g x)) i xs
change-set f g [] i r y h e = refl
change-set f g (x ∷ xs) zero r y h e = ap (λ o. cons_option o xs) (ap f (e ∙ ap g h))
change-set f g (x ∷ xs) (suc i) r y h e = ap (λ ys. x ∷ ys) (change-set f g xs i r y h e)

-- the item at a position that was written
pub written : {X : Type 0} (xs : List X) (i : ℕ) (y r : X) → i < length xs → r ≡ get_or (set xs i y) i r → r ≡ y
written [] i y r h g = absurd (omega arith)
written (x ∷ xs) zero y r h g = g
written (x ∷ xs) (suc i) y r h g = written xs i y r (omega arith) g

-- a write by a cause: of the changed item where there is none, and of the item itself where there is one
pub set-counts : {X : Type 0} (test : X → Bool) (f : X → X) (cause : Option Cause) (xs : List X) (i : ℕ) (r y : X)
    → IsFirst test xs i r → y ≡ if_counts cause (f r) r
    → set xs i y ≡ if_counts cause (change_first test (λ x. Some (f x)) xs) xs
set-counts test f None xs i r y h e =
    set-change (λ x. Some (f x)) xs i r y h.item (ap Some (sym e)) ∙ change-first test (λ x. Some (f x)) xs i r h
set-counts test f (Some cause) xs i r y h e =
    set-change (λ x. Some x) xs i r y h.item (ap Some (sym e)) ∙ sym (keep-change (λ x. Some x) xs i r h.item refl)
