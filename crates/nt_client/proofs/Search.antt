-- Lists in which the keys of the items rise, where keys have a sign, and a binary search for a key in them.
use Rattle.std.proofs.Common.{◌≡◌, ◌≤◌, ◌<◌, ℕ, zero, suc, ℤ, true, false, not, List, [], ◌∷◌, Some, None, Result, Ok, Err, length, get_or, slice_get, filter, Less, Equal, Greater, refl, ap, subst, arith}
use Rattle.std.specs.Prelude.{insert, remove, MatchResult, ◌<ℤ◌, ◌≤ℤ◌, int_lt}
use Rattle.std.specs.List.{find, list_any}
use Rattle.std.specs.List.Sorted.{IsBinarySearchResult, IsSearchInRange}
use Rattle.std.specs.Ordering.{int_cmp, int_eq, ordering_index}
use Rattle.std.proofs.lemmas.Int.{ints}
use Rattle.nt_client.specs.Sorted.{AreAbove, Rise, IsFoundAt, IsMissedAt}

-- ---- tests of keys

pub is-same : (a b : ℤ) → a ≡ b → int_eq a b ≡ true
is-same a b e = grind (arith, ints)

pub is-other : (a b : ℤ) → a <ℤ b → int_eq a b ≡ false
is-other a b lt = grind (arith, ints)

pub is-another : (a b : ℤ) → b <ℤ a → int_eq a b ≡ false
is-another a b lt = grind (arith, ints)

pub is-below : (a b : ℤ) → a <ℤ b → int_lt a b ≡ true
is-below a b lt = grind (arith, ints)

pub not-below : (a b : ℤ) → a <ℤ b → int_lt b a ≡ false
not-below a b lt = grind (arith, ints)

pub same-of : (a b : ℤ) → int_eq a b ≡ true → a ≡ b
same-of a b e = grind (arith, ints)

cmp-less : (a b : ℤ) → int_cmp a b ≡ Less → a <ℤ b
cmp-less a b h = grind (arith, ints)

cmp-equal : (a b : ℤ) → int_cmp a b ≡ Equal → a ≡ b
cmp-equal a b h = grind (arith, ints)

cmp-greater : (a b : ℤ) → int_cmp a b ≡ Greater → b <ℤ a
cmp-greater a b h = grind (arith, ints)

higher : (a b c : ℤ) → a ≤ℤ b → ordering_index (int_cmp a c) ≤ ordering_index (int_cmp b c)
higher a b c le = grind (arith, ints)

-- ---- keys that rise

pub above-weaker : {X : Type 0} (key : X → ℤ) (k l : ℤ) (xs : List X) → l <ℤ k → AreAbove key k xs → AreAbove key l xs
above-weaker key k l [] lt h = tt
above-weaker key k l (x ∷ xs) lt h = (let first = h.0 in omega (arith, ints), above-weaker key k l xs lt h.1)

above-at : {X : Type 0} (key : X → ℤ) (k : ℤ) (xs : List X) (i : ℕ) (d : X) → AreAbove key k xs → i < length xs
    → k <ℤ key (get_or xs i d)
above-at key k [] i d h lt = absurd (omega arith)
above-at key k (x ∷ xs) zero d h lt = h.0
above-at key k (x ∷ xs) (suc i) d h lt = above-at key k xs i d h.1 (omega arith)

pub rises-apart : {X : Type 0} (key : X → ℤ) (xs : List X) (i j : ℕ) (d : X) → Rise key xs → i < j
    → j < length xs → key (get_or xs i d) <ℤ key (get_or xs j d)
rises-apart key [] i j d h less lt = absurd (omega arith)
rises-apart key (x ∷ xs) i zero d h less lt = absurd (omega arith)
rises-apart key (x ∷ xs) zero (suc j) d h less lt = above-at key (key x) xs j d h.0 (omega arith)
rises-apart key (x ∷ xs) (suc i) (suc j) d h less lt = rises-apart key xs i j d h.1 (omega arith) (omega arith)

rises-up : {X : Type 0} (key : X → ℤ) (xs : List X) (i j : ℕ) (d : X) → Rise key xs → i ≤ j
    → j < length xs → key (get_or xs i d) ≤ℤ key (get_or xs j d)
rises-up key [] i j d h le lt = absurd (omega arith)
rises-up key (x ∷ xs) zero zero d h le lt = omega (arith, ints)
rises-up key (x ∷ xs) zero (suc j) d h le lt =
    let later = above-at key (key x) xs j d h.0 (omega arith) in omega (arith, ints)
rises-up key (x ∷ xs) (suc i) zero d h le lt = absurd (omega arith)
rises-up key (x ∷ xs) (suc i) (suc j) d h le lt = rises-up key xs i j d h.1 (omega arith) (omega arith)

-- ---- what a search answers

pub found-at : {X : Type 0} (key : X → ℤ) (k : ℤ) (xs : List X) (i : ℕ) → Rise key xs → i < length xs
    → ((d : X) → key (get_or xs i d) ≡ k) → IsFoundAt key k xs i
found-at key k [] i h lt at = absurd (omega arith)
found-at key k (x ∷ xs) zero h lt at = (at x, subst (λ m. AreAbove key m xs) (at x) h.0)
found-at key k (x ∷ xs) (suc i) h lt at =
    let later = above-at key (key x) xs i x h.0 (omega arith) in
    let same = at x in
    (subst (λ m. key x <ℤ m) same later, found-at key k xs i h.1 (omega arith) at)

missed-at : {X : Type 0} (key : X → ℤ) (k : ℤ) (xs : List X) (i : ℕ) → Rise key xs → i ≤ length xs
    → ((j : ℕ) (d : X) → j < i → key (get_or xs j d) <ℤ k)
    → ((j : ℕ) (d : X) → i ≤ j → j < length xs → k <ℤ key (get_or xs j d))
    → IsMissedAt key k xs i
missed-at key k [] zero h le before after = tt
missed-at key k [] (suc i) h le before after = absurd (omega arith)
missed-at key k (x ∷ xs) zero h le before after =
    let more : k <ℤ key x = after 0 x (omega arith) (omega arith) in (more, above-weaker key (key x) k xs more h.0)
missed-at key k (x ∷ xs) (suc i) h le before after = (
  before 0 x (omega arith),
  missed-at key k xs i h.1 (omega arith)
      (λ j d lt. before (suc j) d (omega arith)) (λ j d le lt. after (suc j) d (omega arith) (omega arith)),
)

-- what a binary search by a key answers
pub searched : {X : Type 0} (key : X → ℤ) (k : ℤ) (xs : List X) (r : Result ℕ ℕ) → Rise key xs
    → IsSearchInRange r (length xs) → IsBinarySearchResult (λ x. int_cmp (key x) k) xs r
    → MatchResult r (IsFoundAt key k xs) (IsMissedAt key k xs)
searched key k xs (Ok i) h within at = found-at key k xs i h within (λ d. cmp-equal (key (get_or xs i d)) k (at d))
searched key k xs (Err i) h within at =
    let parted = at (λ a b d le lt. higher (key (get_or xs a d)) (key (get_or xs b d)) k
    (rises-up key xs a b d h le lt)) in
    missed-at key k xs i h within
    (λ j d lt. cmp-less (key (get_or xs j d)) k (parted.0 j d (omega arith) lt))
    (λ j d le lt. cmp-greater (key (get_or xs j d)) k (parted.1 j d le lt))

-- ---- the index

pub within-found : {X : Type 0} (key : X → ℤ) (k : ℤ) (xs : List X) (i : ℕ) → IsFoundAt key k xs i → i < length xs
within-found key k [] i h = absurd h
within-found key k (x ∷ xs) zero h = omega arith
within-found key k (x ∷ xs) (suc i) h = let later = within-found key k xs i h.1 in omega arith

pub within-missed : {X : Type 0} (key : X → ℤ) (k : ℤ) (xs : List X) (i : ℕ) → IsMissedAt key k xs i → i ≤ length xs
within-missed key k [] zero h = omega arith
within-missed key k [] (suc i) h = absurd h
within-missed key k (x ∷ xs) zero h = omega arith
within-missed key k (x ∷ xs) (suc i) h = let later = within-missed key k xs i h.1 in omega arith

pub get-found : {X : Type 0} (key : X → ℤ) (k : ℤ) (xs : List X) (i : ℕ) (d : X) → IsFoundAt key k xs i
    → slice_get xs i ≡ Some (get_or xs i d)
get-found key k [] i d h = absurd h
get-found key k (x ∷ xs) zero d h = refl
get-found key k (x ∷ xs) (suc i) d h = get-found key k xs i d h.1

pub key-found : {X : Type 0} (key : X → ℤ) (k : ℤ) (xs : List X) (i : ℕ) (d : X) → IsFoundAt key k xs i
    → key (get_or xs i d) ≡ k
key-found key k [] i d h = absurd h
key-found key k (x ∷ xs) zero d h = h.0
key-found key k (x ∷ xs) (suc i) d h = key-found key k xs i d h.1

-- ---- what is found by the key

pub find-found : {X : Type 0} (key : X → ℤ) (k : ℤ) (xs : List X) (i : ℕ) → IsFoundAt key k xs i
    → find (λ x. int_eq (key x) k) xs ≡ slice_get xs i
find-found key k [] i h = absurd h
find-found key k (x ∷ xs) zero h = rw (is-same (key x) k h.0) refl
find-found key k (x ∷ xs) (suc i) h = rw (is-other (key x) k h.0) (find-found key k xs i h.1)

find-above : {X : Type 0} (key : X → ℤ) (k : ℤ) (xs : List X) → AreAbove key k xs
    → find (λ x. int_eq (key x) k) xs ≡ None
find-above key k [] h = refl
find-above key k (x ∷ xs) h = rw (is-another (key x) k h.0) (find-above key k xs h.1)

pub find-missed : {X : Type 0} (key : X → ℤ) (k : ℤ) (xs : List X) (i : ℕ) → IsMissedAt key k xs i
    → find (λ x. int_eq (key x) k) xs ≡ None
find-missed key k [] zero h = refl
find-missed key k [] (suc i) h = absurd h
find-missed key k (x ∷ xs) zero h = rw (is-another (key x) k h.0) (find-above key k xs h.1)
find-missed key k (x ∷ xs) (suc i) h = rw (is-other (key x) k h.0) (find-missed key k xs i h.1)

pub any-found : {X : Type 0} (key : X → ℤ) (k : ℤ) (xs : List X) (i : ℕ) → IsFoundAt key k xs i
    → list_any (λ x. int_eq (key x) k) xs ≡ true
any-found key k [] i h = absurd h
any-found key k (x ∷ xs) zero h = rw (is-same (key x) k h.0) refl
any-found key k (x ∷ xs) (suc i) h = rw (is-other (key x) k h.0) (any-found key k xs i h.1)

any-above : {X : Type 0} (key : X → ℤ) (k : ℤ) (xs : List X) → AreAbove key k xs
    → list_any (λ x. int_eq (key x) k) xs ≡ false
any-above key k [] h = refl
any-above key k (x ∷ xs) h = rw (is-another (key x) k h.0) (any-above key k xs h.1)

pub any-missed : {X : Type 0} (key : X → ℤ) (k : ℤ) (xs : List X) (i : ℕ) → IsMissedAt key k xs i
    → list_any (λ x. int_eq (key x) k) xs ≡ false
any-missed key k [] zero h = refl
any-missed key k [] (suc i) h = absurd h
any-missed key k (x ∷ xs) zero h = rw (is-another (key x) k h.0) (any-above key k xs h.1)
any-missed key k (x ∷ xs) (suc i) h = rw (is-other (key x) k h.0) (any-missed key k xs i h.1)

-- ---- the items of other keys

filter-above : {X : Type 0} (key : X → ℤ) (k : ℤ) (xs : List X) → AreAbove key k xs
    → filter (λ x. not (int_eq (key x) k)) xs ≡ xs
filter-above key k [] h = refl
filter-above key k (x ∷ xs) h = rw (is-another (key x) k h.0) (ap (λ ys. x ∷ ys) (filter-above key k xs h.1))

pub filter-found : {X : Type 0} (key : X → ℤ) (k : ℤ) (xs : List X) (i : ℕ) → IsFoundAt key k xs i
    → filter (λ x. not (int_eq (key x) k)) xs ≡ remove xs i
filter-found key k [] i h = absurd h
filter-found key k (x ∷ xs) zero h = rw (is-same (key x) k h.0) (filter-above key k xs h.1)
filter-found key k (x ∷ xs) (suc i) h =
    rw (is-other (key x) k h.0) (ap (λ ys. x ∷ ys) (filter-found key k xs i h.1))

pub filter-missed : {X : Type 0} (key : X → ℤ) (k : ℤ) (xs : List X) (i : ℕ) → IsMissedAt key k xs i
    → filter (λ x. not (int_eq (key x) k)) xs ≡ xs
filter-missed key k [] zero h = refl
filter-missed key k [] (suc i) h = absurd h
filter-missed key k (x ∷ xs) zero h =
    rw (is-another (key x) k h.0) (ap (λ ys. x ∷ ys) (filter-above key k xs h.1))
filter-missed key k (x ∷ xs) (suc i) h =
    rw (is-other (key x) k h.0) (ap (λ ys. x ∷ ys) (filter-missed key k xs i h.1))

-- ---- keys go on rising

above-insert : {X : Type 0} (key : X → ℤ) (k : ℤ) (xs : List X) (i : ℕ) (y : X) → i ≤ length xs → k <ℤ key y
    → AreAbove key k xs → AreAbove key k (insert xs i y)
above-insert key k [] zero y le lt h = (lt, tt)
above-insert key k [] (suc i) y le lt h = absurd (omega arith)
above-insert key k (x ∷ xs) zero y le lt h = (lt, h)
above-insert key k (x ∷ xs) (suc i) y le lt h = (h.0, above-insert key k xs i y (omega arith) lt h.1)

pub rises-insert : {X : Type 0} (key : X → ℤ) (xs : List X) (i : ℕ) (y : X) → IsMissedAt key (key y) xs i
    → Rise key xs → Rise key (insert xs i y)
rises-insert key [] zero y at h = (tt, tt)
rises-insert key [] (suc i) y at h = absurd at
rises-insert key (x ∷ xs) zero y at h = (at, h)
rises-insert key (x ∷ xs) (suc i) y at h =
    (above-insert key (key x) xs i y (within-missed key (key y) xs i at.1) at.0 h.0, rises-insert key xs i y at.1 h.1)

above-remove : {X : Type 0} (key : X → ℤ) (k : ℤ) (xs : List X) (i : ℕ) → AreAbove key k xs
    → AreAbove key k (remove xs i)
above-remove key k [] zero h = tt
above-remove key k [] (suc i) h = tt
above-remove key k (x ∷ xs) zero h = h.1
above-remove key k (x ∷ xs) (suc i) h = (h.0, above-remove key k xs i h.1)

pub rises-remove : {X : Type 0} (key : X → ℤ) (xs : List X) (i : ℕ) → Rise key xs → Rise key (remove xs i)
rises-remove key [] zero h = tt
rises-remove key [] (suc i) h = tt
rises-remove key (x ∷ xs) zero h = h.1
rises-remove key (x ∷ xs) (suc i) h = (above-remove key (key x) xs i h.0, rises-remove key xs i h.1)

-- ---- by the case of the answer

pub found-by : {X : Type 0} (key : X → ℤ) (k : ℤ) (xs : List X) (r : Result ℕ ℕ) (i : ℕ) → Rise key xs
    → IsSearchInRange r (length xs) → IsBinarySearchResult (λ x. int_cmp (key x) k) xs r → r ≡ Ok i
    → IsFoundAt key k xs i
found-by key k xs r i rise bound position e =
    subst (λ (r : Result ℕ ℕ). MatchResult r (IsFoundAt key k xs) (IsMissedAt key k xs)) e
    (searched key k xs r rise bound position)

pub missed-by : {X : Type 0} (key : X → ℤ) (k : ℤ) (xs : List X) (r : Result ℕ ℕ) (i : ℕ) → Rise key xs
    → IsSearchInRange r (length xs) → IsBinarySearchResult (λ x. int_cmp (key x) k) xs r → r ≡ Err i
    → IsMissedAt key k xs i
missed-by key k xs r i rise bound position e =
    subst (λ (r : Result ℕ ℕ). MatchResult r (IsFoundAt key k xs) (IsMissedAt key k xs)) e
    (searched key k xs r rise bound position)
