-- Lists whose keys rise, and a binary search for a key in them. `key` is any function from items to numbers;
-- `RisesFrom`, `AreBelow`, `IsFoundAt`, `IsMissedAt`, `with_key`, `HasKey` stand in specs/Sorted.antt.
--     searched                         what `binary_search_by_key` answers: `IsFoundAt` or `IsMissedAt`
--     found-here                       an item that is known to have the key
--     within-found, within-missed      the index is in the list, or at most at its end
--     key-found, get-found             the item there has the key, and stands there
--     find-found, find-missed          what `find` by the key gives, and `position-`, `any-`, `find-` of them
--     change-found                     `with_key` is a change at the index; where f is a constant, `set-found` and
--                                      `remove-found`; where nothing was found, `insert-missed` and `keep-missed`
--     filter-found, filter-missed      the others alone: `remove` at the index, or all
--     map-found, map-missed            a `map` that changes the item of the key alone
--     rises-weaker, rises-apart, rises-with, rises-filter, rises-map, rises-append      keys go on rising
--     below-weaker, below-filter, below-map, below-append      and go on being below a number
use Rattle.std.proofs.Common.{◌≡◌, ◌≤◌, ◌<◌, ◌+◌, ◌==◌, ℕ, zero, suc, Bool, true, false, cond, not, ltb, eqb, List, [], ◌∷◌, ◌++◌, Option, Some, None, Result, Ok, Err, length, get_or, slice_get, slice_set, set, map, filter, Less, Equal, Greater, nat_cmp, refl, sym, ◌∙◌, ap, subst, arith, tests}
use Rattle.std.specs.Prelude.{insert, remove, MatchResult}
use Rattle.std.specs.List.{find, position, position_or_len, list_any, cons_option}
use Rattle.std.specs.List.Sorted.{IsBinarySearchResult, IsSearchInRange}
use Rattle.std.specs.Ordering.{ordering_index}
use Rattle.std.proofs.lemmas.Bool.Decides.{nat_tests}
use Rattle.nt_rules.specs.topics.Topics.{change_at}
use Rattle.nt_rules.specs.Sorted.{RisesFrom, AreBelow, IsFoundAt, IsMissedAt, with_key, HasKey}

-- ---- tests of keys

is-same : (a b : ℕ) → a ≡ b → eqb a b ≡ true
is-same a b e = grind (arith, tests, nat_tests)

is-other : (a b : ℕ) → a < b → eqb a b ≡ false
is-other a b lt = grind (arith, tests, nat_tests)

is-another : (a b : ℕ) → b < a → eqb a b ≡ false
is-another a b lt = grind (arith, tests, nat_tests)

is-below : (a b : ℕ) → a < b → ltb a b ≡ true
is-below a b lt = grind (arith, tests, nat_tests)

not-below : (a b : ℕ) → a < b → ltb b a ≡ false
not-below a b lt = grind (arith, tests, nat_tests)

same-of : (a b : ℕ) → eqb a b ≡ true → a ≡ b
same-of a b e = grind (arith, tests, nat_tests)

less-of : (a b : ℕ) → ltb a b ≡ true → a < b
less-of a b l = grind (arith, tests, nat_tests)

more-of : (a b : ℕ) → eqb a b ≡ false → ltb b a ≡ false → a < b
more-of a b e l = grind (arith, tests, nat_tests)

cmp-less : (a b : ℕ) → nat_cmp a b ≡ Less → a < b
cmp-less a b h = grind (arith, tests, nat_tests)

cmp-equal : (a b : ℕ) → nat_cmp a b ≡ Equal → a ≡ b
cmp-equal a b h = grind (arith, tests, nat_tests)

cmp-greater : (a b : ℕ) → nat_cmp a b ≡ Greater → b < a
cmp-greater a b h = grind (arith, tests, nat_tests)

higher : (a b c : ℕ) → a ≤ b → ordering_index (nat_cmp a c) ≤ ordering_index (nat_cmp b c)
higher a b c le = grind (arith, tests)

-- ---- keys that rise

pub rises-weaker : {X : Type 0} (key : X → ℕ) (n m : ℕ) (xs : List X) → m ≤ n → RisesFrom key n xs → RisesFrom key m xs
rises-weaker key n m [] le h = tt
rises-weaker key n m (x ∷ xs) le h = (let first = h.0 in omega arith, h.1)

pub rises-at : {X : Type 0} (key : X → ℕ) (n : ℕ) (xs : List X) (i : ℕ) (d : X) → RisesFrom key n xs → i < length xs
    → n ≤ key (get_or xs i d)
rises-at key n [] i d h lt = absurd (omega arith)
rises-at key n (x ∷ xs) zero d h lt = h.0
rises-at key n (x ∷ xs) (suc i) d h lt =
    let first = h.0 in let later = rises-at key (key x + 1) xs i d h.1 (omega arith) in omega arith

pub rises-apart : {X : Type 0} (key : X → ℕ) (n : ℕ) (xs : List X) (i j : ℕ) (d : X) → RisesFrom key n xs → i < j
    → j < length xs → key (get_or xs i d) < key (get_or xs j d)
rises-apart key n [] i j d h less lt = absurd (omega arith)
rises-apart key n (x ∷ xs) i zero d h less lt = absurd (omega arith)
rises-apart key n (x ∷ xs) zero (suc j) d h less lt =
    let later = rises-at key (key x + 1) xs j d h.1 (omega arith) in omega arith
rises-apart key n (x ∷ xs) (suc i) (suc j) d h less lt =
    rises-apart key (key x + 1) xs i j d h.1 (omega arith) (omega arith)

rises-up : {X : Type 0} (key : X → ℕ) (n : ℕ) (xs : List X) (i j : ℕ) (d : X) → RisesFrom key n xs → i ≤ j
    → j < length xs → key (get_or xs i d) ≤ key (get_or xs j d)
rises-up key n [] i j d h le lt = absurd (omega arith)
rises-up key n (x ∷ xs) zero zero d h le lt = omega arith
rises-up key n (x ∷ xs) zero (suc j) d h le lt =
    let later = rises-at key (key x + 1) xs j d h.1 (omega arith) in omega arith
rises-up key n (x ∷ xs) (suc i) zero d h le lt = absurd (omega arith)
rises-up key n (x ∷ xs) (suc i) (suc j) d h le lt =
    rises-up key (key x + 1) xs i j d h.1 (omega arith) (omega arith)

-- ---- what a search answers

found-at : {X : Type 0} (key : X → ℕ) (k n : ℕ) (xs : List X) (i : ℕ) → RisesFrom key n xs → i < length xs
    → ((d : X) → key (get_or xs i d) ≡ k) → IsFoundAt key k xs i
found-at key k n [] i h lt at = absurd (omega arith)
found-at key k n (x ∷ xs) zero h lt at = (at x, subst (λ m. RisesFrom key (m + 1) xs) (at x) h.1)
found-at key k n (x ∷ xs) (suc i) h lt at =
    let later = rises-at key (key x + 1) xs i x h.1 (omega arith) in
    let same = at x in
    (omega arith, found-at key k (key x + 1) xs i h.1 (omega arith) at)

missed-at : {X : Type 0} (key : X → ℕ) (k n : ℕ) (xs : List X) (i : ℕ) → RisesFrom key n xs → i ≤ length xs
    → ((j : ℕ) (d : X) → j < i → key (get_or xs j d) < k)
    → ((j : ℕ) (d : X) → i ≤ j → j < length xs → k < key (get_or xs j d))
    → IsMissedAt key k xs i
missed-at key k n [] zero h le before after = tt
missed-at key k n [] (suc i) h le before after = absurd (omega arith)
missed-at key k n (x ∷ xs) zero h le before after =
    let more : k < key x = after 0 x (omega arith) (omega arith) in (omega arith, h.1)
missed-at key k n (x ∷ xs) (suc i) h le before after = (
  before 0 x (omega arith),
  missed-at key k (key x + 1) xs i h.1 (omega arith)
      (λ j d lt. before (suc j) d (omega arith)) (λ j d le lt. after (suc j) d (omega arith) (omega arith)),
)

-- what a binary search by a key answers
pub searched : {X : Type 0} (key : X → ℕ) (k n : ℕ) (xs : List X) (r : Result ℕ ℕ) → RisesFrom key n xs
    → IsSearchInRange r (length xs) → IsBinarySearchResult (λ x. nat_cmp (key x) k) xs r
    → MatchResult r (IsFoundAt key k xs) (IsMissedAt key k xs)
searched key k n xs (Ok i) h within at = found-at key k n xs i h within (λ d. cmp-equal (key (get_or xs i d)) k (at d))
searched key k n xs (Err i) h within at =
    let parted = at (λ a b d le lt. higher (key (get_or xs a d)) (key (get_or xs b d)) k
    (rises-up key n xs a b d h le lt)) in
    missed-at key k n xs i h within
    (λ j d lt. cmp-less (key (get_or xs j d)) k (parted.0 j d (omega arith) lt))
    (λ j d le lt. cmp-greater (key (get_or xs j d)) k (parted.1 j d le lt))

-- an item that is known to have the key
pub found-here : {X : Type 0} (key : X → ℕ) (k n : ℕ) (xs : List X) (i : ℕ) (d : X) → RisesFrom key n xs → i < length xs
    → key (get_or xs i d) ≡ k → IsFoundAt key k xs i
found-here key k n [] i d h lt at = absurd (omega arith)
found-here key k n (x ∷ xs) zero d h lt at = (at, subst (λ m. RisesFrom key (m + 1) xs) at h.1)
found-here key k n (x ∷ xs) (suc i) d h lt at =
    let later = rises-at key (key x + 1) xs i d h.1 (omega arith) in
    (omega arith, found-here key k (key x + 1) xs i d h.1 (omega arith) at)

-- ---- the index

pub within-found : {X : Type 0} (key : X → ℕ) (k : ℕ) (xs : List X) (i : ℕ) → IsFoundAt key k xs i → i < length xs
within-found key k [] i h = absurd h
within-found key k (x ∷ xs) zero h = omega arith
within-found key k (x ∷ xs) (suc i) h = let later = within-found key k xs i h.1 in omega arith

pub within-missed : {X : Type 0} (key : X → ℕ) (k : ℕ) (xs : List X) (i : ℕ) → IsMissedAt key k xs i → i ≤ length xs
within-missed key k [] zero h = omega arith
within-missed key k [] (suc i) h = absurd h
within-missed key k (x ∷ xs) zero h = omega arith
within-missed key k (x ∷ xs) (suc i) h = let later = within-missed key k xs i h.1 in omega arith

-- the item there has the key
pub key-found : {X : Type 0} (key : X → ℕ) (k : ℕ) (xs : List X) (i : ℕ) (d : X) → IsFoundAt key k xs i
    → key (get_or xs i d) ≡ k
key-found key k [] i d h = absurd h
key-found key k (x ∷ xs) zero d h = h.0
key-found key k (x ∷ xs) (suc i) d h = key-found key k xs i d h.1

pub get-found : {X : Type 0} (key : X → ℕ) (k : ℕ) (xs : List X) (i : ℕ) (d : X) → IsFoundAt key k xs i
    → slice_get xs i ≡ Some (get_or xs i d)
get-found key k [] i d h = absurd h
get-found key k (x ∷ xs) zero d h = refl
get-found key k (x ∷ xs) (suc i) d h = get-found key k xs i d h.1

-- ---- what is found by the key

find-above : {X : Type 0} (key : X → ℕ) (k n : ℕ) (xs : List X) → k < n → RisesFrom key n xs
    → find (λ x. key x == k) xs ≡ None
find-above key k n [] lt h = refl
find-above key k n (x ∷ xs) lt h =
    let first = h.0 in
    rw (is-another (key x) k (omega arith)) (find-above key k (key x + 1) xs (omega arith) h.1)

pub find-found : {X : Type 0} (key : X → ℕ) (k : ℕ) (xs : List X) (i : ℕ) → IsFoundAt key k xs i
    → find (λ x. key x == k) xs ≡ slice_get xs i
find-found key k [] i h = absurd h
find-found key k (x ∷ xs) zero h = rw (is-same (key x) k h.0) refl
find-found key k (x ∷ xs) (suc i) h = rw (is-other (key x) k h.0) (find-found key k xs i h.1)

pub find-missed : {X : Type 0} (key : X → ℕ) (k : ℕ) (xs : List X) (i : ℕ) → IsMissedAt key k xs i
    → find (λ x. key x == k) xs ≡ None
find-missed key k [] zero h = refl
find-missed key k [] (suc i) h = absurd h
find-missed key k (x ∷ xs) zero h =
    let first = h.0 in
    rw (is-another (key x) k (omega arith)) (find-above key k (key x + 1) xs (omega arith) h.1)
find-missed key k (x ∷ xs) (suc i) h = rw (is-other (key x) k h.0) (find-missed key k xs i h.1)

place-found : {X : Type 0} (key : X → ℕ) (k : ℕ) (xs : List X) (i : ℕ) → IsFoundAt key k xs i
    → position_or_len (λ x. key x == k) xs ≡ i
place-found key k [] i h = absurd h
place-found key k (x ∷ xs) zero h = rw (is-same (key x) k h.0) refl
place-found key k (x ∷ xs) (suc i) h =
    rw (is-other (key x) k h.0) (ap (λ n. 1 + n) (place-found key k xs i h.1) ∙ omega arith)

pub position-found : {X : Type 0} (key : X → ℕ) (k : ℕ) (xs : List X) (i : ℕ) → IsFoundAt key k xs i
    → position (λ x. key x == k) xs ≡ Some i
position-found key k xs i h =
    ap (λ n. cond (ltb n (length xs)) (Some n) None) (place-found key k xs i h)
    ∙ ap (λ b. cond b (Some i) None) (is-below i (length xs) (within-found key k xs i h))

place-above : {X : Type 0} (key : X → ℕ) (k n : ℕ) (xs : List X) → k < n → RisesFrom key n xs
    → position_or_len (λ x. key x == k) xs ≡ length xs
place-above key k n [] lt h = refl
place-above key k n (x ∷ xs) lt h =
    let first = h.0 in
    rw (is-another (key x) k (omega arith))
    (ap (λ n. 1 + n) (place-above key k (key x + 1) xs (omega arith) h.1) ∙ omega arith)

place-missed : {X : Type 0} (key : X → ℕ) (k : ℕ) (xs : List X) (i : ℕ) → IsMissedAt key k xs i
    → position_or_len (λ x. key x == k) xs ≡ length xs
place-missed key k [] zero h = refl
place-missed key k [] (suc i) h = absurd h
place-missed key k (x ∷ xs) zero h =
    let first = h.0 in
    rw (is-another (key x) k (omega arith))
    (ap (λ n. 1 + n) (place-above key k (key x + 1) xs (omega arith) h.1) ∙ omega arith)
place-missed key k (x ∷ xs) (suc i) h =
    rw (is-other (key x) k h.0) (ap (λ n. 1 + n) (place-missed key k xs i h.1) ∙ omega arith)

pub position-missed : {X : Type 0} (key : X → ℕ) (k : ℕ) (xs : List X) (i : ℕ) → IsMissedAt key k xs i
    → position (λ x. key x == k) xs ≡ None
position-missed key k xs i h =
    let outside : ltb (length xs) (length xs) ≡ false = grind (arith, nat_tests) in
    ap (λ n. cond (ltb n (length xs)) (Some n) None) (place-missed key k xs i h)
    ∙ ap (λ b. cond b (Some (length xs)) None) outside

pub any-found : {X : Type 0} (key : X → ℕ) (k : ℕ) (xs : List X) (i : ℕ) → IsFoundAt key k xs i
    → list_any (λ x. key x == k) xs ≡ true
any-found key k [] i h = absurd h
any-found key k (x ∷ xs) zero h = rw (is-same (key x) k h.0) refl
any-found key k (x ∷ xs) (suc i) h = rw (is-other (key x) k h.0) (any-found key k xs i h.1)

any-above : {X : Type 0} (key : X → ℕ) (k n : ℕ) (xs : List X) → k < n → RisesFrom key n xs
    → list_any (λ x. key x == k) xs ≡ false
any-above key k n [] lt h = refl
any-above key k n (x ∷ xs) lt h =
    let first = h.0 in
    rw (is-another (key x) k (omega arith)) (any-above key k (key x + 1) xs (omega arith) h.1)

pub any-missed : {X : Type 0} (key : X → ℕ) (k : ℕ) (xs : List X) (i : ℕ) → IsMissedAt key k xs i
    → list_any (λ x. key x == k) xs ≡ false
any-missed key k [] zero h = refl
any-missed key k [] (suc i) h = absurd h
any-missed key k (x ∷ xs) zero h =
    let first = h.0 in
    rw (is-another (key x) k (omega arith)) (any-above key k (key x + 1) xs (omega arith) h.1)
any-missed key k (x ∷ xs) (suc i) h = rw (is-other (key x) k h.0) (any-missed key k xs i h.1)

-- ---- a change of the item of the key

pub change-found : {X : Type 0} (key : X → ℕ) (k : ℕ) (f : Option X → Option X) (xs : List X) (i : ℕ)
    → IsFoundAt key k xs i → with_key key k f xs ≡ change_at (λ x. f (Some x)) i xs
change-found key k f [] i h = absurd h
change-found key k f (x ∷ xs) zero h = rw (is-same (key x) k h.0) refl
change-found key k f (x ∷ xs) (suc i) h =
    rw (is-other (key x) k h.0, not-below (key x) k h.0) (ap (λ ys. x ∷ ys) (change-found key k f xs i h.1))

-- a change to what is known is a write
pub set-found : {X : Type 0} (key : X → ℕ) (k : ℕ) (f : Option X → Option X) (y : X) (xs : List X) (i : ℕ)
    → IsFoundAt key k xs i → f (slice_get xs i) ≡ Some y → with_key key k f xs ≡ slice_set xs i y
set-found key k f y [] i h e = absurd h
set-found key k f y (x ∷ xs) zero h e = rw (is-same (key x) k h.0) (ap (λ o. cons_option o xs) e)
set-found key k f y (x ∷ xs) (suc i) h e =
    rw (is-other (key x) k h.0, not-below (key x) k h.0) (ap (λ ys. x ∷ ys) (set-found key k f y xs i h.1 e))

-- and one that leaves nothing is a removal
pub remove-found : {X : Type 0} (key : X → ℕ) (k : ℕ) (f : Option X → Option X) (xs : List X) (i : ℕ)
    → IsFoundAt key k xs i → f (slice_get xs i) ≡ None → with_key key k f xs ≡ remove xs i
remove-found key k f [] i h e = absurd h
remove-found key k f (x ∷ xs) zero h e = rw (is-same (key x) k h.0) (ap (λ o. cons_option o xs) e)
remove-found key k f (x ∷ xs) (suc i) h e =
    rw (is-other (key x) k h.0, not-below (key x) k h.0) (ap (λ ys. x ∷ ys) (remove-found key k f xs i h.1 e))

-- where no item has the key, what comes under it is inserted
pub insert-missed : {X : Type 0} (key : X → ℕ) (k : ℕ) (f : Option X → Option X) (y : X) (xs : List X) (i : ℕ)
    → IsMissedAt key k xs i → f None ≡ Some y → with_key key k f xs ≡ insert xs i y
insert-missed key k f y [] zero h e = ap (λ o. cons_option o []) e
insert-missed key k f y [] (suc i) h e = absurd h
insert-missed key k f y (x ∷ xs) zero h e =
    let first = h.0 in
    rw (is-another (key x) k (omega arith), is-below k (key x) (omega arith)) (ap (λ o. cons_option o (x ∷ xs)) e)
insert-missed key k f y (x ∷ xs) (suc i) h e =
    rw (is-other (key x) k h.0, not-below (key x) k h.0) (ap (λ ys. x ∷ ys) (insert-missed key k f y xs i h.1 e))

-- or nothing changes
pub keep-missed : {X : Type 0} (key : X → ℕ) (k : ℕ) (f : Option X → Option X) (xs : List X) (i : ℕ)
    → IsMissedAt key k xs i → f None ≡ None → with_key key k f xs ≡ xs
keep-missed key k f [] zero h e = ap (λ o. cons_option o []) e
keep-missed key k f [] (suc i) h e = absurd h
keep-missed key k f (x ∷ xs) zero h e =
    let first = h.0 in
    rw (is-another (key x) k (omega arith), is-below k (key x) (omega arith)) (ap (λ o. cons_option o (x ∷ xs)) e)
keep-missed key k f (x ∷ xs) (suc i) h e =
    rw (is-other (key x) k h.0, not-below (key x) k h.0) (ap (λ ys. x ∷ ys) (keep-missed key k f xs i h.1 e))

-- ---- the items of other keys

filter-above : {X : Type 0} (key : X → ℕ) (k n : ℕ) (xs : List X) → k < n → RisesFrom key n xs
    → filter (λ x. not (key x == k)) xs ≡ xs
filter-above key k n [] lt h = refl
filter-above key k n (x ∷ xs) lt h =
    let first = h.0 in
    rw (is-another (key x) k (omega arith))
    (ap (λ ys. x ∷ ys) (filter-above key k (key x + 1) xs (omega arith) h.1))

pub filter-found : {X : Type 0} (key : X → ℕ) (k : ℕ) (xs : List X) (i : ℕ) → IsFoundAt key k xs i
    → filter (λ x. not (key x == k)) xs ≡ remove xs i
filter-found key k [] i h = absurd h
filter-found key k (x ∷ xs) zero h =
    rw (is-same (key x) k h.0) (filter-above key k (k + 1) xs (omega arith) h.1)
filter-found key k (x ∷ xs) (suc i) h =
    rw (is-other (key x) k h.0) (ap (λ ys. x ∷ ys) (filter-found key k xs i h.1))

pub filter-missed : {X : Type 0} (key : X → ℕ) (k : ℕ) (xs : List X) (i : ℕ) → IsMissedAt key k xs i
    → filter (λ x. not (key x == k)) xs ≡ xs
filter-missed key k [] zero h = refl
filter-missed key k [] (suc i) h = absurd h
filter-missed key k (x ∷ xs) zero h =
    let first = h.0 in
    rw (is-another (key x) k (omega arith))
    (ap (λ ys. x ∷ ys) (filter-above key k (key x + 1) xs (omega arith) h.1))
filter-missed key k (x ∷ xs) (suc i) h =
    rw (is-other (key x) k h.0) (ap (λ ys. x ∷ ys) (filter-missed key k xs i h.1))

map-above : {X : Type 0} (key : X → ℕ) (k n : ℕ) (f : X → X) (xs : List X) → k < n → RisesFrom key n xs
    → map (λ x. cond (key x == k) (f x) x) xs ≡ xs
map-above key k n f [] lt h = refl
map-above key k n f (x ∷ xs) lt h =
    let first = h.0 in
    rw (is-another (key x) k (omega arith))
    (ap (λ ys. x ∷ ys) (map-above key k (key x + 1) f xs (omega arith) h.1))

pub map-found : {X : Type 0} (key : X → ℕ) (k : ℕ) (f : X → X) (xs : List X) (i : ℕ) → IsFoundAt key k xs i
    → map (λ x. cond (key x == k) (f x) x) xs ≡ change_at (λ x. Some (f x)) i xs
map-found key k f [] i h = absurd h
map-found key k f (x ∷ xs) zero h =
    rw (is-same (key x) k h.0) (ap (λ ys. f x ∷ ys) (map-above key k (k + 1) f xs (omega arith) h.1))
map-found key k f (x ∷ xs) (suc i) h =
    rw (is-other (key x) k h.0) (ap (λ ys. x ∷ ys) (map-found key k f xs i h.1))

pub map-missed : {X : Type 0} (key : X → ℕ) (k : ℕ) (f : X → X) (xs : List X) (i : ℕ) → IsMissedAt key k xs i
    → map (λ x. cond (key x == k) (f x) x) xs ≡ xs
map-missed key k f [] zero h = refl
map-missed key k f [] (suc i) h = absurd h
map-missed key k f (x ∷ xs) zero h =
    let first = h.0 in
    rw (is-another (key x) k (omega arith))
    (ap (λ ys. x ∷ ys) (map-above key k (key x + 1) f xs (omega arith) h.1))
map-missed key k f (x ∷ xs) (suc i) h =
    rw (is-other (key x) k h.0) (ap (λ ys. x ∷ ys) (map-missed key k f xs i h.1))

-- ---- keys go on rising

rises-cons : {X : Type 0} (key : X → ℕ) (k n : ℕ) (o : Option X) (xs : List X) → n ≤ k → HasKey key k o
    → RisesFrom key (k + 1) xs → RisesFrom key n (cons_option o xs)
rises-cons key k n None xs le e h = rises-weaker key (k + 1) n xs (omega arith) h
rises-cons key k n (Some y) xs le e h =
    (subst (λ m. n ≤ m) (sym e) le, subst (λ m. RisesFrom key (m + 1) xs) (sym e) h)

pub rises-with : {X : Type 0} (key : X → ℕ) (k n : ℕ) (f : Option X → Option X) (xs : List X) → n ≤ k
    → RisesFrom key n xs → HasKey key k (f None) → ((x : X) → key x ≡ k → HasKey key k (f (Some x)))
    → RisesFrom key n (with_key key k f xs)
rises-with key k n f [] le h none some = rises-cons key k n (f None) [] le none tt
rises-with {X} key k n f (x ∷ xs) le h none some =
    by (eqb (key x) k) refl (ltb k (key x)) refl (λ lt. rises-with key k (key x + 1) f xs lt h.1 none some)
  where
    by : (b : Bool) → eqb (key x) k ≡ b → (c : Bool) → ltb k (key x) ≡ c
        → (key x + 1 ≤ k → RisesFrom key (key x + 1) (with_key key k f xs))
        → RisesFrom key n (cond b (cons_option (f (Some x)) xs)
        (cond c (cons_option (f None) (x ∷ xs)) (x ∷ with_key key k f xs)))
    by true e c l more =
        let same = same-of (key x) k e in
        rises-cons key k n (f (Some x)) xs le (some x same) (subst (λ m. RisesFrom key (m + 1) xs) same h.1)
    by false e true l more =
        let less = less-of k (key x) l in
        rises-cons key k n (f None) (x ∷ xs) le none (omega arith, h.1)
    by false e false l more =
        let less = more-of (key x) k e l in
        (h.0, more (omega arith))

pub rises-filter : {X : Type 0} (key : X → ℕ) (n : ℕ) (test : X → Bool) (xs : List X) → RisesFrom key n xs
    → RisesFrom key n (filter test xs)
rises-filter key n test [] h = tt
rises-filter {X} key n test (x ∷ xs) h = by (test x) (rises-filter key (key x + 1) test xs h.1)
  where
    by : (b : Bool) → RisesFrom key (key x + 1) (filter test xs)
        → RisesFrom key n (cond b (x ∷ filter test xs) (filter test xs))
    by true more = (h.0, more)
    by false more = let first = h.0 in rises-weaker key (key x + 1) n (filter test xs) (omega arith) more

pub rises-map : {X Y : Type 0} (key : X → ℕ) (key-2 : Y → ℕ) (n : ℕ) (f : X → Y) (xs : List X)
    → ((x : X) → key-2 (f x) ≡ key x) → RisesFrom key n xs → RisesFrom key-2 n (map f xs)
rises-map key key-2 n f [] same h = tt
rises-map key key-2 n f (x ∷ xs) same h = (
  subst (λ m. n ≤ m) (sym (same x)) h.0,
  subst (λ m. RisesFrom key-2 (m + 1) (map f xs)) (sym (same x)) (rises-map key key-2 (key x + 1) f xs same h.1),
)

-- one is added at the end, above all
pub rises-append : {X : Type 0} (key : X → ℕ) (n : ℕ) (xs : List X) (y : X) → RisesFrom key n xs → n ≤ key y
    → AreBelow key (key y) xs → RisesFrom key n (xs ++ y ∷ [])
rises-append key n [] y h le below = (le, tt)
rises-append key n (x ∷ xs) y h le below =
    (h.0, rises-append key (key x + 1) xs y h.1 (let less : key x < key y = below.0 in omega arith) below.1)

-- ---- keys below a number

pub below-weaker : {X : Type 0} (key : X → ℕ) (n m : ℕ) (xs : List X) → n ≤ m → AreBelow key n xs → AreBelow key m xs
below-weaker key n m [] le h = tt
below-weaker key n m (x ∷ xs) le h = (let first = h.0 in omega arith, below-weaker key n m xs le h.1)

pub below-at : {X : Type 0} (key : X → ℕ) (n : ℕ) (xs : List X) (i : ℕ) (d : X) → AreBelow key n xs → i < length xs
    → key (get_or xs i d) < n
below-at key n [] i d h lt = absurd (omega arith)
below-at key n (x ∷ xs) zero d h lt = h.0
below-at key n (x ∷ xs) (suc i) d h lt = below-at key n xs i d h.1 (omega arith)

pub below-filter : {X : Type 0} (key : X → ℕ) (n : ℕ) (test : X → Bool) (xs : List X) → AreBelow key n xs
    → AreBelow key n (filter test xs)
below-filter key n test [] h = tt
below-filter {X} key n test (x ∷ xs) h = by (test x) (below-filter key n test xs h.1)
  where
    by : (b : Bool) → AreBelow key n (filter test xs) → AreBelow key n (cond b (x ∷ filter test xs) (filter test xs))
    by true more = (h.0, more)
    by false more = more

pub below-map : {X Y : Type 0} (key : X → ℕ) (key-2 : Y → ℕ) (n : ℕ) (f : X → Y) (xs : List X)
    → ((x : X) → key-2 (f x) ≡ key x) → AreBelow key n xs → AreBelow key-2 n (map f xs)
below-map key key-2 n f [] same h = tt
below-map key key-2 n f (x ∷ xs) same h =
    (subst (λ m. m < n) (sym (same x)) h.0, below-map key key-2 n f xs same h.1)

pub below-append : {X : Type 0} (key : X → ℕ) (n : ℕ) (xs : List X) (y : X) → AreBelow key n xs → key y < n
    → AreBelow key n (xs ++ y ∷ [])
below-append key n [] y h lt = (lt, tt)
below-append key n (x ∷ xs) y h lt = (h.0, below-append key n xs y h.1 lt)
