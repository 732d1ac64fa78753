-- Ids that rise, with one more or one fewer.
use Rattle.std.proofs.Common.{◌≡◌, ◌≤◌, ◌<◌, ◌+◌, ◌∙◌, ℕ, zero, suc, true, false, cond, eqb, ltb, List, [], ◌∷◌, Result, Ok, Err, length, get_or, nat_cmp, refl, ap, subst, arith}
use Rattle.std.specs.Prelude.{insert, remove, MatchResult}
use Rattle.std.specs.List.Sorted.{IsBinarySearchResult}
use Rattle.std.proofs.lemmas.Bool.Decides.{nat_tests}
use Rattle.std.proofs.lemmas.List.Sorted.{searched}
use Rattle.nt_outbox.specs.Owing.{RiseIds, with_id, without_id}

-- ---- ids that rise

pub ids-weaker : (n k : ℕ) (xs : List ℕ) → k ≤ n → RiseIds n xs → RiseIds k xs
ids-weaker n k [] le h = tt
ids-weaker n k (x ∷ xs) le h = (let first = h.0 in omega arith, h.1)

ids-at : (n i : ℕ) (xs : List ℕ) → RiseIds n xs → i < length xs → n ≤ get_or xs i 0
ids-at n i [] h lt = absurd (omega arith)
ids-at n zero (x ∷ xs) h lt = h.0
ids-at n (suc i) (x ∷ xs) h lt =
    let first = h.0 in let later = ids-at (x + 1) i xs h.1 (omega arith) in omega arith

ids-up : (n i j : ℕ) (xs : List ℕ) → RiseIds n xs → i ≤ j → j < length xs → get_or xs i 0 ≤ get_or xs j 0
ids-up n i j [] h le lt = absurd (omega arith)
ids-up n zero zero (x ∷ xs) h le lt = omega arith
ids-up n zero (suc j) (x ∷ xs) h le lt = let later = ids-at (x + 1) j xs h.1 (omega arith) in omega arith
ids-up n (suc i) zero (x ∷ xs) h le lt = absurd (omega arith)
ids-up n (suc i) (suc j) (x ∷ xs) h le lt = ids-up (x + 1) i j xs h.1 (omega arith) (omega arith)

-- ---- an id beside the first one

pub with-here : (id x : ℕ) (xs : List ℕ) → x ≡ id → with_id id (x ∷ xs) ≡ x ∷ xs
with-here id x xs e =
    let t : eqb x id ≡ true = grind (arith, nat_tests) in
    ap (λ b. cond b (x ∷ xs) (cond (ltb id x) (id ∷ x ∷ xs) (x ∷ with_id id xs))) t

with-before : (id x : ℕ) (xs : List ℕ) → id < x → with_id id (x ∷ xs) ≡ id ∷ x ∷ xs
with-before id x xs lt =
    let t : eqb x id ≡ false = grind (arith, nat_tests) in
    let u : ltb id x ≡ true = grind (arith, nat_tests) in
    ap (λ b. cond b (x ∷ xs) (cond (ltb id x) (id ∷ x ∷ xs) (x ∷ with_id id xs))) t
    ∙ ap (λ b. cond b (id ∷ x ∷ xs) (x ∷ with_id id xs)) u

pub with-after : (id x : ℕ) (xs : List ℕ) → x < id → with_id id (x ∷ xs) ≡ x ∷ with_id id xs
with-after id x xs lt =
    let t : eqb x id ≡ false = grind (arith, nat_tests) in
    let u : ltb id x ≡ false = grind (arith, nat_tests) in
    ap (λ b. cond b (x ∷ xs) (cond (ltb id x) (id ∷ x ∷ xs) (x ∷ with_id id xs))) t
    ∙ ap (λ b. cond b (id ∷ x ∷ xs) (x ∷ with_id id xs)) u

pub without-here : (id x : ℕ) (xs : List ℕ) → x ≡ id → without_id id (x ∷ xs) ≡ xs
without-here id x xs e =
    let t : eqb x id ≡ true = grind (arith, nat_tests) in
    ap (λ b. cond b xs (cond (ltb id x) (x ∷ xs) (x ∷ without_id id xs))) t

without-before : (id x : ℕ) (xs : List ℕ) → id < x → without_id id (x ∷ xs) ≡ x ∷ xs
without-before id x xs lt =
    let t : eqb x id ≡ false = grind (arith, nat_tests) in
    let u : ltb id x ≡ true = grind (arith, nat_tests) in
    ap (λ b. cond b xs (cond (ltb id x) (x ∷ xs) (x ∷ without_id id xs))) t
    ∙ ap (λ b. cond b (x ∷ xs) (x ∷ without_id id xs)) u

pub without-after : (id x : ℕ) (xs : List ℕ) → x < id → without_id id (x ∷ xs) ≡ x ∷ without_id id xs
without-after id x xs lt =
    let t : eqb x id ≡ false = grind (arith, nat_tests) in
    let u : ltb id x ≡ false = grind (arith, nat_tests) in
    ap (λ b. cond b xs (cond (ltb id x) (x ∷ xs) (x ∷ without_id id xs))) t
    ∙ ap (λ b. cond b (x ∷ xs) (x ∷ without_id id xs)) u

-- ---- below all of them

pub with-low : (id n : ℕ) (xs : List ℕ) → RiseIds n xs → id < n → with_id id xs ≡ id ∷ xs
with-low id n [] h lt = refl
with-low id n (x ∷ xs) h lt = let first = h.0 in with-before id x xs (omega arith)

pub without-low : (id n : ℕ) (xs : List ℕ) → RiseIds n xs → id < n → without_id id xs ≡ xs
without-low id n [] h lt = refl
without-low id n (x ∷ xs) h lt = let first = h.0 in without-before id x xs (omega arith)

-- ---- the place that a search finds

pub record IsThere (id : ℕ) (xs : List ℕ) (i : ℕ) : Type 0 where
  pub within : i < length xs
  pub put : with_id id xs ≡ xs
  pub taken : without_id id xs ≡ remove xs i

pub record IsMissing (id : ℕ) (xs : List ℕ) (i : ℕ) : Type 0 where
  pub within : i ≤ length xs
  pub put : with_id id xs ≡ insert xs i id
  pub taken : without_id id xs ≡ xs

there : (id n i : ℕ) (xs : List ℕ) → RiseIds n xs → i < length xs → get_or xs i 0 ≡ id → IsThere id xs i
there id n i [] h lt at = absurd (omega arith)
there id n zero (x ∷ xs) h lt at =
    record { within = lt; put = with-here id x xs at; taken = without-here id x xs at }
there id n (suc i) (x ∷ xs) h lt at =
    let later = ids-at (x + 1) i xs h.1 (omega arith) in
    let more = there id (x + 1) i xs h.1 (omega arith) at in
    record {
      within = lt;
      put = with-after id x xs (omega arith) ∙ ap (λ ys. x ∷ ys) more.put;
      taken = without-after id x xs (omega arith) ∙ ap (λ ys. x ∷ ys) more.taken;
    }

missing : (id n i : ℕ) (xs : List ℕ) → RiseIds n xs → i ≤ length xs
    → ((k : ℕ) → k < i → get_or xs k 0 < id)
    → ((k : ℕ) → i ≤ k → k < length xs → id < get_or xs k 0)
    → IsMissing id xs i
missing id n zero [] h le below above = record { within = le; put = refl; taken = refl }
missing id n (suc i) [] h le below above = absurd (omega arith)
missing id n zero (x ∷ xs) h le below above =
    let first = above 0 (omega arith) (omega arith) in
    record { within = le; put = with-before id x xs first; taken = without-before id x xs first }
missing id n (suc i) (x ∷ xs) h le below above =
    let first = below 0 (omega arith) in
    let more = missing id (x + 1) i xs h.1 (omega arith) (λ k lt. below (suc k) (omega arith))
    (λ k le lt. above (suc k) (omega arith) (omega arith)) in
    record {
      within = le;
      put = with-after id x xs first ∙ ap (λ ys. x ∷ ys) more.put;
      taken = without-after id x xs first ∙ ap (λ ys. x ∷ ys) more.taken;
    }

pub found : (id : ℕ) (xs ys : List ℕ) (r : Result ℕ ℕ) → ys ≡ xs → RiseIds 0 xs
    → IsBinarySearchResult (λ y. nat_cmp y id) ys r → MatchResult r (IsThere id xs) (IsMissing id xs)
found id xs ys r same h at =
    let on : IsBinarySearchResult (λ y. nat_cmp y id) xs r =
    subst (λ zs. IsBinarySearchResult (λ y. nat_cmp y id) zs r) same at in
    by r (searched xs id r on (λ i j le lt. ids-up 0 i j xs h le lt))
  where
    by : (r : Result ℕ ℕ)
        → MatchResult r (λ i. (i < length xs) × (get_or xs i 0 ≡ id))
        (λ i. (i ≤ length xs) × ((k : ℕ) → k < i → get_or xs k 0 < id)
        × ((k : ℕ) → i ≤ k → k < length xs → id < get_or xs k 0))
        → MatchResult r (IsThere id xs) (IsMissing id xs)
    by (Ok i) s = there id 0 i xs h s.0 s.1
    by (Err i) s = missing id 0 i xs h s.0 s.1 s.2
