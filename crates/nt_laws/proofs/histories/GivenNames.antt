-- The name that a connection is given is free.
use Rattle.std.proofs.Common.{◌≡◌, ◌≢◌, ◌≤◌, ◌<◌, ◌+◌, ℕ, zero, suc, Bool, true, false, cond, not, ◌||◌, List, [], ◌∷◌}
use Rattle.std.proofs.Common.{◌++◌, length, filter, refl, sym, ◌∙◌, ap, arith, ◌^◌}
use Rattle.std.specs.Str.{bytes_eq}
use Rattle.std.specs.Fmt.{decimal}
use Rattle.std.specs.Str.Parse.{digits_value}
use Rattle.std.proofs.lemmas.Fmt.{decimal_is_IsNumeral}
use Rattle.std.proofs.lemmas.Slice.Eq.{bytes_eq-Decides}
use Rattle.nt_rules.specs.history.Answer.{is_used, free_name, numbered, given_name}

-- the other names
abbrev others : List (List ℕ) → List ℕ → List (List ℕ)
others names n = filter (λ used. not (bytes_eq used n)) names

-- where a name is used, there are fewer others
length-others-le : (names : List (List ℕ)) (n : List ℕ) → length (others names n) ≤ length names
length-others-le [] n = omega arith
length-others-le (o ∷ names) n = by (length-others-le names n) (bytes_eq o n)
  where
    by : length (others names n) ≤ length names → (b : Bool)
        → length (cond (not b) (o ∷ others names n) (others names n)) ≤ length (o ∷ names)
    by h true = omega arith
    by h false = omega arith

length-others : (names : List (List ℕ)) (n : List ℕ) → is_used names n ≡ true
    → length (others names n) + 1 ≤ length names
length-others [] n e = cc
length-others (o ∷ names) n e = by (λ k. length-others names n k) (bytes_eq o n) e
  where
    by : (is_used names n ≡ true → length (others names n) + 1 ≤ length names) → (b : Bool)
        → (b || is_used names n) ≡ true
        → length (cond (not b) (o ∷ others names n) (others names n)) + 1 ≤ length (o ∷ names)
    by more true e = let h = length-others-le names n in omega arith
    by more false e = let h = more e in omega arith

-- another name that is used is used among them
used-others : (names : List (List ℕ)) (n m : List ℕ) → m ≢ n → is_used names m ≡ true
    → is_used (others names n) m ≡ true
used-others [] n m ne e = e
used-others (o ∷ names) n m ne e =
    by (λ k. used-others names n m ne k) (bytes_eq o n) refl (bytes_eq o m) refl e
  where
    by : (is_used names m ≡ true → is_used (others names n) m ≡ true) → (b : Bool) → bytes_eq o n ≡ b
        → (d : Bool)
        → bytes_eq o m ≡ d → (d || is_used names m) ≡ true
        → is_used (cond (not b) (o ∷ others names n) (others names n)) m ≡ true
    by more true en true em e = absurd (ne (sym ((bytes_eq-Decides o m).0 em) ∙ (bytes_eq-Decides o n).0 en))
    by more true en false em e = more e
    by more false en true em e = ap (λ d. d || is_used (others names n) m) em
    by more false en false em e = ap (λ d. d || is_used (others names n) m) em ∙ more e

cancel : (xs ys zs : List ℕ) → xs ++ ys ≡ xs ++ zs → ys ≡ zs
cancel [] ys zs e = e
cancel (x ∷ xs) ys zs e = cancel xs ys zs (let f : x ∷ (xs ++ ys) ≡ x ∷ (xs ++ zs) = e in cc)

longer : (xs ds : List ℕ) → xs ≢ xs ++ (64 ∷ ds)
longer [] ds e = cc
longer (x ∷ xs) ds e = longer xs ds (let f : x ∷ xs ≡ x ∷ (xs ++ (64 ∷ ds)) = e in cc)

-- numbered names differ
numbered-inj : (name : List ℕ) (j k : ℕ) → j < k → k < 2 ^ 32 → numbered name j ≢ numbered name k
numbered-inj name j zero h e = absurd (omega arith)
numbered-inj name zero (suc k) h e = λ same. longer name (decimal (suc k)) same
numbered-inj name (suc j) (suc k) h e = λ same.
    let digits : 64 ∷ decimal (suc j)
    ≡ 64 ∷ decimal (suc k) = cancel name (64 ∷ decimal (suc j)) (64 ∷ decimal (suc k)) same in
    let numbers : decimal (suc j) ≡ decimal (suc k) = cc in
    let a : digits_value 10 (decimal (suc j)) ≡ suc j = (decimal_is_IsNumeral (suc j) (omega arith)).1 in
    let b : digits_value 10 (decimal (suc k)) ≡ suc k = (decimal_is_IsNumeral (suc k) (omega arith)).1 in
    let c : suc j ≡ suc k = sym a ∙ ap (λ ds. digits_value 10 ds) numbers ∙ b in
    omega arith

-- a name that is used, and is none of the first numbered ones, is used among the rest
abbrev Covers : List (List ℕ) → List (List ℕ) → List ℕ → ℕ → Type 0
Covers names rest name k =
    (m : List ℕ) → ((j : ℕ) → j < k → m ≢ numbered name j) → is_used names m ≡ true → is_used rest m ≡ true

free-from : (names : List (List ℕ)) (name : List ℕ) (fuel rest : List (List ℕ)) (k : ℕ)
    → k + length fuel < 2 ^ 32
    → length rest ≤ length fuel → Covers names rest name k → is_used names (free_name names fuel k name)
    ≡ false
free-from names name [] rest k few h covers = by rest h covers (is_used names (numbered name k)) refl
  where
    by : (rest : List (List ℕ)) → length rest ≤ 0 → Covers names rest name k → (b : Bool)
        → is_used names (numbered name k) ≡ b → is_used names (numbered name k) ≡ false
    by rest h covers false e = e
    by [] h covers true e =
        let f : false
        ≡ true =
        covers (numbered name k) (λ j less same. numbered-inj name j k less (omega arith) (sym same)) e in
        cc
    by (o ∷ rest) h covers true e = absurd (omega arith)
free-from names name (f ∷ fuel) rest k few h covers =
    by (λ less cov. free-from names name fuel (others rest (numbered name k)) (k + 1) (omega arith) less cov)
    (is_used names (numbered name k)) refl
  where
    next : Covers names (others rest (numbered name k)) name (k + 1)
    next m ne e =
        used-others rest (numbered name k) m (ne k (omega arith)) (covers m (λ j less. ne j (omega arith)) e)

    by : (length (others rest (numbered name k)) ≤ length fuel
        → Covers names (others rest (numbered name k)) name (k + 1)
        → is_used names (free_name names fuel (k + 1) name) ≡ false)
        → (b : Bool) → is_used names (numbered name k) ≡ b
        → is_used names (cond b (free_name names fuel (k + 1) name) (numbered name k)) ≡ false
    by more true e =
        let used : is_used rest (numbered name k)
        ≡ true =
        covers (numbered name k) (λ j less same. numbered-inj name j k less (omega arith) (sym same)) e in
        let fewer = length-others rest (numbered name k) used in
        more (omega arith) next
    by more false e = e

-- where there are fewer than 2^32 names, the given one is none of them
pub given-unused : (names : List (List ℕ)) (name : List ℕ) → length names < 2 ^ 32
    → is_used names (given_name names name) ≡ false
given-unused names name few = free-from names name names names 0 (omega arith) (omega arith) (λ m ne e. e)
