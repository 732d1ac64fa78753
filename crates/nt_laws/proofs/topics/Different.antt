-- Lists whose items have different keys: no key is counted twice, in whatever order they stand.
use Rattle.std.proofs.Common.{◌≡◌, ◌≢◌, ◌≤◌, ◌+◌, ℕ, Bool, true, false, cond, List, [], ◌∷◌, ◌++◌, refl, sym, ◌∙◌, ap}
use Rattle.std.proofs.Common.{subst, arith}
use Rattle.std.specs.Bool.{Decides}
use Rattle.std.specs.List.{AllByRecursion, sum_by}
use Rattle.std.specs.List.Sorted.{IsPermutation}
use Rattle.std.proofs.lemmas.List.Sorted.{sum_by-IsPermutation}
use Rattle.std.proofs.lemmas.List.Sums.{sum_by-cons}
use Rattle.nt_rules.specs.meta.Rosters.{Pairwise}

module _ {X K : Type 0} (key : X → K) (test : K → X → Bool)
    (decides : (k : K) (x : X) → Decides (test k x) (key x ≡ k)) where
  abbrev pub AreDifferent : List X → Type 0
  AreDifferent xs = Pairwise (λ a b. key a ≢ key b) xs

  abbrev pub one : K → X → ℕ
  one k x = cond (test k x) 1 0

  -- how many have this key
  abbrev pub many : K → List X → ℕ
  many k [] = 0
  many k (x ∷ xs) = one k x + many k xs

  abbrev pub AreSingle : List X → Type 0
  AreSingle xs = (k : K) → many k xs ≤ 1

  pub many-append : (k : K) (xs ys : List X) → many k (xs ++ ys) ≡ many k xs + many k ys
  many-append k [] ys = omega arith
  many-append k (x ∷ xs) ys = let more = many-append k xs ys in omega arith

  none-has : (k : K) (xs : List X) → AllByRecursion (λ x. k ≢ key x) xs → many k xs ≡ 0
  none-has k [] h = refl
  none-has k (x ∷ xs) h = by (test k x) refl (none-has k xs h.1)
    where
      by : (b : Bool) → test k x ≡ b → many k xs ≡ 0 → cond b 1 0 + many k xs ≡ 0
      by true e more = absurd (h.0 (sym ((decides k x).0 e)))
      by false e more = omega arith

  others-have : (k : K) (xs : List X) → many k xs ≡ 0 → AllByRecursion (λ x. k ≢ key x) xs
  others-have k [] e = tt
  others-have k (x ∷ xs) e = by (test k x) refl (λ none. others-have k xs none) e
    where
      by : (b : Bool) → test k x ≡ b → (many k xs ≡ 0 → AllByRecursion (λ x. k ≢ key x) xs)
          → cond b 1 0 + many k xs ≡ 0 → (k ≢ key x) × AllByRecursion (λ x. k ≢ key x) xs
      by true h more e = absurd (omega arith)
      by false h more e = (
        λ same. let yes : test k x ≡ true = (decides k x).1 (sym same) in cc,
        more (omega arith),
      )

  pub different-single : (xs : List X) → AreDifferent xs → AreSingle xs
  different-single [] h k = omega arith
  different-single (x ∷ xs) h k = by (test k x) refl (different-single xs h.1 k)
    where
      by : (b : Bool) → test k x ≡ b → many k xs ≤ 1 → cond b 1 0 + many k xs ≤ 1
      by true e more =
          let none : many k xs ≡ 0 =
          none-has k xs (subst (λ j. AllByRecursion (λ y. j ≢ key y) xs) ((decides k x).0 e) h.0) in
          omega arith
      by false e more = omega arith

  pub single-different : (xs : List X) → AreSingle xs → AreDifferent xs
  single-different [] h = tt
  single-different (x ∷ xs) h =
      (others-have (key x) xs none, single-different xs (λ k. let few = h k in omega arith))
    where
      none : many (key x) xs ≡ 0
      none =
          let few : cond true 1 0 + many (key x) xs ≤ 1 =
          subst (λ b. cond b 1 0 + many (key x) xs ≤ 1) ((decides (key x) x).1 refl) (h (key x)) in
          omega arith

  many-sum : (k : K) (xs : List X) → many k xs ≡ sum_by (one k) xs
  many-sum k [] = refl
  many-sum k (x ∷ xs) = ap (λ n. one k x + n) (many-sum k xs) ∙ sym (sum_by-cons (one k) x xs)

  pub different-permuted : (xs ys : List X) → IsPermutation xs ys → AreDifferent xs → AreDifferent ys
  different-permuted xs ys same h =
      single-different ys
      (λ k. subst (λ n. n ≤ 1)
      (many-sum k xs ∙ sym (sum_by-IsPermutation (one k) xs ys same) ∙ sym (many-sum k ys))
      (different-single xs h k))
