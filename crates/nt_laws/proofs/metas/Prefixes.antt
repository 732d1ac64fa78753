-- The prefix that is kept of a list is the longest that is short enough.
use Rattle.std.proofs.Common.{◌≡◌, ℕ, ◌+◌, ◌<◌, ◌≤◌, Bool, true, false, List, [], ◌∷◌, ◌++◌, length, drop, nat_le, refl}
use Rattle.std.proofs.Common.{ap, ◌∙◌, length-append, arith, cond, rules}
use Rattle.std.specs.List.{flat_map}
use Rattle.nt_rules.specs.Limits.{most_bytes}
use Rattle.nt_rules.specs.meta.Packing.{fitting}
use Rattle.nt_rules.specs.meta.Rosters.{IsLongestPrefix}

abbrev size : List (List ℕ) → ℕ
size xs = length (flat_map (λ x. x) xs)

-- the same behind so many bytes
record IsLongestBehind (before : ℕ) (all prefix : List (List ℕ)) : Type 0 where
  rest : List (List ℕ)
  whole : all ≡ prefix ++ rest
  within : before + size prefix ≤ most_bytes
  longest : (other back : List (List ℕ)) → all ≡ other ++ back → before + size other ≤ most_bytes
      → length other ≤ length prefix

abbrev head_or : List ℕ → List (List ℕ) → List ℕ
head_or d [] = d
head_or d (x ∷ xs) = x

longest-none : (before : ℕ) → before ≤ most_bytes → IsLongestBehind before [] []
longest-none before h = record {
  rest = [];
  whole = refl;
  within = omega (arith, h);
  longest = λ other back e w. let n : 0 ≡ length other + length back =
      ap length e ∙ length-append other back in omega arith;
}

longest-cut : (before : ℕ) (x : List ℕ) (xs : List (List ℕ)) → before ≤ most_bytes
    → most_bytes < before + length x
    → IsLongestBehind before (x ∷ xs) []
longest-cut before x xs h over = record {
  rest = x ∷ xs;
  whole = refl;
  within = omega (arith, h);
  longest = none;
}
  where
    none : (other back : List (List ℕ)) → x ∷ xs ≡ other ++ back → before + size other ≤ most_bytes
        → length other ≤ 0
    none [] back e w = omega arith
    none (y ∷ ys) back e w =
        let n : length x ≡ length y = ap (λ z. length (head_or x z)) e in
        let m : size (y ∷ ys) ≡ length y + size ys = length-append y (flat_map (λ x. x) ys) in
        omega (arith, over, w)

longest-more : (before : ℕ) (x : List ℕ) (xs prefix : List (List ℕ))
    → IsLongestBehind (before + length x) xs prefix
    → IsLongestBehind before (x ∷ xs) (x ∷ prefix)
longest-more before x xs prefix l = record {
  rest = l.rest;
  whole = ap (λ z. x ∷ z) l.whole;
  within = let w = l.within in let m : size (x ∷ prefix) ≡ length x + size prefix =
      length-append x (flat_map (λ x. x) prefix) in omega arith;
  longest = more;
}
  where
    more : (other back : List (List ℕ)) → x ∷ xs ≡ other ++ back → before + size other ≤ most_bytes
        → length other ≤ length (x ∷ prefix)
    more [] back e w = omega arith
    more (y ∷ ys) back e w =
        let n : length x ≡ length y = ap (λ z. length (head_or x z)) e in
        let m : size (y ∷ ys) ≡ length y + size ys = length-append y (flat_map (λ x. x) ys) in
        let s : (before + length x) + size ys ≤ most_bytes = omega (arith, w) in
        let k = l.longest ys back (ap (drop 1) e) s in
        omega arith

longest-behind : (before : ℕ) (xs : List (List ℕ)) → before ≤ most_bytes
    → IsLongestBehind before xs (fitting before xs)
longest-behind before [] h = longest-none before h
longest-behind before (x ∷ xs) h =
    by (nat_le (before + length x) most_bytes) refl (λ w. longest-behind (before + length x) xs w)
  where
    by : (b : Bool) → nat_le (before + length x) most_bytes ≡ b
        → (before + length x ≤ most_bytes
        → IsLongestBehind (before + length x) xs (fitting (before + length x) xs))
        → IsLongestBehind before (x ∷ xs) (cond b (x ∷ fitting (before + length x) xs) [])
    by true e rest = longest-more before x xs (fitting (before + length x) xs) (rest (search (rules, e)))
    by false e rest = longest-cut before x xs h (search (rules, e))

pub longest-kept : (xs : List (List ℕ)) → IsLongestPrefix xs (fitting 0 xs)
longest-kept xs =
    let l = longest-behind 0 xs (omega arith) in
    record {
      rest = l.rest;
      whole = l.whole;
      within = let w = l.within in omega arith;
      longest = λ other back e w. l.longest other back e (omega (arith, w));
    }
