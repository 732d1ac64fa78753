-- Where the lines of a list of bytes end.
use Rattle.std.proofs.Common.{◌≡◌, ℕ, ◌+◌, ◌-◌, ◌<◌, ◌≤◌, Bool, true, false, cond, ◌||◌, not, List, [], ◌∷◌, ◌++◌, length, take, drop, get_or, Option, None, Some, refl, sym, ap, ◌∙◌, arith, append-nil, nat_lt}
use Rattle.std.specs.List.{position, prefix_len, position_or_len}
use Rattle.std.proofs.lemmas.Bool.{eqb-true, not-true, ltb-false, true≢false}
use Rattle.std.proofs.lemmas.List.{take-append-drop, drop_more, length-take-le, get_or-take, get_or_default, drop-take, drop-drop, length-drop}
use Rattle.std.proofs.lemmas.List.Folds.{list_any-append, list_any_none}
use Rattle.std.proofs.lemmas.List.Sums.{prefix_len_passes}
use Rattle.std.proofs.lemmas.List.Quantifiers.{position-Some}
use Rattle.nt_tools.specs.LineReading.{is_feed, IsUnbroken}

-- ---- the first line feed

-- two parts without a line feed have none together
pub unbroken-append : (xs ys : List ℕ) → IsUnbroken xs → IsUnbroken ys → IsUnbroken (xs ++ ys)
unbroken-append xs ys first second = rw (list_any-append is_feed xs ys, first) second

-- before the first line feed there is none
pub unbroken-before : (xs : List ℕ) (n : ℕ) → position is_feed xs ≡ Some n → IsUnbroken (take n xs)
unbroken-before xs n found =
    let at = position-Some is_feed xs n 0 found in
    let len : length (take n xs) ≡ n = length-take-le n xs (omega (arith, at.0)) in
    list_any_none is_feed (take n xs) (λ k d below.
    let lt : k < n = omega arith in
    let within : k < length xs = omega (arith, at.0) in
    ap is_feed (get_or-take n xs k d lt ∙ get_or_default xs k d 0 within) ∙ at.2 k lt)

none-len : (n m : ℕ) (b : Bool) → nat_lt n m ≡ b → cond b (Some n) None ≡ None → m ≤ n
none-len n m true is none = absurd (cc)
none-len n m false is none = ltb-false n m is

-- where there is no first line feed, there is none
pub unbroken-none : (xs : List ℕ) → position is_feed xs ≡ None → IsUnbroken xs
unbroken-none xs none =
    let all : length xs ≤ position_or_len is_feed xs = none-len _ _ _ refl none in
    list_any_none is_feed xs (λ k d below.
    let lt : k < prefix_len (λ x. not (is_feed x)) xs = omega (arith, all) in
    not-true _ (prefix_len_passes (λ x. not (is_feed x)) xs k d lt))

-- what stands at the first line feed
pub at_feed : (xs : List ℕ) (n : ℕ) → position is_feed xs ≡ Some n → xs ≡ take n xs ++ 10 ∷ drop (n + 1) xs
at_feed xs n found =
    let at = position-Some is_feed xs n 0 found in
    let feed : get_or xs n 0 ≡ 10 = eqb-true _ _ at.1 in
    let lt : n < length xs = at.0 in
    sym (take-append-drop n xs) ∙ ap (λ l. take n xs ++ l) (drop_more xs n 0 lt ∙ ap (λ b. b ∷ drop (n + 1) xs) feed)

-- ---- a part of a list from a place to another

-- the part without its first bytes
pub part-advanced : (xs : List ℕ) (at end count : ℕ) → at ≤ end → end ≤ length xs
    → count ≤ length (take (end - at) (drop at xs))
    → take (end - (at + count)) (drop (at + count) xs) ≡ drop count (take (end - at) (drop at xs))
part-advanced xs at end count le within below =
    let len : length (take (end - at) (drop at xs)) ≡ end - at =
    length-take-le (end - at) (drop at xs) (omega (arith, length-drop at xs)) in
    let rest = end - (at + count) in
    let whole : count + rest ≡ end - at = omega arith in
    ap (take rest) (sym (drop-drop count at xs)) ∙ sym (drop-take count rest (drop at xs))
    ∙ ap (λ (k : ℕ). drop count (take k (drop at xs))) whole
