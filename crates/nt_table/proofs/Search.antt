-- Where the topic of an id stands among topics whose ids rise.
use Rattle.std.proofs.Common.{◌≡◌, ◌<◌, ◌+◌, ◌==◌, ℕ, ℤ, zero, suc, false, not, cond, ltb, eqb, List, [], ◌∷◌, Option, Some, None, Result, Ok, Err, length, get_or, slice_get, refl, sym, ◌∙◌, ap, arith, tests}
use Rattle.std.specs.List.{position, position_or_len}
use Rattle.std.specs.Prelude.{MatchResult}
use Rattle.std.specs.Result.{result_ok}
use Rattle.std.specs.List.Sorted.{IsSearchInRange, IsBinarySearchResult}
use Rattle.std.specs.Ordering.{nat_cmp}
use Rattle.std.proofs.lemmas.Option.{slice_get_within, get_or_from_slice_get}
use Rattle.std.proofs.lemmas.Bool.Decides.{nat_tests}
use Rattle.nt_rules.specs.declared.topic.Topic.{Topic}
use Rattle.nt_rules.specs.Sorted.{IsFoundAt, IsMissedAt}
use Rattle.nt_rules.proofs.Search as search-by
use Rattle.nt_table.specs.Index.{is_at, IsRising, AreFiled}

-- an index's id is compared from the other side
other-side : (a b : ℕ) → eqb a b ≡ eqb b a
other-side a b = grind (arith, tests, nat_tests)

same-position : (id : ℕ) (ts : List Topic) → position (is_at (Some id)) ts ≡ position (λ t. t.id == id) ts
same-position id ts = ap (λ n. cond (ltb n (length ts)) (Some n) None) (same ts)
  where
    same : (ts : List Topic) → position_or_len (is_at (Some id)) ts ≡ position_or_len (λ t. t.id == id) ts
    same [] = refl
    same (t ∷ ts) =
        ap (λ b. cond (not b) (1 + position_or_len (is_at (Some id)) ts) 0) (other-side id t.id)
        ∙ ap (λ n. cond (not (t.id == id)) (1 + n) 0) (same ts)

answered : (id : ℕ) (ts : List Topic) (r : Result ℕ ℕ)
    → MatchResult r (IsFoundAt (λ (t : Topic). t.id) id ts) (IsMissedAt (λ (t : Topic). t.id) id ts)
    → result_ok r ≡ position (is_at (Some id)) ts
answered id ts (Ok i) h = sym (same-position id ts ∙ search-by.position-found (λ (t : Topic). t.id) id ts i h)
answered id ts (Err i) h = sym (same-position id ts ∙ search-by.position-missed (λ (t : Topic). t.id) id ts i h)

-- what the search answers
pub searched : (id : ℕ) (ts : List Topic) (r : Result ℕ ℕ) → IsRising 0 ts → IsSearchInRange r (length ts)
    → IsBinarySearchResult (λ (t : Topic). nat_cmp t.id id) ts r → result_ok r ≡ position (is_at (Some id)) ts
searched id ts r rising range found =
    answered id ts r (search-by.searched (λ (t : Topic). t.id) id 0 ts r rising range found)

-- where a topic with this id stands
pub at-position : (id : ℕ) (ts : List Topic) (i : ℕ) (t : Topic) → IsRising 0 ts → i < length ts → t ≡ get_or ts i t
    → t.id ≡ id → Some i ≡ position (is_at (Some id)) ts
at-position id ts i t rising within here at =
    answered id ts (Ok i) (search-by.found-here (λ (t : Topic). t.id) id 0 ts i t rising within
    (ap (λ t. t.id) (sym here) ∙ at))

-- where no id was found
pub nowhere : (ts : List Topic) → None ≡ position (is_at None) ts
nowhere ts =
    let outside : ltb (length ts) (length ts) ≡ false = grind (arith, nat_tests) in
    sym (ap (λ n. cond (ltb n (length ts)) (Some n) None) (none ts) ∙ ap (λ b. cond b (Some (length ts)) None) outside)
  where
    none : (ts : List Topic) → position_or_len (is_at None) ts ≡ length ts
    none [] = refl
    none (t ∷ ts) = ap (λ n. 1 + n) (none ts) ∙ omega arith

-- ---- the ids of the topics at their indexes

pub rising-item : (ts : List Topic) (i j : ℕ) (s t : Topic) → IsRising 0 ts → i < j → s ≡ get_or ts i s
    → slice_get ts j ≡ Some t → s.id < t.id
rising-item ts i j s t r less here there =
    let apart = search-by.rises-apart (λ (t : Topic). t.id) 0 ts i j s r less (slice_get_within ts j t there) in
    let one : s.id ≡ (get_or ts i s).id = ap (λ t. t.id) here in
    let two : (get_or ts j s).id ≡ t.id = ap (λ t. t.id) (get_or_from_slice_get ts j t s there) in
    omega (arith, apart, one, two)

pub below-item : (names : List ℕ → Option ℕ) (ids : ℕ → ℤ → Option ℕ) (next : ℕ) (ts : List Topic) (i : ℕ) (s : Topic)
    → AreFiled names ids next ts → i < length ts → s ≡ get_or ts i s → s.id < next
below-item names ids next ts i s filed within here =
    let below = at ts i filed within in
    let one : s.id ≡ (get_or ts i s).id = ap (λ t. t.id) here in
    omega (arith, below, one)
  where
    at : (ts : List Topic) (i : ℕ) → AreFiled names ids next ts → i < length ts → (get_or ts i s).id < next
    at [] i k within = absurd (omega arith)
    at (t ∷ ts) zero k within = let first = k.0 in first.below
    at (t ∷ ts) (suc i) k within = at ts i k.1 (omega arith)
