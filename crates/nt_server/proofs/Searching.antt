-- Where a search by id finds the place of a topic, and that ids go on rising.
use Rattle.std.proofs.Common.{◌≡◌, ◌<◌, ◌==◌, ◌||◌, ℕ, zero, suc, Bool, true, false, cond, eqb, ltb, not, List, [], ◌∷◌, Some, Result, Ok, Err, length, nat_cmp, refl, sym, ◌∙◌, ap, subst, arith, tests}
use Rattle.std.specs.Prelude.{MatchResult}
use Rattle.std.specs.List.{slice_get, list_any}
use Rattle.std.specs.List.Sorted.{IsBinarySearchResult, IsSearchInRange}
use Rattle.std.proofs.lemmas.Bool.Decides.{nat_tests}
use Rattle.nt_rules.specs.declared.taken.Taken.{Taken}
use Rattle.nt_rules.specs.Sorted as sorted
use Rattle.nt_rules.specs.Sorted.{RisesFrom, with_key}
use Rattle.nt_rules.proofs.Search.{searched, within-found, within-missed, filter-found, filter-missed, set-found, insert-missed, rises-with, rises-filter, any-missed}
use Rattle.nt_rules.specs.history.State.{taken_at, with_taken, without_taken}
use Rattle.nt_server.specs.TakenPlaces.{id_of_place, taken_of, IsFoundAt, IsMissedAt}

is-same : (a b : ℕ) → a ≡ b → eqb a b ≡ true
is-same a b e = grind (arith, tests, nat_tests)

is-other : (a b : ℕ) → a < b → eqb a b ≡ false
is-other a b lt = grind (arith, tests, nat_tests)

-- a place that is kept is one change by the id
taken-key : (topic place : ℕ) (ts : List Taken)
    → with_key id_of_place topic (λ o. Some (taken_of topic place)) ts ≡ with_taken topic place ts
taken-key topic place [] = refl
taken-key topic place (t ∷ ts) =
    ap (λ xs. cond (eqb t.topic topic) (taken_of topic place ∷ ts)
    (cond (ltb topic t.topic) (taken_of topic place ∷ t ∷ ts) (t ∷ xs))) (taken-key topic place ts)

named-so : (topic : ℕ) (t : Taken) → t.topic ≡ topic → t ≡ taken_of topic t.place
named-so topic t e = ap (λ (k : ℕ). taken_of k t.place) e

there : (topic i : ℕ) (ts : List Taken) → sorted.IsFoundAt id_of_place topic ts i
    → slice_get ts i ≡ Some (taken_of topic (taken_at topic ts))
there topic i [] h = absurd h
there topic zero (t ∷ ts) h = rw (is-same t.topic topic h.0) (ap (λ (x : Taken). Some x) (named-so topic t h.0))
there topic (suc i) (t ∷ ts) h = rw (is-other t.topic topic h.0) (there topic i ts h.1)

nowhere : (topic : ℕ) (ts : List Taken) → list_any (λ t. id_of_place t == topic) ts ≡ false → taken_at topic ts ≡ 0
nowhere topic [] h = refl
nowhere topic (t ∷ ts) h = by (eqb t.topic topic) (λ k. nowhere topic ts k) h
  where
    by : (b : Bool) → (list_any (λ t. id_of_place t == topic) ts ≡ false → taken_at topic ts ≡ 0)
        → (b || list_any (λ t. id_of_place t == topic) ts) ≡ false → cond b t.place (taken_at topic ts) ≡ 0
    by true more h = absurd (cc)
    by false more h = more h

-- what a binary search by id answers
pub searched-places : (topic : ℕ) (ts : List Taken) (r : Result ℕ ℕ) → RisesFrom id_of_place 0 ts
    → IsSearchInRange r (length ts) → IsBinarySearchResult (λ (t : Taken). nat_cmp t.topic topic) ts r
    → MatchResult r (IsFoundAt topic ts) (IsMissedAt topic ts)
searched-places topic ts r h within at = by r (searched id_of_place topic 0 ts r h within at)
  where
    by : (r : Result ℕ ℕ) → MatchResult r (sorted.IsFoundAt id_of_place topic ts)
        (sorted.IsMissedAt id_of_place topic ts)
        → MatchResult r (IsFoundAt topic ts) (IsMissedAt topic ts)
    by (Ok i) f =
        record {
          within = within-found id_of_place topic ts i f;
          there = there topic i ts f;
          put = λ place.
              sym (set-found id_of_place topic (λ o. Some (taken_of topic place)) (taken_of topic place) ts i f refl)
              ∙ taken-key topic place ts;
          left = sym (filter-found id_of_place topic ts i f);
        }
    by (Err i) m =
        record {
          within = within-missed id_of_place topic ts i m;
          nowhere = nowhere topic ts (any-missed id_of_place topic ts i m);
          put = λ place.
              sym (insert-missed id_of_place topic (λ o. Some (taken_of topic place)) (taken_of topic place) ts i m
              refl)
              ∙ taken-key topic place ts;
          left = sym (filter-missed id_of_place topic ts i m);
        }

-- ids go on rising
pub rises_with : (topic place : ℕ) (ts later : List Taken) → RisesFrom id_of_place 0 ts
    → later ≡ with_taken topic place ts → RisesFrom id_of_place 0 later
rises_with topic place ts later h e =
    subst (RisesFrom id_of_place 0) (taken-key topic place ts ∙ sym e)
    (rises-with id_of_place topic 0 (λ o. Some (taken_of topic place)) ts (omega arith) h refl (λ t k. refl))

pub rises_without : (topic : ℕ) (ts later : List Taken) → RisesFrom id_of_place 0 ts
    → later ≡ without_taken topic ts → RisesFrom id_of_place 0 later
rises_without topic ts later h e =
    subst (RisesFrom id_of_place 0) (sym e) (rises-filter id_of_place 0 (λ t. not (t.topic == topic)) ts h)
