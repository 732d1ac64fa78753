-- Keys of one topic that follow one another, and the topic to which they are handed.
use Rattle.std.proofs.Common.{◌≡◌, ◌≤◌, ◌<◌, ◌+◌, ◌∙◌, ℕ, zero, suc, Bool, true, false, cond, eqb, ltb, not, List, [], ◌∷◌, ◌++◌, Option, Some, None, Result, Ok, Err, length, get_or, set, take, drop, map, filter, refl, sym, ap, subst, arith, take-append-drop}
use Rattle.std.specs.List.Sorted.{IsPermutation}
use Rattle.std.proofs.lemmas.Bool.Decides.{nat_tests}
use Rattle.nt_rules.specs.outbox.Keys.{Key}
use Rattle.nt_rules.specs.outbox.Marks.{Mark, handed, handed_all, is_blank}
use Rattle.nt_rules.specs.outbox.Messages.{mark_at}
use Rattle.nt_outbox.specs.Steps.{RiseFrom, AreOf, run_of, next_index, position_of}
use Rattle.nt_outbox.proofs.Places.{mark-missing}
use Rattle.nt_outbox.proofs.Changes.{IsChange, others-same, change-mapped}
use Rattle.nt_outbox.proofs.Handed.{handed-other, all-none, all-append, all-permutation}

-- ---- runs

pub run-within : (id : ℕ) (ks : List Key) → run_of id ks ≤ length ks
run-within id [] = omega arith
run-within id (k ∷ ks) = by (eqb k.topic id) (run-within id ks)
  where
    by : (b : Bool) → run_of id ks ≤ length ks → cond b (suc (run_of id ks)) 0 ≤ length (k ∷ ks)
    by true more = omega arith
    by false more = omega arith

run-same : (id : ℕ) (ks : List Key) → AreOf id (take (run_of id ks) ks)
run-same id [] = tt
run-same id (k ∷ ks) = by (eqb k.topic id) refl (run-same id ks)
  where
    by : (b : Bool) → eqb k.topic id ≡ b → AreOf id (take (run_of id ks) ks)
        → AreOf id (take (cond b (suc (run_of id ks)) 0) (k ∷ ks))
    by true e more = (grind (arith, nat_tests), more)
    by false e more = tt

pub run-of : (id n : ℕ) (ks run : List Key) → n ≡ run_of id ks → run ≡ take n ks → AreOf id run
run-of id n ks run e h = subst (AreOf id) (sym (h ∙ ap (λ k. take k ks) e)) (run-same id ks)

pub run-some : (id : ℕ) (ks : List Key) (k : Key) → 0 < length ks → k ≡ get_or ks 0 k → k.topic ≡ id
    → 1 ≤ run_of id ks
run-some id [] k lt at e = absurd (omega arith)
run-some id (x ∷ ks) k lt at e =
    let t : eqb x.topic id ≡ true =
    ap (λ (y : Key). eqb y.topic id) (sym at) ∙ (let same = e in grind (arith, nat_tests)) in
    let more : run_of id (x ∷ ks) ≡ suc (run_of id ks) = ap (λ b. cond b (suc (run_of id ks)) 0) t in omega arith

-- a run is handed, and then the others
pub run-handed : (ks run others : List Key) (n : ℕ) (ms now all : List Mark) → run ≡ take n ks → others ≡ drop n ks
    → now ≡ map (handed run) ms → map (handed ks) ms ≡ all → map (handed others) now ≡ all
run-handed ks run others n ms now all r o e h =
    ap (map (handed others)) e
    ∙ sym (all-append run others ms)
    ∙ ap (λ xs. map (handed xs) ms) (joined ∙ take-append-drop n ks) ∙ h
  where
    joined : run ++ others ≡ take n ks ++ drop n ks
    joined = ap (λ xs. xs ++ others) r ∙ ap (λ xs. take n ks ++ xs) o

-- when no keys are left, all were handed, in whatever order
pub run-ended : (ks rest sorted : List Key) (kept before : List Mark) → length rest ≡ 0
    → map (handed rest) kept ≡ map (handed sorted) before → IsPermutation ks sorted
    → filter (λ m. not (is_blank m)) kept ≡ handed_all ks before
run-ended ks (k ∷ rest) sorted kept before none h p = absurd (omega arith)
run-ended ks [] sorted kept before none h p =
    ap (filter (λ m. not (is_blank m))) (sym (all-none kept) ∙ h ∙ sym (all-permutation ks sorted before p))

-- ---- the topic that is changed

mapped-other : (id : ℕ) (g : Mark → Mark) (ms : List Mark) → ((m : Mark) → eqb m.id id ≡ false → g m ≡ m)
    → mark_at id ms ≡ None → map g ms ≡ ms
mapped-other id g [] other none = refl
mapped-other id g (m ∷ ms) other none = by (eqb m.id id) refl none (λ e. mapped-other id g ms other e)
  where
    by : (b : Bool) → eqb m.id id ≡ b → cond b (Some m) (mark_at id ms) ≡ None
        → (mark_at id ms ≡ None → map g ms ≡ ms) → g m ∷ map g ms ≡ m ∷ ms
    by true t none more = absurd (cc)
    by false t none more = ap (λ x. x ∷ map g ms) (other m t) ∙ ap (λ xs. m ∷ xs) (more none)

mapped-set : (id n i : ℕ) (g : Mark → Mark) (ms : List Mark) (x y : Mark)
    → ((m : Mark) → eqb m.id id ≡ false → g m ≡ m) → RiseFrom n ms → position_of id ms ≡ Ok i → x ≡ get_or ms i x
    → y ≡ g x → set ms i y ≡ map g ms
mapped-set id n i g [] x y other h e at now = absurd (cc)
mapped-set id n i g (m ∷ ms) x y other h e at now =
    by (eqb m.id id) refl (ltb id m.id) refl e (λ j e at. mapped-set id (m.id + 1) j g ms x y other h.1 e at now)
  where
    next : (r : Result ℕ ℕ) → r ≡ position_of id ms → next_index r ≡ Ok i → eqb m.id id ≡ false
        → ((j : ℕ) → position_of id ms ≡ Ok j → x ≡ get_or ms j x → set ms j y ≡ map g ms)
        → set (m ∷ ms) i y ≡ g m ∷ map g ms
    next (Ok j) r e t more =
        let same : suc j ≡ i = cc in
        ap (λ k. set (m ∷ ms) k y) (sym same)
        ∙ ap (λ xs. m ∷ xs) (more j (sym r) (at ∙ ap (λ k. get_or (m ∷ ms) k x) (sym same)))
        ∙ sym (ap (λ z. z ∷ map g ms) (other m t))
    next (Err j) r e t more = absurd (cc)

    by : (b : Bool) → eqb m.id id ≡ b → (c : Bool) → ltb id m.id ≡ c
        → cond b (Ok 0) (cond c (Err 0) (next_index (position_of id ms))) ≡ Ok i
        → ((j : ℕ) → position_of id ms ≡ Ok j → x ≡ get_or ms j x → set ms j y ≡ map g ms)
        → set (m ∷ ms) i y ≡ g m ∷ map g ms
    by true t c u e more =
        let same : 0 ≡ i = cc in
        let here : x ≡ m = at ∙ ap (λ k. get_or (m ∷ ms) k x) (sym same) in
        let first : m.id ≡ id = grind (arith, nat_tests) in
        ap (λ k. set (m ∷ ms) k y) (sym same)
        ∙ ap (λ z. z ∷ ms) (now ∙ ap g here)
        ∙ ap (λ xs. g m ∷ xs) (sym (others-same id (m.id + 1) g ms other h.1 (omega arith)))
    by false t true u e more = absurd (cc)
    by false t false u e more = next (position_of id ms) refl e t more

pub handed-at : (id i : ℕ) (ks : List Key) (ms : List Mark) (x y : Mark) → RiseFrom 0 ms → AreOf id ks
    → position_of id ms ≡ Ok i → x ≡ get_or ms i x → y ≡ handed ks x → set ms i y ≡ map (handed ks) ms
handed-at id i ks ms x y h all e at now =
    mapped-set id 0 i (handed ks) ms x y (λ m t. handed-other ks id m all t) h e at now

pub handed-nowhere : (id i : ℕ) (ks : List Key) (ms : List Mark) → RiseFrom 0 ms → AreOf id ks
    → position_of id ms ≡ Err i → ms ≡ map (handed ks) ms
handed-nowhere id i ks ms h all e =
    sym (mapped-other id (handed ks) ms (λ m t. handed-other ks id m all t) (mark-missing id 0 ms i h e))

pub change-handed : (id : ℕ) (ks : List Key) (ms : List Mark) → RiseFrom 0 ms → AreOf id ks
    → IsChange id ms (map (handed ks) ms)
change-handed id ks ms h all =
    change-mapped id 0 (handed ks) ms (λ m. refl) (λ m t. handed-other ks id m all t) h
