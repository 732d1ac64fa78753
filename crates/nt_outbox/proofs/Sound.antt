-- What is told of the topics as a whole stays so where one of them is changed, and its messages are counted anew.
use Rattle.std.proofs.Common.{◌≡◌, ◌≤◌, ◌<◌, ◌+◌, ◌-◌, ◌^◌, ◌∙◌, min, ℕ, Bool, true, false, cond, eqb, ltb, List, [], ◌∷◌, Some, refl, sym, ap, subst, arith}
use Rattle.std.proofs.lemmas.Bool.Decides.{nat_tests}
use Rattle.nt_rules.specs.outbox.Marks.{Mark, weight, is_blank, fresh, turned, unless_blank, at_id}
use Rattle.nt_rules.specs.outbox.Messages.{mark_at}
use Rattle.nt_outbox.specs.Owing.{RiseIds, with_id, without_id}
use Rattle.nt_outbox.specs.Steps.{RiseFrom, mark_count, count, count_in, count_at, owing_ids, IsSound}
use Rattle.nt_outbox.proofs.Places.{below-none}
use Rattle.nt_outbox.proofs.Counts.{counts-fit}
use Rattle.nt_outbox.proofs.Changes.{IsChange, counted, named, part-count, owing-rise, still-named}

-- the ids of which something is owed rise
pub ids-rise : (ms : List Mark) (owing : List ℕ) → RiseFrom 0 ms → owing ≡ owing_ids ms → RiseIds 0 owing
ids-rise ms owing h e = subst (RiseIds 0) (sym e) (owing-rise 0 ms h)

-- what was counted of an equal list
pub told : (id n : ℕ) (xs ms : List Mark) → n ≡ min (count_at id xs) (2 ^ 64 - 1) → xs ≡ ms
    → n ≡ min (count_at id ms) (2 ^ 64 - 1)
told id n xs ms e same = e ∙ ap (λ ys. min (count_at id ys) (2 ^ 64 - 1)) same

-- a topic's messages before it is changed are a part of all, and a number of 64 bits counts them
pub before-part : (id n before : ℕ) (ms : List Mark) → n ≡ count ms → n < 2 ^ 64
    → before ≡ min (count_at id ms) (2 ^ 64 - 1) → (before ≡ count_at id ms) × (before ≤ n)
before-part id n before ms e fits b =
    let part = part-count id ms in (omega arith, omega arith)

-- and so are those after it
pub after-part : (id q after : ℕ) (now : List Mark) → RiseFrom 0 now → q ≡ weight now → q < 2 ^ 64
    → after ≡ min (count_at id now) (2 ^ 64 - 1) → (after ≡ count_at id now) × (count now < 2 ^ 60)
after-part id q after now h e fits a =
    let few = counts-fit now h (omega arith) in
    let part = part-count id now in (omega arith, few)

-- the number of all messages, without those before and with those after
pub recounted : (id n q before after : ℕ) (ms now : List Mark) → RiseFrom 0 ms → IsChange id ms now → RiseFrom 0 now
    → n ≡ count ms → n < 2 ^ 64 → q ≡ weight now → q < 2 ^ 64
    → before ≡ min (count_at id ms) (2 ^ 64 - 1) → after ≡ min (count_at id now) (2 ^ 64 - 1)
    → ((n - before) + after ≡ count now) × ((n - before) + after < 2 ^ 60)
recounted id n q before after ms now h c g e fits w light b a =
    let b-part = before-part id n before ms e fits b in
    let a-part = after-part id q after now g w light a in
    let all = counted id ms now h c in
    let same = b-part.0 in let less = b-part.1 in let more = a-part.0 in let few = a-part.1 in
    (omega arith, omega arith)

-- what is kept is sound after a change
pub sound-after : (id n q before after total : ℕ) (b : Bool) (ms now : List Mark) (owing ids : List ℕ)
    → RiseFrom 0 ms → IsChange id ms now → RiseFrom 0 now → n ≡ count ms → n < 2 ^ 64 → q ≡ weight now → q < 2 ^ 64
    → before ≡ min (count_at id ms) (2 ^ 64 - 1) → after ≡ min (count_at id now) (2 ^ 64 - 1)
    → total ≡ (n - before) + after → owing ≡ owing_ids ms → b ≡ ltb 0 after
    → ids ≡ cond b (with_id id owing) (without_id id owing) → IsSound now ids q total
sound-after id n q before after total b ms now owing ids h c g e fits w light f a t o d is =
    let sums = recounted id n q before after ms now h c g e fits w light f a in
    let part = after-part id q after now g w light a in
    record {
      rising = g;
      named = is ∙ ap (λ t. cond t (with_id id owing) (without_id id owing)) (d ∙ ap (λ n. ltb 0 n) part.0)
          ∙ ap (λ xs. cond (ltb 0 (count_at id now)) (with_id id xs) (without_id id xs)) o
          ∙ sym (named id ms now h c);
      weighed = w;
      counted = t ∙ sums.0;
    }

-- where a topic that is owed something had something owed before, the ids stay
pub ids-stay : (id : ℕ) (ms : List Mark) (owing : List ℕ) → RiseFrom 0 ms → 0 < count_at id ms → owing ≡ owing_ids ms
    → with_id id owing ≡ owing
ids-stay id ms owing h lt o =
    ap (with_id id) o ∙ still-named id 0 ms h lt ∙ sym o

-- where it turned, no more is owed of it than before
pub turned-fewer : (id n : ℕ) (ms : List Mark) → RiseFrom n ms → count_at id (at_id id [] turned ms) ≤ count_at id ms
turned-fewer id n [] h = omega arith
turned-fewer id n (m ∷ ms) h =
    by (eqb m.id id) refl (ltb id m.id) (turned-fewer id (m.id + 1) ms h.1)
  where
    kept : eqb m.id id ≡ true → (b : Bool) → count_at id (cond b ms (turned m ∷ ms)) ≤ mark_count m
    kept t true =
        let none : count_at id ms ≡ 0 =
        ap count_in (below-none id (m.id + 1) ms h.1 (grind (arith, nat_tests))) in omega arith
    kept t false = rw t (omega arith)

    by : (b : Bool) → eqb m.id id ≡ b → (c : Bool) → count_at id (at_id id [] turned ms) ≤ count_at id ms
        → count_at id (cond b (unless_blank (turned m) ms)
        (cond c (unless_blank (turned (fresh id [])) (m ∷ ms)) (m ∷ at_id id [] turned ms)))
        ≤ count_in (cond b (Some m) (mark_at id ms))
    by true t c more = kept t (is_blank (turned m))
    by false t true more = rw t (omega arith)
    by false t false more = rw t more
