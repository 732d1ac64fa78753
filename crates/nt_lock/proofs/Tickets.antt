-- What each kind of step does to the queue of tickets.
--     draws-ticket       a seat without a ticket draws the next number
--     keeps-ticket       a stage changes, and keeps its number: the seat enters, or counts
--     leaves-ticket      the seat whose number is served leaves, and nobody has its turn then
--     comes-without      one more seat without a ticket
--     is-served          a number that is out and congruent to the one that is served is served
use Rattle.std.proofs.Common.{◌≡◌, ◌≢◌, ℕ, ◌+◌, ◌%◌, ◌^◌, ◌<◌, ◌≤◌, ⊎_elim, List, [], ◌∷◌, ◌++◌, length, set, sym, refl, ap, ◌∙◌, subst, arith, length-set, length-append, sum_by}
use Rattle.std.proofs.lemmas.List.Sums.{sum_by-cons, sum_by_push}
use Rattle.std.specs.Prelude.{Option, Some, None}
use mathlib.Core.Logic.{dite}
use mathlib.Core.Option.{some}
use native.Mathlib.Decide.{ℕ_discrete}
use lib.ListN.{get_elem?}
use Rattle.atomic_table.proofs.Lists.{at_snoc, at_longer, set_here, set_else, one_turn}
use Rattle.nt_lock.specs.declared.view.Kept.{Kept}
use Rattle.nt_lock.specs.declared.view.Stage.{Stage}
use Rattle.nt_lock.specs.declared.view.Stage.TheVariants.{Idle, Waiting, Entered}
use Rattle.nt_lock.specs.Tickets.{tickets, number, inside, IsOut, Queue}
use Rattle.nt_lock.proofs.Lists.{stay, total-set, at-inside, same-at, some-injective, none-is-not-some}

at-most-one : (x : Stage) → tickets x ≤ 1
at-most-one Idle = omega arith
at-most-one (Waiting n) = omega arith
at-most-one (Entered n k) = omega arith

total-within : (l : List Stage) → sum_by tickets l ≤ length l
total-within [] = omega arith
total-within (x ∷ xs) =
    let h = total-within xs in
    let g = at-most-one x in
    omega (arith, sum_by-cons tickets x xs)

-- a ticket of another seat stays out
still-out : (n me : ℕ) (l : List Stage) (w : Stage) (out : IsOut n l) → out.0 ≢ me → IsOut n (set l me w)
still-out n me l w out other = (out.0, out.1, set_else l me out.0 w other ∙ out.2, out.3)

-- who has the number of one stage, and not of the other, isn't the seat of the other
apart-from : (n me j : ℕ) (l : List Stage) (v x : Stage) → get_elem? l me ≡ some v → get_elem? l j ≡ some x
    → number x ≡ Some n → (number v ≡ Some n → ⊥) → j ≢ me
apart-from n me j l v x at there is not e =
    not (ap number (same-at l me v x at (ap (get_elem? l) (sym e) ∙ there)) ∙ is)

pub draws-ticket : (next now : ℕ) (l : List Stage) (me : ℕ) → Queue next now l → get_elem? l me ≡ some Idle
    → Queue (next + 1) now (set l me (Waiting next))
draws-ticket next now l me q at =
    let t = total-set tickets l me Idle (Waiting next) at in
    let o = q.total in
    let few = q.few in
    record {
      total = omega arith;
      few = subst (λ (n : ℕ). n ≤ 64) (sym (length-set l me (Waiting next))) q.few;
      within = λ j n x e f. stay (λ _ x. number x ≡ Some n → (now ≤ n) × (n < next + 1)) l me (Waiting next)
          (λ h. let g : next ≡ n = some-injective next n h in (omega arith, omega arith))
          (λ j x _ at h.
          let w = q.within j n x at h in
          let a = w.0 in
          let b = w.1 in
          (omega arith, omega arith))
          j x e f;
      all_out = λ n from below. dite (ℕ_discrete n next)
          (λ is. (me, Waiting next, set_here l me (Waiting next) (at-inside l me Idle at), ap Some (sym is)))
          (λ other.
          let out = q.all_out n from (omega arith) in
          still-out n me l (Waiting next) out
          (apart-from n me out.0 l Idle out.1 at out.2 out.3 (none-is-not-some n)));
      apart = λ i j n x y e f g h. stay (λ i x. number x ≡ Some n → i ≡ j) l me (Waiting next)
          (λ g. stay (λ j y. number y ≡ Some n → me ≡ j) l me (Waiting next)
          (λ _. refl)
          (λ j y _ at h.
          let u : next ≡ n = some-injective next n g in
          let w = q.within j n y at h in
          let b = w.1 in
          absurd (omega arith))
          j y f h)
          (λ i x _ at g. stay (λ j y. number y ≡ Some n → i ≡ j) l me (Waiting next)
          (λ h.
          let u : next ≡ n = some-injective next n h in
          let w = q.within i n x at g in
          let b = w.1 in
          absurd (omega arith))
          (λ j y _ at' h. q.apart i j n x y at at' g h)
          j y f h)
          i x e g;
      serves = λ j x k e f. stay (λ _ x. inside x ≡ Some k → x ≡ Entered now k) l me (Waiting next)
          (λ h. absurd (none-is-not-some k h))
          (λ j x _ at h. q.serves j x k at h)
          j x e f;
    }

pub keeps-ticket : (next now : ℕ) (l : List Stage) (me : ℕ) (v w : Stage) → Queue next now l
    → get_elem? l me ≡ some v → tickets w ≡ tickets v → number w ≡ number v
    → ((k : Kept) → inside w ≡ Some k → w ≡ Entered now k) → Queue next now (set l me w)
keeps-ticket next now l me v w q at same num ins =
    let t = total-set tickets l me v w at in
    let o = q.total in
    record {
      total = omega arith;
      few = subst (λ (n : ℕ). n ≤ 64) (sym (length-set l me w)) q.few;
      within = λ j n x e f. stay (λ _ x. number x ≡ Some n → (now ≤ n) × (n < next)) l me w
          (λ h. q.within me n v at (sym num ∙ h))
          (λ j x _ at h. q.within j n x at h)
          j x e f;
      all_out = λ n from below.
          let out = q.all_out n from below in
          dite (ℕ_discrete out.0 me)
          (λ is. (
            me,
            w,
            set_here l me w (at-inside l me v at),
            num ∙ (ap number (same-at l me v out.1 at (ap (get_elem? l) (sym is) ∙ out.2)) ∙ out.3),
          ))
          (still-out n me l w out);
      apart = λ i j n x y e f g h. stay (λ i x. number x ≡ Some n → i ≡ j) l me w
          (λ g. stay (λ j y. number y ≡ Some n → me ≡ j) l me w
          (λ _. refl)
          (λ j y _ at' h. q.apart me j n v y at at' (sym num ∙ g) h)
          j y f h)
          (λ i x _ at' g. stay (λ j y. number y ≡ Some n → i ≡ j) l me w
          (λ h. q.apart i me n x v at' at g (sym num ∙ h))
          (λ j y _ at'' h. q.apart i j n x y at' at'' g h)
          j y f h)
          i x e g;
      serves = λ j x k e f. stay (λ _ x. inside x ≡ Some k → x ≡ Entered now k) l me w
          (ins k)
          (λ j x _ at h. q.serves j x k at h)
          j x e f;
    }

pub leaves-ticket : (next now : ℕ) (l : List Stage) (me : ℕ) (k : Kept) → Queue next now l
    → get_elem? l me ≡ some (Entered now k)
    → Queue next (now + 1) (set l me Idle)
    × ((j : ℕ) (x : Stage) → get_elem? (set l me Idle) j ≡ some x → inside x ≡ None)
leaves-ticket next now l me k q at =
    let t = total-set tickets l me (Entered now k) Idle at in
    let o = q.total in (
      record {
        total = omega arith;
        few = subst (λ (n : ℕ). n ≤ 64) (sym (length-set l me Idle)) q.few;
        within = λ j n x e f. stay (λ _ x. number x ≡ Some n → (now + 1 ≤ n) × (n < next)) l me Idle
            (λ h. absurd (none-is-not-some n h))
            (λ j x other at' h.
            let w = q.within j n x at' h in
            let a = w.0 in
            let b = w.1 in
            let not : now ≢ n =
            λ e. other (sym (q.apart me j now (Entered now k) x at at' refl (h ∙ ap Some (sym e)))) in
            (omega arith, omega arith))
            j x e f;
        all_out = λ n from below.
            let out = q.all_out n (omega arith) below in
            still-out n me l Idle out
            (apart-from n me out.0 l (Entered now k) out.1 at out.2 out.3
            (λ is. let same : now ≡ n = some-injective now n is in omega arith));
        apart = λ i j n x y e f g h. stay (λ i x. number x ≡ Some n → i ≡ j) l me Idle
            (λ g. absurd (none-is-not-some n g))
            (λ i x _ at' g. stay (λ j y. number y ≡ Some n → i ≡ j) l me Idle
            (λ h. absurd (none-is-not-some n h))
            (λ j y _ at'' h. q.apart i j n x y at' at'' g h)
            j y f h)
            i x e g;
        serves = λ j x c e f. absurd (none-is-not-some c (sym (outside j x e) ∙ f));
      },
      outside,
    )
  where
    nobody : (j : ℕ) (x : Stage) → j ≢ me → get_elem? l j ≡ some x → (o : Option Kept) → inside x ≡ o → o ≡ None
    nobody j x other at' None e = refl
    nobody j x other at' (Some c) e =
        let is = q.serves j x c at' e in
        absurd (other (sym (q.apart me j now (Entered now k) x at at' refl (ap number is))))

    outside : (j : ℕ) (x : Stage) → get_elem? (set l me Idle) j ≡ some x → inside x ≡ None
    outside j x e =
        stay (λ _ x. inside x ≡ None) l me Idle refl (λ j x other at'. nobody j x other at' (inside x) refl) j x e

pub comes-without : (next now : ℕ) (l : List Stage) → Queue next now l → length l < 64
    → Queue next now (l ++ Idle ∷ [])
comes-without next now l q room =
    let o = q.total in
    record {
      total = omega (arith, sum_by_push tickets l Idle);
      few = omega (arith, length-append l (Idle ∷ []));
      within = λ j n x e f. ⊎_elim
          (λ at. q.within j n x at f)
          (λ (t : Idle ≡ x). absurd (none-is-not-some n (ap number t ∙ f)))
          (at_snoc l Idle x j e);
      all_out = λ n from below.
          let out = q.all_out n from below in
          (out.0, out.1, at_longer l (Idle ∷ []) out.0 out.1 out.2, out.3);
      apart = λ i j n x y e f g h. ⊎_elim
          (λ at. ⊎_elim
          (λ at'. q.apart i j n x y at at' g h)
          (λ (t : Idle ≡ y). absurd (none-is-not-some n (ap number t ∙ h)))
          (at_snoc l Idle y j f))
          (λ (t : Idle ≡ x). absurd (none-is-not-some n (ap number t ∙ g)))
          (at_snoc l Idle x i e);
      serves = λ j x k e f. ⊎_elim
          (λ at. q.serves j x k at f)
          (λ (t : Idle ≡ x). absurd (none-is-not-some k (ap inside t ∙ f)))
          (at_snoc l Idle x j e);
    }

pub is-served : (next now n : ℕ) (l : List Stage) (me : ℕ) (x : Stage) → Queue next now l → get_elem? l me ≡ some x
    → number x ≡ Some n → now % 2 ^ 64 ≡ n % 2 ^ 64 → now ≡ n
is-served next now n l me x q at is e =
    let w = q.within me n x at is in
    let a = w.0 in
    let b = w.1 in
    let o = q.total in
    let few = q.few in
    let t = total-within l in
    one_turn now n (2 ^ 64) a (omega arith) e
