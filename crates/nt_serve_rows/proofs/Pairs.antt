-- The two seats of a hall of two workers, taken out of their list and put back after their turns.
--     of-two      which seats they are
--     two-own     both are the hall's
--     two-kept    each the same as before, they are all its seats
use Rattle.std.proofs.Common.{◌≡◌, ℕ, zero, suc, ◌+◌, List, [], ◌∷◌, ◌++◌, length, sym, ap, ◌∙◌, subst, arith, get_or, length-append}
use mathlib.Core.Option.{some, some-injective, some-ne-none}
use lib.ListN.{get_elem?}
use Rattle.atomic_table.specs.Seated.{TableId}
use Rattle.nt_lock.specs.declared.view.Origin.{Origin}
use Rattle.nt_lock.specs.Seats.{SeatView, new_seat, new_seats, AreAll}
use Rattle.nt_lock_rows.specs.Crowds.{IsSame}

-- what is left of the list is empty, and these two were in it
pub record AreTwo (lock : TableId) (o : Origin) (left : List SeatView) (s t : SeatView) : Type 0 where
  pub left_is : left ≡ []
  pub first_is : s ≡ new_seat lock o 1 2
  pub second_is : t ≡ new_seat lock o 2 0

pub of-two : (lock : TableId) (o : Origin) (left : List SeatView) (s t : SeatView)
    → (left ++ s ∷ []) ++ t ∷ [] ≡ new_seats lock o 2 → AreTwo lock o left s t
of-two lock o [] s t is =
    record {
      left_is = λ i. [];
      first_is = ap (λ l. get_or l 0 s) is;
      second_is = ap (λ l. get_or l 1 t) is;
    }
of-two lock o (r ∷ left) s t is =
    let long = ap length is in
    let one = length-append ((r ∷ left) ++ s ∷ []) (t ∷ []) in
    let two = length-append (r ∷ left) (s ∷ []) in
    absurd (omega arith)

both-kept : (lock : TableId) (o : Origin) (s t u v : SeatView) → s ≡ new_seat lock o 1 2 → t ≡ new_seat lock o 2 0
    → IsSame s u → IsSame t v → AreAll lock (u ∷ v ∷ [])
both-kept lock o s t u v s-is t-is su tv =
    record {
      some_seat = omega arith;
      each = each;
      first = λ r g. ap (λ (r : SeatView). r.opened) (sym (some-injective u r g)) ∙ su.opened
          ∙ ap (λ (r : SeatView). r.opened) s-is;
    }
  where
    each : (i : ℕ) (r : SeatView) → get_elem? (u ∷ v ∷ []) i ≡ some r → (r.lock ≡ lock) × (r.worker ≡ i + 1)
    each zero r g =
        let is : r ≡ u = sym (some-injective u r g) in (
          ap (λ (r : SeatView). r.lock) is ∙ su.lock ∙ ap (λ (r : SeatView). r.lock) s-is,
          ap (λ (r : SeatView). r.worker) is ∙ su.worker ∙ ap (λ (r : SeatView). r.worker) s-is,
        )
    each (suc zero) r g =
        let is : r ≡ v = sym (some-injective v r g) in (
          ap (λ (r : SeatView). r.lock) is ∙ tv.lock ∙ ap (λ (r : SeatView). r.lock) t-is,
          ap (λ (r : SeatView). r.worker) is ∙ tv.worker ∙ ap (λ (r : SeatView). r.worker) t-is,
        )
    each (suc (suc i)) r g = absurd (some-ne-none r (sym g))

pub two-own : (lock : TableId) (o : Origin) (left : List SeatView) (s t : SeatView)
    → (left ++ s ∷ []) ++ t ∷ [] ≡ new_seats lock o 2 → (s.lock ≡ lock) × (t.lock ≡ lock)
two-own lock o left s t is =
    let two = of-two lock o left s t is in
    (ap (λ (r : SeatView). r.lock) two.first_is, ap (λ (r : SeatView). r.lock) two.second_is)

pub two-kept : (lock : TableId) (o : Origin) (left : List SeatView) (s t u v : SeatView)
    → (left ++ s ∷ []) ++ t ∷ [] ≡ new_seats lock o 2 → IsSame s u → IsSame t v
    → AreAll lock ((left ++ u ∷ []) ++ v ∷ [])
two-kept lock o left s t u v is su tv =
    let two = of-two lock o left s t is in
    subst (λ left. AreAll lock ((left ++ u ∷ []) ++ v ∷ [])) (sym two.left_is)
    (both-kept lock o s t u v two.first_is two.second_is su tv)
