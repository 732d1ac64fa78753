-- Seats that took turns are all seats of their lock.
--     new-own       the seats of a new lock are the lock's
--     all-kept      the seats of a new lock, each the same as before, are all its seats
use Rattle.std.proofs.Common.{◌≡◌, ℕ, zero, suc, ◌+◌, ◌-◌, ◌<◌, List, [], ◌∷◌, length, sym, refl, ap, ◌∙◌, subst, arith, get_or, ◌++◌, take, drop}
use Rattle.std.proofs.Math.Seq.{take-append_seam}
use mathlib.Core.Option.{some, some-injective, some-ne-none}
use lib.ListN.{get_elem?}
use Rattle.atomic_table.specs.Seated.{TableId}
use Rattle.nt_lock.specs.declared.view.Origin.{Origin}
use Rattle.nt_lock.specs.Seats.{SeatView, new_seat, others, new_seats, AreAll}
use Rattle.nt_lock_rows.specs.Crowds.{IsSame}

length-others : (lock : TableId) (o : Origin) (from n : ℕ) → length (others lock o from n) ≡ n
length-others lock o from zero = refl
length-others lock o from (suc n) = ap suc (length-others lock o (from + 1) n)

abbrev pub Each : List SeatView → List SeatView → Type 0
Each xs ys = (i : ℕ) (d : SeatView) → i < length xs → IsSame (get_or xs i d) (get_or ys i d)

abbrev pub Own : TableId → List SeatView → Type 0
Own lock xs = (i : ℕ) (d : SeatView) → i < length xs → (get_or xs i d).lock ≡ lock

others-own : (lock : TableId) (o : Origin) (from n : ℕ) → Own lock (others lock o from n)
others-own lock o from zero i d h = absurd (omega arith)
others-own lock o from (suc n) zero d h = refl
others-own lock o from (suc n) (suc i) d h = others-own lock o (from + 1) n i d (omega arith)

new-are-own : (lock : TableId) (o : Origin) (n : ℕ) → Own lock (new_seats lock o n)
new-are-own lock o n zero d h = refl
new-are-own lock o n (suc i) d h = others-own lock o 2 (n - 1) i d (omega arith)

pub new-own : (lock : TableId) (o : Origin) (n : ℕ) (xs : List SeatView) → xs ≡ new_seats lock o n → Own lock xs
new-own lock o n xs is = subst (Own lock) (sym is) (new-are-own lock o n)

others-stay : (lock : TableId) (o : Origin) (from n : ℕ) (ys : List SeatView) → length ys ≡ n
    → Each (others lock o from n) ys → (i : ℕ) (s : SeatView) → get_elem? ys i ≡ some s
    → (s.lock ≡ lock) × (s.worker ≡ from + i)
others-stay lock o from zero [] e f i s g = absurd (some-ne-none s (sym g))
others-stay lock o from zero (y ∷ ys) e f i s g = absurd (omega arith)
others-stay lock o from (suc n) [] e f i s g = absurd (omega arith)
others-stay lock o from (suc n) (y ∷ ys) e f zero s g =
    let is : s ≡ y = sym (some-injective y s g) in
    let same = f 0 y (omega arith) in
    let number : from ≡ from + 0 = omega arith in
    (ap (λ (s : SeatView). s.lock) is ∙ same.lock, ap (λ (s : SeatView). s.worker) is ∙ same.worker ∙ number)
others-stay lock o from (suc n) (y ∷ ys) e f (suc i) s g =
    let r = others-stay lock o (from + 1) n ys (omega arith) (λ i d h. f (suc i) d (omega arith)) i s g in
    let number : from + 1 + i ≡ from + suc i = omega arith in
    (r.0, r.1 ∙ number)

new-stay : (lock : TableId) (o : Origin) (n : ℕ) (ys : List SeatView) → 0 < n
    → length ys ≡ length (new_seats lock o n) → Each (new_seats lock o n) ys → AreAll lock ys
new-stay lock o n [] some-seat e f = absurd (omega arith)
new-stay lock o n (y ∷ ys) some-seat e f =
    record {
      some_seat = omega arith;
      each = each;
      first = λ s g. ap (λ (s : SeatView). s.opened) (sym (some-injective y s g)) ∙ same.opened ∙ count;
    }
  where
    same : IsSame (new_seat lock o 1 n) y
    same = f 0 y (omega arith)

    long : length ys ≡ n - 1
    long = let m = length-others lock o 2 (n - 1) in omega arith

    count : n ≡ length (y ∷ ys)
    count = omega (arith, long)

    each : (i : ℕ) (s : SeatView) → get_elem? (y ∷ ys) i ≡ some s → (s.lock ≡ lock) × (s.worker ≡ i + 1)
    each zero s g =
        let is : s ≡ y = sym (some-injective y s g) in
        (ap (λ (s : SeatView). s.lock) is ∙ same.lock, ap (λ (s : SeatView). s.worker) is ∙ same.worker)
    each (suc i) s g =
        let r = others-stay lock o 2 (n - 1) ys long (λ i d h. f (suc i) d (omega arith)) i s g in
        let number : 2 + i ≡ suc i + 1 = omega arith in
        (r.0, r.1 ∙ number)

all-stay : (lock : TableId) (o : Origin) (n : ℕ) (xs ys : List SeatView) → xs ≡ new_seats lock o n → 0 < n
    → length ys ≡ length xs → Each xs ys → AreAll lock ys
all-stay lock o n xs ys is some-seat =
    subst (λ xs. length ys ≡ length xs → Each xs ys → AreAll lock ys) (sym is) (new-stay lock o n ys some-seat)

-- the same of the seats as a list keeps them whose slice was written
pub all-kept : (lock : TableId) (o : Origin) (n len : ℕ) (xs ys us : List SeatView) → xs ≡ new_seats lock o n → 0 < n
    → length ys ≡ length xs → len ≡ length xs → Each xs ys → AreAll lock (take len (ys ++ drop (length ys) us))
all-kept lock o n len xs ys us is some-seat same long each =
    let whole : take len (ys ++ drop (length ys) us) ≡ ys =
    ap (λ m. take m (ys ++ drop (length ys) us)) (long ∙ sym same) ∙ take-append_seam ys (drop (length ys) us) in
    subst (AreAll lock) (sym whole) (all-stay lock o n xs ys is some-seat same each)
