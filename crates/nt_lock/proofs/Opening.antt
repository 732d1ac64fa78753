-- The seats of a lock as it opens.
--     others-more       one more seat
--     first-in-front    the first seat goes from the end to the front
use Rattle.std.proofs.Common.{◌≡◌, ℕ, zero, suc, ◌+◌, ◌-◌, ◌≤◌, List, [], ◌∷◌, ◌++◌, take, drop, length, refl, ap, ◌∙◌, arith}
use Rattle.atomic_table.specs.Seated.{TableId}
use Rattle.nt_lock.specs.declared.view.Origin.{Origin}
use Rattle.nt_lock.specs.Seats.{SeatView, new_seat, others}

others-snoc : (lock : TableId) (o : Origin) (from n : ℕ)
    → others lock o from n ++ new_seat lock o (from + n) 0 ∷ [] ≡ others lock o from (suc n)
others-snoc lock o from zero =
    ap (λ (w : ℕ). new_seat lock o w 0 ∷ []) (let h : from + 0 ≡ from = omega arith in h)
others-snoc lock o from (suc n) =
    let e : from + suc n ≡ from + 1 + n = omega arith in
    ap (λ l. new_seat lock o from 0 ∷ l)
    (ap (λ (w : ℕ). others lock o (from + 1) n ++ new_seat lock o w 0 ∷ []) e ∙ others-snoc lock o (from + 1) n)

pub others-more : (lock : TableId) (o : Origin) (made : ℕ) → 1 ≤ made
    → others lock o 2 (made - 1) ++ new_seat lock o (made + 1) 0 ∷ [] ≡ others lock o 2 (made + 1 - 1)
others-more lock o made some-made =
    let a : made + 1 ≡ 2 + (made - 1) = omega arith in
    let b : suc (made - 1) ≡ made + 1 - 1 = omega arith in
    ap (λ (w : ℕ). others lock o 2 (made - 1) ++ new_seat lock o w 0 ∷ []) a
    ∙ (others-snoc lock o 2 (made - 1) ∙ ap (others lock o 2) b)

pub first-in-front : (xs : List SeatView) (x : SeatView) (n : ℕ) → length xs ≡ n
    → drop n (xs ++ x ∷ []) ++ take n (xs ++ x ∷ []) ≡ x ∷ xs
first-in-front xs x n e = λ i. back xs x n e i ++ front xs x n e i
  where
    back : (xs : List SeatView) (x : SeatView) (n : ℕ) → length xs ≡ n → drop n (xs ++ x ∷ []) ≡ x ∷ []
    back [] x zero e = refl
    back [] x (suc n) e = absurd (omega arith)
    back (y ∷ ys) x zero e = absurd (omega arith)
    back (y ∷ ys) x (suc n) e = back ys x n (omega arith)

    front : (xs : List SeatView) (x : SeatView) (n : ℕ) → length xs ≡ n → take n (xs ++ x ∷ []) ≡ xs
    front [] x zero e = refl
    front [] x (suc n) e = absurd (omega arith)
    front (y ∷ ys) x zero e = absurd (omega arith)
    front (y ∷ ys) x (suc n) e = λ i. y ∷ front ys x n (omega arith) i
