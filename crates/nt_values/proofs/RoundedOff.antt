-- Whole numbers that are rounded off to the bits that a fraction has.
use Rattle.std.proofs.Common.{◌≡◌, ℕ, suc, ◌+◌, ◌-◌, ◌*◌, ◌/◌, ◌%◌, ◌^◌, ◌<◌, ◌≤◌, ◌⊎◌, inl, inr, sym, ap, ◌∙◌, arith}
use Rattle.std.proofs.lemmas.Bool.{cases_order, cases_eq}
use Rattle.std.proofs.lemmas.Nat.{pow_pos, pow-add, div-add-mod', mod_below, and_mask, one_shl}
use Rattle.std.proofs.Math.Nat.{mul-lt-mul_of_pos_right}
use Rattle.std.specs.Prelude.{bit_and}
use Rattle.nt_values.specs.Bits.{Format, IsMeasured, worth, magnitudes, IsNearest, IsRoundedOff}
use Rattle.nt_values.proofs.Patterns.{leading_one, least, worth-scaled}
use Rattle.nt_values.proofs.Nearest.{nearest-below, nearest-above}

-- What the code rounds off: a whole number n, each 1 of which is worth 2 ^ j, loses its k low bits.
-- What is left has a leading 1 and stands at the power e, counted from the least positive pattern,
-- or stands at power 0.
pub record IsPlaced (f : Format) (n k j e : ℕ) : Type 0 where
  pub measured : IsMeasured f
  pub power : k + j ≡ least f + e
  pub low : (e ≡ 0) ⊎ (leading_one f ≤ n / 2 ^ k)
  pub high : n / 2 ^ k < leading_one f + leading_one f
  pub even : leading_one f % 2 ≡ 0
  pub within : suc (e * leading_one f + n / 2 ^ k) < magnitudes f

-- the number lies so far above the lower of its two neighbours
pub record IsAbove (f : Format) (x p unit rest : ℕ) : Type 0 where
  pub low : worth f p + rest ≡ x
  pub high : worth f p + unit ≡ worth f (suc p)

-- the lower neighbour of a placed number
placed-above : (f : Format) (n k j e : ℕ) → IsPlaced f n k j e
    → IsAbove f (n * 2 ^ j) (e * leading_one f + n / 2 ^ k) (2 ^ k * 2 ^ j) (n % 2 ^ k * 2 ^ j)
placed-above f n k j e h =
    let low = h.low in
    let high = h.high in
    let power : 2 ^ (least f + e) ≡ 2 ^ k * 2 ^ j = ap (λ i. 2 ^ i) (sym h.power) ∙ pow-add 2 k j in
    let here : worth f (e * leading_one f + n / 2 ^ k) ≡ n / 2 ^ k * 2 ^ (least f + e) =
    worth-scaled f e (n / 2 ^ k) h.measured low (omega arith) in
    let next_low : (e ≡ 0) ⊎ (leading_one f ≤ suc (n / 2 ^ k)) =
    elim low [ inl none ↦ inl none | inr above ↦ inr (omega arith) ] in
    let there : worth f (e * leading_one f + suc (n / 2 ^ k)) ≡ suc (n / 2 ^ k) * 2 ^ (least f + e) =
    worth-scaled f e (suc (n / 2 ^ k)) h.measured next_low (omega arith) in
    let next : suc (e * leading_one f + n / 2 ^ k) ≡ e * leading_one f + suc (n / 2 ^ k) = omega arith in
    let parts : (n / 2 ^ k * 2 ^ k + n % 2 ^ k) * 2 ^ j ≡ n * 2 ^ j =
    ap (λ m. m * 2 ^ j) (div-add-mod' n (2 ^ k)) in
    record {
      low = rw (here, power) (omega arith);
      high = rw (next, here, there, power) (omega arith);
    }

-- rounded off so, it is nearest
pub rounded_off-nearest : (f : Format) (n k j e r : ℕ) → IsPlaced f n k j e → IsRoundedOff n k r
    → IsNearest f (n * 2 ^ j) (e * leading_one f + r)
rounded_off-nearest f n k j e r h off =
    let at = placed-above f n k j e h in
    let p : ℕ = e * leading_one f + n / 2 ^ k in
    let low = at.low in
    let high = at.high in
    let some = pow_pos j in
    let rest = mod_below n (2 ^ k) (pow_pos k) in
    let inside : n % 2 ^ k * 2 ^ j < 2 ^ k * 2 ^ j = mul-lt-mul_of_pos_right rest some in
    let from : worth f p ≤ n * 2 ^ j = omega arith in
    let to : n * 2 ^ j ≤ worth f (suc p) = omega arith in
    elim (cases_order (2 * (n % 2 ^ k)) (2 ^ k)) [
      | inl tie ↦
          let middle : 2 * (n % 2 ^ k) * 2 ^ j ≡ 2 ^ k * 2 ^ j = ap (λ m. m * 2 ^ j) tie in
          let even = h.even in
          let whole : leading_one f ≡ 2 * (leading_one f / 2) = omega arith in
          let field : e * leading_one f ≡ 2 * (e * (leading_one f / 2)) =
          ap (λ m. e * m) whole ∙ omega arith in
          let is = off.tie tie in
          elim (cases_eq (n / 2 ^ k % 2) 0) [
            | inl zero_rest ↦
                let here : p ≡ e * leading_one f + r = omega arith in
                let parity : p % 2 ≡ 0 = omega arith in
                rw (← here) (nearest-below f (n * 2 ^ j) p h.measured h.within from to (inr (omega arith, parity)))
            | inr odd ↦
                let next : suc p ≡ e * leading_one f + r = omega arith in
                let parity : suc p % 2 ≡ 0 = omega arith in
                rw (← next) (nearest-above f (n * 2 ^ j) p h.measured h.within from to (inr (omega arith, parity)))
          ]
      | inr other ↦ elim other [
        | inl less ↦
            let nearer : 2 * (n % 2 ^ k) * 2 ^ j < 2 ^ k * 2 ^ j = mul-lt-mul_of_pos_right less some in
            rw (off.below less) (nearest-below f (n * 2 ^ j) p h.measured h.within from to (inl (omega arith)))
        | inr more ↦
            let nearer : 2 ^ k * 2 ^ j < 2 * (n % 2 ^ k) * 2 ^ j = mul-lt-mul_of_pos_right more some in
            let next : suc p ≡ e * leading_one f + r = (let is = off.above more in omega arith) in
            rw (← next) (nearest-above f (n * 2 ^ j) p h.measured h.within from to (inl (omega arith)))
      ]
    ]

-- `value & ((1 << k) - 1)` is the rest
pub rest-is : (n k : ℕ) → k < 64 → bit_and n ((1 * 2 ^ k) % 2 ^ 64 - 1) ≡ n % 2 ^ k
rest-is n k h = rw (one_shl k 64 h) (and_mask n k)

-- `1 << (k - 1)` is half of what the rest is below
pub half-is : (k : ℕ) → 0 < k → k < 64 → 2 * ((1 * 2 ^ (k - 1)) % 2 ^ 64) ≡ 2 ^ k
half-is k some h =
    let less : k - 1 < 64 = omega arith in
    let here : 1 + (k - 1) ≡ k = omega arith in
    rw (one_shl (k - 1) 64 less) (sym (pow-add 2 1 (k - 1)) ∙ ap (λ i. 2 ^ i) here)

-- what is rounded off is below n or the next number
pub rounded_off-le : (n k r : ℕ) → IsRoundedOff n k r → r ≤ suc (n / 2 ^ k)
rounded_off-le n k r off =
    elim (cases_order (2 * (n % 2 ^ k)) (2 ^ k)) [
      | inl tie ↦ (let is = off.tie tie in omega arith)
      | inr other ↦ elim other [
        | inl less ↦ (let is = off.below less in omega arith)
        | inr more ↦ (let is = off.above more in omega arith)
      ]
    ]
