-- Floats against doubles: what one is worth as the other.
use Rattle.std.proofs.Common.{◌≡◌, ℕ, suc, ◌+◌, ◌-◌, ◌*◌, ◌/◌, ◌%◌, ◌^◌, ◌<◌, ◌≤◌, ◌⊎◌, inl, inr, refl, sym, ap, ◌∙◌, arith}
use Rattle.std.proofs.lemmas.Bool.{cases_lt}
use Rattle.std.proofs.lemmas.Nat.{pow_pos, pow-add, leading_top, le-div, div_below, mod_below, and_mask}
use Rattle.std.specs.Prelude.{bit_and}
use Rattle.std.proofs.Math.Nat.{mul_assoc, pow-le-pow_right}
use Rattle.std.specs.Int.{w64, leading_zeros}
use Rattle.nt_values.specs.Bits.{float_format, double_format, infinity, worth, IsRounded, IsRoundedOff}
use Rattle.nt_values.proofs.Patterns.{scaled, worth-scaled, worth-normal, worth-subnormal, worth-less, worth-le, worth-zero}
use Rattle.nt_values.proofs.Nearest.{nearest-below, rounded-finite, rounded-infinite}
use Rattle.nt_values.proofs.RoundedOff.{IsPlaced, rounded_off-nearest, rounded_off-le}
use Rattle.nt_values.proofs.Wholes.{moved-top}

-- ---- from float to double

-- a float with a leading 1
pub normal-widened : (m : ℕ) → 2 ^ 23 ≤ m
    → worth double_format (m * 2 ^ 29 + 896 * 2 ^ 52) ≡ worth float_format m
normal-widened m normal =
    let d = scaled float_format m in
    let low = d.low in
    let high = d.high in
    let is = d.is in
    let leading : 2 ^ 23 ≤ d.s = elim low [ inl none ↦ omega arith | inr above ↦ above ] in
    let here : worth float_format m ≡ d.s * 2 ^ (925 + d.e) =
    ap (worth float_format) is ∙ worth-scaled float_format d.e d.s (omega arith) low (omega arith) in
    let place : m * 2 ^ 29 + 896 * 2 ^ 52 ≡ (d.e + 896) * 2 ^ 52 + d.s * 2 ^ 29 = omega arith in
    let there : worth double_format ((d.e + 896) * 2 ^ 52 + d.s * 2 ^ 29) ≡ d.s * 2 ^ 29 * 2 ^ (0 + (d.e + 896)) =
    worth-scaled double_format (d.e + 896) (d.s * 2 ^ 29) (omega arith) (inr (omega arith)) (omega arith) in
    let power : 29 + (0 + (d.e + 896)) ≡ 925 + d.e = omega arith in
    let same : d.s * 2 ^ 29 * 2 ^ (0 + (d.e + 896)) ≡ d.s * 2 ^ (925 + d.e) =
    mul_assoc d.s (2 ^ 29) (2 ^ (0 + (d.e + 896)))
    ∙ ap (λ n. d.s * n) (sym (pow-add 2 29 (0 + (d.e + 896))) ∙ ap (λ i. 2 ^ i) power) in
    ap (worth double_format) place ∙ there ∙ same ∙ sym here

-- the leading zeros of a fraction leave room to move it up
pub zeros-bounds : (n : ℕ) → 0 < n → n < 2 ^ 23 → (41 ≤ leading_zeros w64 n) × (leading_zeros w64 n ≤ 63)
zeros-bounds n some below =
    let t = leading_top 64 n some (omega arith) in
    let power : leading_zeros w64 n + suc t.0 ≡ 64 = t.1 in
    let low : 2 ^ t.0 ≤ n = t.2 in
    elim (cases_lt t.0 23) [
      | inl less ↦ (omega arith, omega arith)
      | inr more ↦ (let far : 2 ^ 23 ≤ 2 ^ t.0 = pow-le-pow_right (omega arith) more in absurd (omega arith))
    ]

-- a fraction with a double's leading 1
pub record IsLeading (n : ℕ) : Type 0 where
  pub low : 2 ^ 52 ≤ n
  pub high : n < 2 ^ 53

-- a subnormal fraction that was moved up is one
pub fraction-leading : (n : ℕ) → 0 < n → n < 2 ^ 23 → IsLeading (n * 2 ^ (leading_zeros w64 n - 11))
fraction-leading n some below =
    let top = moved-top n some (omega arith) in
    let low = top.low in
    let high = top.high in
    let zeros = zeros-bounds n some below in
    let bits : leading_zeros w64 n - 11 + 11 ≡ leading_zeros w64 n = (let least_zeros = zeros.0 in omega arith) in
    let parts : n * 2 ^ (leading_zeros w64 n - 11) * 2 ^ 11 ≡ n * 2 ^ leading_zeros w64 n =
    mul_assoc n (2 ^ (leading_zeros w64 n - 11)) (2 ^ 11)
    ∙ ap (λ m. n * m) (sym (pow-add 2 (leading_zeros w64 n - 11) 11) ∙ ap (λ i. 2 ^ i) bits) in
    record { low = omega arith; high = omega arith }

-- and as a double's it is worth the same
pub subnormal-widened : (n : ℕ) → 0 < n → n < 2 ^ 23
    → worth double_format ((936 - leading_zeros w64 n) * 2 ^ 52 + n * 2 ^ (leading_zeros w64 n - 11))
    ≡ worth float_format n
subnormal-widened n some below =
    let zeros = zeros-bounds n some below in
    let least_zeros = zeros.0 in
    let most_zeros = zeros.1 in
    let leading = fraction-leading n some below in
    let low = leading.low in
    let high = leading.high in
    let z : ℕ = leading_zeros w64 n in
    let here : worth float_format n ≡ n * 2 ^ 925 = worth-subnormal float_format n below in
    let there : worth double_format ((936 - z) * 2 ^ 52 + n * 2 ^ (z - 11)) ≡ n * 2 ^ (z - 11) * 2 ^ (0 + (936 - z)) =
    worth-scaled double_format (936 - z) (n * 2 ^ (z - 11)) (omega arith) (inr (omega arith)) (omega arith) in
    let power : z - 11 + (0 + (936 - z)) ≡ 925 = omega arith in
    let same : n * 2 ^ (z - 11) * 2 ^ (0 + (936 - z)) ≡ n * 2 ^ 925 =
    mul_assoc n (2 ^ (z - 11)) (2 ^ (0 + (936 - z)))
    ∙ ap (λ m. n * m) (sym (pow-add 2 (z - 11) (0 + (936 - z))) ∙ ap (λ i. 2 ^ i) power) in
    there ∙ same ∙ sym here

-- ---- from double to float

-- a double with a leading 1, by its fields
normal-worth : (m : ℕ) → 0 < m / 2 ^ 52
    → worth double_format m ≡ (2 ^ 52 + m % 2 ^ 52) * 2 ^ (m / 2 ^ 52 - 1)
normal-worth m some =
    let fraction = mod_below m (2 ^ 52) (omega arith) in
    let parts : m ≡ suc (m / 2 ^ 52 - 1) * 2 ^ 52 + m % 2 ^ 52 = omega arith in
    let power : 0 + (m / 2 ^ 52 - 1) ≡ m / 2 ^ 52 - 1 = omega arith in
    ap (worth double_format) parts
    ∙ worth-normal double_format (m / 2 ^ 52 - 1) (m % 2 ^ 52) (omega arith) fraction
    ∙ ap (λ i. (2 ^ 52 + m % 2 ^ 52) * 2 ^ i) power

-- the double 2 ^ e, counted in the least positive one
power-worth : (e : ℕ) → worth double_format (e * 2 ^ 52 + 2 ^ 52) ≡ 2 ^ 52 * 2 ^ (0 + e)
power-worth e = worth-scaled double_format e (2 ^ 52) (omega arith) (inr (omega arith)) (omega arith)

-- a double below half of the least positive float is rounded to 0
pub small-narrowed : (m : ℕ) → m / 2 ^ 52 < 873 → IsRounded float_format (worth double_format m) 0
small-narrowed m small =
    let less : m < 872 * 2 ^ 52 + 2 ^ 52 = omega arith in
    let below = worth-less double_format m (872 * 2 ^ 52 + 2 ^ 52) (omega arith) less in
    let bound = power-worth 872 in
    let none = worth-zero float_format in
    let one : worth float_format 1 ≡ 1 * 2 ^ 925 = worth-subnormal float_format 1 (omega arith) in
    let x : ℕ = worth double_format m in
    let nearest = nearest-below float_format x 0
    (omega arith) (omega arith) (omega arith) (omega arith) (inl (omega arith)) in
    rounded-finite float_format x 0 nearest (omega arith)

-- a double of 2 ^ 128 or more is rounded to the infinity
pub large-narrowed : (m : ℕ) → 1151 ≤ m / 2 ^ 52
    → IsRounded float_format (worth double_format m) (infinity float_format)
large-narrowed m large =
    let more : 1150 * 2 ^ 52 + 2 ^ 52 ≤ m = omega arith in
    let above = worth-le double_format (1150 * 2 ^ 52 + 2 ^ 52) m (omega arith) more in
    let bound = power-worth 1150 in
    let infinite : worth float_format (254 * 2 ^ 23 + 2 ^ 23) ≡ 2 ^ 23 * 2 ^ (925 + 254) =
    worth-scaled float_format 254 (2 ^ 23) (omega arith) (inr (omega arith)) (omega arith) in
    rounded-infinite float_format (worth double_format m) (omega arith) (omega arith) (omega arith)

-- a double's fraction with its leading 1 that loses 29 bits or more
pub fraction-below : (m k r : ℕ) → 29 ≤ k → IsRoundedOff (2 ^ 52 + bit_and m (2 ^ 52 - 1)) k r
    → ((2 ^ 52 + m % 2 ^ 52) / 2 ^ k < 2 ^ 24) × (r ≤ 2 ^ 24)
fraction-below m k r bits off =
    let n : ℕ = 2 ^ 52 + m % 2 ^ 52 in
    let fraction = mod_below m (2 ^ 52) (omega arith) in
    let dropped : 2 ^ 29 ≤ 2 ^ k = pow-le-pow_right (omega arith) bits in
    let high : n / 2 ^ k < 2 ^ 24 = div_below n (2 ^ k) (2 ^ 24) (pow_pos k) (omega arith) in
    let at_most = rounded_off-le n k r (rw (and_mask m 52) at off) in
    (high, omega arith)

-- between them a double's fraction with its leading 1 loses k bits: 29 of them, and more where the
-- float is subnormal
pub normal-narrowed : (m k e r : ℕ) → 0 < m / 2 ^ 52 → m / 2 ^ 52 < 1151 → k + m / 2 ^ 52 ≡ 926 + e
    → ((e ≡ 0) × (29 ≤ k)) ⊎ (k ≡ 29) → IsRoundedOff (2 ^ 52 + bit_and m (2 ^ 52 - 1)) k r
    → IsRounded float_format (worth double_format m) (e * 2 ^ 23 + r)
normal-narrowed m k e r some finite power lost off =
    let n : ℕ = 2 ^ 52 + m % 2 ^ 52 in
    let fraction = mod_below m (2 ^ 52) (omega arith) in
    let bits : 29 ≤ k = elim lost [ inl subnormal ↦ subnormal.1 | inr normal ↦ omega arith ] in
    let field : e ≤ 253 = elim lost [ inl subnormal ↦ omega (arith, subnormal.0) | inr normal ↦ omega arith ] in
    let bounds = fraction-below m k r bits off in
    let high : n / 2 ^ k < 2 ^ 24 = bounds.0 in
    let at_most : r ≤ 2 ^ 24 = bounds.1 in
    let low : (e ≡ 0) ⊎ (2 ^ 23 ≤ n / 2 ^ k) =
    elim lost [
      | inl subnormal ↦ inl subnormal.0
      | inr normal ↦ inr (le-div (2 ^ 23) n (2 ^ k) (pow_pos k) (rw normal (omega arith)))
    ] in
    let placed : IsPlaced float_format n k (m / 2 ^ 52 - 1) e = record {
      measured = omega arith;
      power = omega arith;
      low = low;
      high = high;
      even = refl;
      within = omega arith;
    } in
    let j : ℕ = m / 2 ^ 52 - 1 in
    let near = rounded_off-nearest float_format n k j e r placed (rw (and_mask m 52) at off) in
    rw (normal-worth m some) (rounded-finite float_format (n * 2 ^ j) (e * 2 ^ 23 + r) near (omega arith))
