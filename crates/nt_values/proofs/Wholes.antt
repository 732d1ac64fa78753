-- A whole number of 64 bits, moved up until its top bit is set and rounded off to a fraction's bits.
use Rattle.std.proofs.Common.{◌≡◌, ℕ, suc, ◌+◌, ◌-◌, ◌*◌, ◌/◌, ◌%◌, ◌^◌, ◌<◌, ◌≤◌, inr, refl, sym, ap, ◌∙◌, arith}
use Rattle.std.proofs.lemmas.Nat.{pow_pos, pow-add, leading_top, leading_le, le-div, div_below}
use Rattle.std.proofs.Math.Nat.{mul-lt-mul_of_pos_right, mul-le-mul_right, mul_assoc}
use Rattle.std.specs.Int.{w64, leading_zeros}
use Rattle.nt_values.specs.Bits.{Format, IsMeasured, float_format, double_format, magnitudes, infinity, worth_of_whole, IsRounded, IsRoundedOff}
use Rattle.nt_values.proofs.Patterns.{leading_one, least}
use Rattle.nt_values.proofs.Nearest.{rounded-finite, zero-rounded}
use Rattle.nt_values.proofs.RoundedOff.{IsPlaced, rounded_off-nearest, rounded_off-le}

-- a number whose top bit is set
pub record IsTop (n : ℕ) : Type 0 where
  pub low : 2 ^ 63 ≤ n
  pub high : n < 2 ^ 64

-- moved up so, the top bit is set
pub moved-top : (n : ℕ) → 0 < n → n < 2 ^ 64 → IsTop (n * 2 ^ leading_zeros w64 n)
moved-top n some fits =
    let z : ℕ = leading_zeros w64 n in
    let t = leading_top 64 n some fits in
    let power : z + suc t.0 ≡ 64 = t.1 in
    let up = pow_pos z in
    let top_bit : t.0 + z ≡ 63 = omega arith in
    let bits : suc t.0 + z ≡ 64 = omega arith in
    let half : 2 ^ t.0 * 2 ^ z ≡ 2 ^ 63 = sym (pow-add 2 t.0 z) ∙ ap (λ i. 2 ^ i) top_bit in
    let whole : 2 ^ suc t.0 * 2 ^ z ≡ 2 ^ 64 = sym (pow-add 2 (suc t.0) z) ∙ ap (λ i. 2 ^ i) bits in
    let above : n * 2 ^ z < 2 ^ suc t.0 * 2 ^ z = mul-lt-mul_of_pos_right t.3 up in
    let below : 2 ^ t.0 * 2 ^ z ≤ n * 2 ^ z = mul-le-mul_right (2 ^ z) t.2 in
    record { low = omega arith; high = omega arith }

-- a power of two that isn't 1 is even
even_power : (k : ℕ) → 0 < k → 2 ^ k % 2 ≡ 0
even_power k some =
    let bits : 1 + (k - 1) ≡ k = omega arith in
    let twice : 2 ^ k ≡ 2 * 2 ^ (k - 1) = ap (λ i. 2 ^ i) (sym bits) ∙ pow-add 2 1 (k - 1) in
    omega arith

-- Where a fraction has 63 - k bits, a whole number n whose top bit was moved up and that was rounded
-- off by k bits gives the pattern nearest to n * 2 ^ unit, at the power e that makes up for both.
pub moved-nearest : (f : Format) (n k unit e r : ℕ) → IsMeasured f
    → f.fraction_bits + k ≡ 63 → 0 < f.fraction_bits → 0 < n → n < 2 ^ 64 → k + unit ≡ least f + e + leading_zeros w64 n
    → e * leading_one f + (leading_one f + leading_one f) ≤ infinity f → infinity f < magnitudes f
    → 64 ≤ unit → IsRoundedOff (n * 2 ^ leading_zeros w64 n) k r
    → IsRounded f (n * 2 ^ unit) (e * leading_one f + r)
moved-nearest f n k unit e r measured bits some_bits some fits power finite in_format past off =
    let top = moved-top n some fits in
    let low = top.low in
    let high = top.high in
    let moved : ℕ = n * 2 ^ leading_zeros w64 n in
    let zeros = leading_le 64 n in
    let j : ℕ = unit - leading_zeros w64 n in
    let rest : leading_zeros w64 n + j ≡ unit = omega arith in
    let all : leading_one f * 2 ^ k ≡ 2 ^ 63 = sym (pow-add 2 f.fraction_bits k) ∙ ap (λ i. 2 ^ i) bits in
    let leading : leading_one f ≤ moved / 2 ^ k =
    le-div (leading_one f) moved (2 ^ k) (pow_pos k) (omega arith) in
    let fraction : moved / 2 ^ k < leading_one f + leading_one f =
    div_below moved (2 ^ k) (leading_one f + leading_one f) (pow_pos k) (omega arith) in
    let placed : IsPlaced f moved k j e = record {
      measured = measured;
      power = omega arith;
      low = inr leading;
      high = fraction;
      even = even_power f.fraction_bits some_bits;
      within = omega arith;
    } in
    let powers : 2 ^ leading_zeros w64 n * 2 ^ j ≡ 2 ^ unit =
    sym (pow-add 2 (leading_zeros w64 n) j) ∙ ap (λ i. 2 ^ i) rest in
    let worth_is : moved * 2 ^ j ≡ n * 2 ^ unit =
    mul_assoc n (2 ^ leading_zeros w64 n) (2 ^ j) ∙ ap (λ m. n * m) powers in
    let near = rounded_off-nearest f moved k j e r placed off in
    let at_most = rounded_off-le moved k r off in
    rw (← worth_is) (rounded-finite f (moved * 2 ^ j) (e * leading_one f + r) near (omega arith))

-- 0 is worth nothing, and gives the pattern 0
pub zero-nearest : (f : Format) → IsMeasured f → IsRounded f (worth_of_whole 0) 0
unfolding worth_of_whole
zero-nearest f measured = zero-rounded f measured

-- the double nearest to a whole number
pub double-nearest : (n r : ℕ) → 0 < n → n < 2 ^ 64 → IsRoundedOff (n * 2 ^ leading_zeros w64 n) 11 r
    → IsRounded double_format (worth_of_whole n) ((1085 - leading_zeros w64 n) * 2 ^ 52 + r)
unfolding worth_of_whole
double-nearest n r some fits off =
    let zeros = leading_le 64 n in
    moved-nearest double_format n 11 1074 (1085 - leading_zeros w64 n) r
    (omega arith) refl (omega arith) some fits (omega arith) (omega arith) (omega arith) (omega arith) off

-- the float nearest to a whole number
pub float-nearest : (n r : ℕ) → 0 < n → n < 2 ^ 64 → IsRoundedOff (n * 2 ^ leading_zeros w64 n) 40 r
    → IsRounded float_format (worth_of_whole n) ((189 - leading_zeros w64 n) * 2 ^ 23 + r)
unfolding worth_of_whole
float-nearest n r some fits off =
    let zeros = leading_le 64 n in
    moved-nearest float_format n 40 1074 (189 - leading_zeros w64 n) r
    (omega arith) refl (omega arith) some fits (omega arith) (omega arith) (omega arith) (omega arith) off
