-- Each number is converted to some pattern.
use Rattle.std.proofs.Common.{◌≡◌, ℕ, ◌+◌, ◌-◌, ◌*◌, ◌/◌, ◌%◌, ◌^◌, ◌<◌, ◌≤◌, min, ℤ, pos, inl, inr, refl, sym, ap, ◌∙◌, subst, arith}
use Rattle.std.specs.Prelude.{unsigned_abs, bit_or}
use Rattle.std.specs.Int.{w64, leading_zeros}
use Rattle.std.proofs.lemmas.Bool.{cases_lt, cases_order, cases_eq}
use Rattle.std.proofs.lemmas.Nat.{or_lt, le_or_r}
use Rattle.nt_values.specs.Bits.{Format, float_format, double_format, worth, worth_of_whole, sign_of_int, IsRounded, IsNearestToInt, IsDoubleOfFloat, IsFloatOfDouble}
use Rattle.nt_values.proofs.Patterns.{worth-zero}
use Rattle.nt_values.proofs.Nearest.{rounded-some, rounded-zero}
use Rattle.nt_values.proofs.Formats.{normal-widened, zeros-bounds, fraction-leading, subnormal-widened}

-- ---- from whole numbers

none-rounded : (f : Format) (n : ℤ) (m : ℕ) → f.bias + f.fraction_bits ≤ 1075
    → IsRounded f (worth_of_whole (unsigned_abs n)) m → n ≡ pos 0 → m ≡ 0
unfolding worth_of_whole
none-rounded f n m measured r none =
    rounded-zero f m measured (subst (λ (i : ℤ). IsRounded f (worth_of_whole (unsigned_abs i)) m) none r)

none-sign : (n : ℤ) → n ≡ pos 0 → sign_of_int n ≡ 0
none-sign n none = ap sign_of_int none

pub double_of_int-some : (n : ℤ) → (bits : ℕ) × IsNearestToInt double_format n bits
double_of_int-some n =
    let r = rounded-some double_format (worth_of_whole (unsigned_abs n)) (omega arith) in
    let m : ℕ = r.0 in
    let s : ℕ = sign_of_int n in
    let is : m ≡ min r.1.pattern (2047 * 2 ^ 52) = r.1.is in
    let magnitude : (s * 2 ^ 63 + m) % 2 ^ 63 ≡ m = omega arith in
    let sign : (s * 2 ^ 63 + m) / 2 ^ 63 ≡ s = omega arith in (
      s * 2 ^ 63 + m,
      record {
        sign = sign;
        nearest = subst (λ (k : ℕ). IsRounded double_format (worth_of_whole (unsigned_abs n)) k) (sym magnitude) r.1;
        zero = λ none. (let no_sign = none-sign n none in
            let nothing = none-rounded double_format n m (omega arith) r.1 none in omega arith);
      },
    )

pub float_of_int-some : (n : ℤ) → (bits : ℕ) × IsNearestToInt float_format n bits
float_of_int-some n =
    let r = rounded-some float_format (worth_of_whole (unsigned_abs n)) (omega arith) in
    let m : ℕ = r.0 in
    let s : ℕ = sign_of_int n in
    let is : m ≡ min r.1.pattern (255 * 2 ^ 23) = r.1.is in
    let magnitude : (s * 2 ^ 31 + m) % 2 ^ 31 ≡ m = omega arith in
    let sign : (s * 2 ^ 31 + m) / 2 ^ 31 ≡ s = omega arith in (
      s * 2 ^ 31 + m,
      record {
        sign = sign;
        nearest = subst (λ (k : ℕ). IsRounded float_format (worth_of_whole (unsigned_abs n)) k) (sym magnitude) r.1;
        zero = λ none. (let no_sign = none-sign n none in
            let nothing = none-rounded float_format n m (omega arith) r.1 none in omega arith);
      },
    )

-- ---- from floats

-- the double of the same value as a finite float, without signs
widened-some : (m : ℕ) → m < 255 * 2 ^ 23
    → (d : ℕ) × (d < 2047 * 2 ^ 52) × (worth double_format d ≡ worth float_format m) × (m ≡ 0 → d ≡ 0)
widened-some m finite =
    elim (cases_eq m 0) [
      | inl none ↦ (
        0,
        omega arith,
        worth-zero double_format
            ∙ sym (ap (worth float_format) none ∙ worth-zero float_format),
        λ _. refl,
      )
      | inr other ↦ elim (cases_lt m (2 ^ 23)) [
        | inl below ↦
            let some : 0 < m = omega arith in
            let zeros = zeros-bounds m some below in
            let low = zeros.0 in
            let leading = fraction-leading m some below in
            let high = leading.high in (
              (936 - leading_zeros w64 m) * 2 ^ 52 + m * 2 ^ (leading_zeros w64 m - 11),
              omega arith,
              subnormal-widened m some below,
              λ none. absurd (omega arith),
            )
        | inr normal ↦ (m * 2 ^ 29 + 896 * 2 ^ 52, omega arith, normal-widened m normal, λ none. absurd (omega arith))
      ]
    ]

pub double_of_float-some : (float : ℕ) → (double : ℕ) × IsDoubleOfFloat float double
double_of_float-some float =
    let m : ℕ = float % 2 ^ 31 in
    let s : ℕ = float / 2 ^ 31 in
    elim (cases_order m (255 * 2 ^ 23)) [
      | inl infinite ↦
          let is : float % 2 ^ 31 ≡ 255 * 2 ^ 23 = infinite in (
            s * 2 ^ 63 + 2047 * 2 ^ 52,
            record {
              sign = omega arith;
              zero = λ none. absurd (omega arith);
              finite = λ less. absurd (omega arith);
              value = λ less. absurd (omega arith);
              infinite = λ _. omega arith;
              nan = λ more. absurd (omega arith);
              nan_fraction = λ more. absurd (omega arith);
            },
          )
      | inr other ↦ elim other [
        | inl less ↦
            let below : float % 2 ^ 31 < 255 * 2 ^ 23 = less in
            let w = widened-some m less in
            let d : ℕ = w.0 in
            let within : d < 2047 * 2 ^ 52 = w.1 in
            let magnitude : (s * 2 ^ 63 + d) % 2 ^ 63 ≡ d = omega arith in (
              s * 2 ^ 63 + d,
              record {
                sign = omega arith;
                zero = λ none. magnitude ∙ w.3 none;
                finite = λ _. omega arith;
                value = λ _. ap (worth double_format) magnitude ∙ w.2;
                infinite = λ equal. absurd (omega arith);
                nan = λ more. absurd (omega arith);
                nan_fraction = λ more. absurd (omega arith);
              },
            )
        | inr more ↦
            let above : 255 * 2 ^ 23 < float % 2 ^ 31 = more in (
              s * 2 ^ 63 + (2047 * 2 ^ 52 + float % 2 ^ 23 * 2 ^ 29),
              record {
                sign = omega arith;
                zero = λ none. absurd (omega arith);
                finite = λ less. absurd (omega arith);
                value = λ less. absurd (omega arith);
                infinite = λ equal. absurd (omega arith);
                nan = λ _. omega arith;
                nan_fraction = λ _. omega arith;
              },
            )
      ]
    ]

-- ---- from doubles

pub float_of_double-some : (double : ℕ) → (float : ℕ) × IsFloatOfDouble double float
float_of_double-some double =
    let m : ℕ = double % 2 ^ 63 in
    let s : ℕ = double / 2 ^ 63 in
    elim (cases_order m (2047 * 2 ^ 52)) [
      | inl infinite ↦
          let is : double % 2 ^ 63 ≡ 2047 * 2 ^ 52 = infinite in (
            s * 2 ^ 31 + 255 * 2 ^ 23,
            record {
              sign = omega arith;
              zero = λ none. absurd (omega arith);
              nearest = λ less. absurd (omega arith);
              infinite = λ _. omega arith;
              nan = λ more. absurd (omega arith);
              nan_fraction = λ more. absurd (omega arith);
            },
          )
      | inr other ↦ elim other [
        | inl less ↦
            let below : double % 2 ^ 63 < 2047 * 2 ^ 52 = less in
            let r = rounded-some float_format (worth double_format m) (omega arith) in
            let f : ℕ = r.0 in
            let is : f ≡ min r.1.pattern (255 * 2 ^ 23) = r.1.is in
            let magnitude : (s * 2 ^ 31 + f) % 2 ^ 31 ≡ f = omega arith in (
              s * 2 ^ 31 + f,
              record {
                sign = omega arith;
                zero = λ none. magnitude ∙ rounded-zero float_format f (omega arith)
                    (subst (λ (x : ℕ). IsRounded float_format x f)
                    (ap (worth double_format) none ∙ worth-zero double_format) r.1);
                nearest = λ _. subst (λ (k : ℕ). IsRounded float_format (worth double_format m) k) (sym magnitude) r.1;
                infinite = λ equal. absurd (omega arith);
                nan = λ more. absurd (omega arith);
                nan_fraction = λ more. absurd (omega arith);
              },
            )
        | inr more ↦
            let above : 2047 * 2 ^ 52 < double % 2 ^ 63 = more in
            let high : double % 2 ^ 52 / 2 ^ 29 < 2 ^ 23 = omega arith in
            let q : ℕ = bit_or (double % 2 ^ 52 / 2 ^ 29) (2 ^ 22) in
            let below : q < 2 ^ 23 = or_lt 23 (double % 2 ^ 52 / 2 ^ 29) (2 ^ 22) high (omega arith) in
            let some : 2 ^ 22 ≤ q = le_or_r (double % 2 ^ 52 / 2 ^ 29) (2 ^ 22) in (
              s * 2 ^ 31 + (255 * 2 ^ 23 + q),
              record {
                sign = omega arith;
                zero = λ none. absurd (omega arith);
                nearest = λ less. absurd (omega arith);
                infinite = λ equal. absurd (omega arith);
                nan = λ _. omega arith;
                nan_fraction = λ _. omega arith;
              },
            )
      ]
    ]
