-- Each conversion has one answer for one input.
use Rattle.std.proofs.Common.{◌≡◌, ℕ, ◌+◌, ◌*◌, inl, inr, refl, sym, ap, ◌∙◌, subst, arith, ℤ, pos, negsuc, ltb}
use Rattle.std.specs.Prelude.{if◌then◌else◌, int_lt, unsigned_abs}
use Rattle.std.proofs.lemmas.Bool.{cases_order, cond-false, le-ltb}
use Rattle.std.proofs.lemmas.Nat.{div-add-mod'}
use Rattle.nt_values.specs.Bits.{Format, IsMeasured, float_format, double_format, sign_of, magnitude_of, magnitudes, infinity, worth, worth_of_whole, sign_of_int, IsRounded, IsNearestToInt, IsDoubleOfFloat, IsFloatOfDouble}
use Rattle.nt_values.proofs.Patterns.{worth-less}
use Rattle.nt_values.proofs.Nearest.{rounded-one, rounded-zero}

-- a pattern is its sign and its magnitude
pattern-one : (f : Format) (a b : ℕ) → sign_of f a ≡ sign_of f b → magnitude_of f a ≡ magnitude_of f b → a ≡ b
pattern-one f a b sign magnitude =
    sym (div-add-mod' a (magnitudes f)) ∙ ap (λ s. s * magnitudes f + magnitude_of f a) sign
    ∙ ap (λ m. sign_of f b * magnitudes f + m) magnitude ∙ div-add-mod' b (magnitudes f)

-- the code's sign is that of the number
sign-is : (n : ℤ) → (if int_lt n (pos 0) then 1 else 0) ≡ sign_of_int n
sign-is (pos n) = cond-false (ltb n 0) 1 0 (le-ltb n 0 (omega arith))
sign-is (negsuc n) = refl

-- what the code makes of a whole number z, which is n: its sign, and the magnitude nearest to its
-- absolute value
pub nearest-to_int : (f : Format) (n z : ℤ) (whole m bits : ℕ) → IsMeasured f → z ≡ n → whole ≡ unsigned_abs z
    → IsRounded f (worth_of_whole whole) m → sign_of f bits ≡ (if int_lt z (pos 0) then 1 else 0)
    → magnitude_of f bits ≡ m → IsNearestToInt f n bits
unfolding worth_of_whole
nearest-to_int f n z whole m bits measured same value rounded sign magnitude =
    let AtNumber : ℕ → Type 0 = λ w. IsRounded f (worth_of_whole w) (magnitude_of f bits) in
    let AtMagnitude : ℕ → Type 0 = λ k. IsRounded f (worth_of_whole whole) k in
    let AtWorth : ℕ → Type 0 = λ x. IsRounded f x (magnitude_of f bits) in
    let nearest = subst AtNumber (value ∙ ap unsigned_abs same) (subst AtMagnitude (sym magnitude) rounded) in
    let sign_n : sign_of f bits ≡ sign_of_int n =
    sign ∙ ap (λ i. if int_lt i (pos 0) then 1 else 0) same ∙ sign-is n in
    record {
      sign = sign_n;
      nearest = nearest;
      zero = λ none.
          let worth_none : worth_of_whole (unsigned_abs n) ≡ 0 = ap (λ i. worth_of_whole (unsigned_abs i)) none in
          let size = rounded-zero f (magnitude_of f bits) measured (subst AtWorth worth_none nearest) in
          let plus : sign_of f bits ≡ 0 = sign_n ∙ ap sign_of_int none in
          sym (div-add-mod' bits (magnitudes f))
          ∙ ap (λ s. s * magnitudes f + magnitude_of f bits) plus ∙ omega (arith, size);
    }

-- the pattern nearest to a whole number
pub nearest_to_int-one : (f : Format) (n : ℤ) (a b : ℕ) → IsMeasured f
    → IsNearestToInt f n a → IsNearestToInt f n b → a ≡ b
nearest_to_int-one f n a b measured p q =
    let x : ℕ = worth_of_whole (unsigned_abs n) in
    pattern-one f a b (p.sign ∙ sym q.sign)
    (rounded-one f x (magnitude_of f a) (magnitude_of f b) measured p.nearest q.nearest)

-- patterns that are worth the same are the same
worth-one : (f : Format) (p q : ℕ) → IsMeasured f → worth f p ≡ worth f q → p ≡ q
worth-one f p q measured same =
    elim (cases_order p q) [
      | inl is ↦ is
      | inr other ↦ elim other [
        | inl less ↦ (let far = worth-less f p q measured less in absurd (omega arith))
        | inr more ↦ (let far = worth-less f q p measured more in absurd (omega arith))
      ]
    ]

-- the double of the same value as a float
pub double_of_float-one : (float a b : ℕ) → IsDoubleOfFloat float a → IsDoubleOfFloat float b → a ≡ b
double_of_float-one float a b p q =
    pattern-one double_format a b (p.sign ∙ sym q.sign) (
    elim (cases_order (magnitude_of float_format float) (infinity float_format)) [
      | inl infinite ↦ p.infinite infinite ∙ sym (q.infinite infinite)
      | inr other ↦ elim other [
        | inl finite ↦ worth-one double_format (magnitude_of double_format a) (magnitude_of double_format b)
            (omega arith) (p.value finite ∙ sym (q.value finite))
        | inr nan ↦
            let here = p.nan nan in
            let there = q.nan nan in
            let same = p.nan_fraction nan ∙ sym (q.nan_fraction nan) in
            omega arith
      ]
    ])

-- the float that is nearest to a double
pub float_of_double-one : (double a b : ℕ) → IsFloatOfDouble double a → IsFloatOfDouble double b → a ≡ b
float_of_double-one double a b p q =
    pattern-one float_format a b (p.sign ∙ sym q.sign) (
    elim (cases_order (magnitude_of double_format double) (infinity double_format)) [
      | inl infinite ↦ p.infinite infinite ∙ sym (q.infinite infinite)
      | inr other ↦ elim other [
        | inl finite ↦ rounded-one float_format (worth double_format (magnitude_of double_format double))
            (magnitude_of float_format a) (magnitude_of float_format b) (omega arith)
            (p.nearest finite) (q.nearest finite)
        | inr nan ↦
            let here = p.nan nan in
            let there = q.nan nan in
            let same = p.nan_fraction nan ∙ sym (q.nan_fraction nan) in
            omega arith
      ]
    ])
