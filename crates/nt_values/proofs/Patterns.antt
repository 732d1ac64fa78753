-- What patterns are worth: in order, and within one exponent evenly spaced.
use Rattle.std.proofs.Common.{◌≡◌, ◌≢◌, ℕ, zero, suc, ◌+◌, ◌-◌, ◌*◌, ◌/◌, ◌%◌, ◌^◌, ◌<◌, ◌≤◌, ◌⊎◌, inl, inr, refl, sym, ap, ◌∙◌, arith, eqb}
use Rattle.std.proofs.lemmas.Bool.{cases_lt, cases_eq, cond-false, cond-true, ne_eqb, eq-eqb}
use Rattle.std.proofs.lemmas.Nat.{pow_pos, pow-add, div-mul-add, mod-mul-add, div-add-mod', mod_below}
use Rattle.nt_values.specs.Bits.{Format, IsMeasured, worth}

-- where the leading 1 of a fraction stands
abbrev pub leading_one : Format → ℕ
leading_one f = 2 ^ f.fraction_bits

-- the power of two that the least positive pattern is worth
abbrev pub least : Format → ℕ
least f = 1075 - (f.bias + f.fraction_bits)

-- a pattern of exponent field 0
pub worth-subnormal : (f : Format) (r : ℕ) → r < leading_one f → worth f r ≡ r * 2 ^ least f
unfolding worth
worth-subnormal f r h =
    let at : 0 * leading_one f + r ≡ r = omega arith in
    let field : r / leading_one f ≡ 0 =
    ap (λ n. n / leading_one f) (sym at) ∙ div-mul-add 0 (leading_one f) r h in
    let fraction : r % leading_one f ≡ r =
    ap (λ n. n % leading_one f) (sym at) ∙ mod-mul-add 0 (leading_one f) r h in
    cond-true (eqb (r / leading_one f) 0) _ _ (eq-eqb _ 0 field) ∙ ap (λ n. n * 2 ^ least f) fraction

-- a pattern of another exponent field
pub worth-normal : (f : Format) (e r : ℕ) → IsMeasured f → r < leading_one f
    → worth f (suc e * leading_one f + r) ≡ (leading_one f + r) * 2 ^ (least f + e)
unfolding worth
worth-normal f e r measured h =
    let field = div-mul-add (suc e) (leading_one f) r h in
    let fraction = mod-mul-add (suc e) (leading_one f) r h in
    let power : 1074 + suc e - (f.bias + f.fraction_bits) ≡ least f + e = omega arith in
    let apart : suc e ≢ 0 = omega arith in
    rw (field, fraction) (
    cond-false (eqb (suc e) 0) _ _ (ne_eqb (suc e) 0 apart) ∙ ap (λ n. (leading_one f + r) * 2 ^ n) power)

-- The pattern of s * 2 ^ e, counted in the least positive one, is e * 2 ^ fraction_bits + s: the
-- leading 1 of s adds itself to the exponent field. So it is also where s is one past the greatest.
pub worth-scaled : (f : Format) (e s : ℕ) → IsMeasured f → (e ≡ 0) ⊎ (leading_one f ≤ s)
    → s ≤ leading_one f + leading_one f → worth f (e * leading_one f + s) ≡ s * 2 ^ (least f + e)
worth-scaled f e s measured low high =
    elim (cases_lt s (leading_one f)) [
      | inl below ↦
          let none : e ≡ 0 = elim low [ inl z ↦ z | inr above ↦ absurd (omega arith) ] in
          let place : e * leading_one f + s ≡ s = rw none (omega arith) in
          let power : least f ≡ least f + e = omega arith in
          ap (worth f) place ∙ worth-subnormal f s below ∙ ap (λ n. s * 2 ^ n) power
      | inr above ↦ elim (cases_lt s (leading_one f + leading_one f)) [
        | inl inside ↦
            let r : ℕ = s - leading_one f in
            let bound : r < leading_one f = omega arith in
            let place : suc e * leading_one f + r ≡ e * leading_one f + s = omega arith in
            let size : leading_one f + r ≡ s = omega arith in
            ap (worth f) (sym place) ∙ worth-normal f e r measured bound ∙ ap (λ n. n * 2 ^ (least f + e)) size
        | inr past ↦
            let some = pow_pos f.fraction_bits in
            let place : suc (suc e) * leading_one f + 0 ≡ e * leading_one f + s = omega arith in
            let power : 2 ^ (least f + suc e) ≡ 2 * 2 ^ (least f + e) =
            ap (λ n. 2 ^ n) (omega arith) ∙ pow-add 2 1 (least f + e) in
            let whole : leading_one f + leading_one f ≡ s = omega arith in
            let twice : (leading_one f + 0) * (2 * 2 ^ (least f + e))
            ≡ (leading_one f + leading_one f) * 2 ^ (least f + e) = omega arith in
            let size : (leading_one f + 0) * 2 ^ (least f + suc e) ≡ s * 2 ^ (least f + e) =
            rw power (twice ∙ ap (λ n. n * 2 ^ (least f + e)) whole) in
            ap (worth f) (sym place) ∙ worth-normal f (suc e) 0 measured some ∙ size
      ]
    ]

-- a pattern as `worth-scaled` takes it
pub record IsScaled (f : Format) (p : ℕ) : Type 0 where
  pub e : ℕ
  pub s : ℕ
  pub low : (e ≡ 0) ⊎ (leading_one f ≤ s)
  pub high : s < leading_one f + leading_one f
  pub is : p ≡ e * leading_one f + s

-- each pattern can be taken so
pub scaled : (f : Format) (p : ℕ) → IsScaled f p
scaled f p =
    let some = pow_pos f.fraction_bits in
    let rest = mod_below p (leading_one f) some in
    let parts = div-add-mod' p (leading_one f) in
    let shape = λ (q : ℕ) (is : p / leading_one f ≡ q).
    ap (λ n. n * leading_one f + p % leading_one f) (sym is) ∙ parts in
    elim (cases_eq (p / leading_one f) 0) [
      | inl none ↦ record {
        e = 0;
        s = p;
        low = inl refl;
        high = (let at = shape 0 none in omega arith);
        is = omega arith;
      }
      | inr some_field ↦
          let e : ℕ = p / leading_one f - 1 in
          let field : p / leading_one f ≡ suc e = omega arith in
          record {
            e = e;
            s = leading_one f + p % leading_one f;
            low = inr (omega arith);
            high = omega arith;
            is = (let at = shape (suc e) field in omega arith);
          }
    ]

-- the next pattern is worth more
pub worth-next : (f : Format) (p : ℕ) → IsMeasured f → worth f p < worth f (suc p)
worth-next f p measured =
    let d = scaled f p in
    let low = d.low in
    let high = d.high in
    let some = pow_pos (least f + d.e) in
    let next : suc p ≡ d.e * leading_one f + suc d.s = (let is = d.is in omega arith) in
    let next_low : (d.e ≡ 0) ⊎ (leading_one f ≤ suc d.s) =
    elim low [ inl none ↦ inl none | inr above ↦ inr (omega arith) ] in
    let here : worth f p ≡ d.s * 2 ^ (least f + d.e) =
    ap (worth f) d.is ∙ worth-scaled f d.e d.s measured low (omega arith) in
    let there : worth f (suc p) ≡ suc d.s * 2 ^ (least f + d.e) =
    ap (worth f) next ∙ worth-scaled f d.e (suc d.s) measured next_low (omega arith) in
    rw (here, there) (omega arith)

-- a greater pattern is worth more
pub worth-less : (f : Format) (p q : ℕ) → IsMeasured f → p < q → worth f p < worth f q
worth-less f p zero measured h = absurd (omega arith)
worth-less f p (suc q) measured h =
    let step = worth-next f q measured in
    elim (cases_lt p q) [
      | inl less ↦ (let so_far = worth-less f p q measured less in omega arith)
      | inr same ↦ (let is : p ≡ q = omega arith in rw is step)
    ]

-- and so one that isn't less is worth no less
pub worth-le : (f : Format) (p q : ℕ) → IsMeasured f → p ≤ q → worth f p ≤ worth f q
worth-le f p q measured h =
    elim (cases_lt p q) [
      | inl less ↦ (let more = worth-less f p q measured less in omega arith)
      | inr same ↦ (let is : p ≡ q = omega arith in rw is (omega arith))
    ]

-- the pattern 0 is worth nothing
pub worth-zero : (f : Format) → worth f 0 ≡ 0
worth-zero f = worth-subnormal f 0 (pow_pos f.fraction_bits) ∙ omega arith
