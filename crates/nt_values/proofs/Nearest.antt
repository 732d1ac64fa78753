-- The pattern nearest to a number: one of the two that the number lies between, and the only one.
use Rattle.std.proofs.Common.{◌≡◌, ◌≢◌, ℕ, zero, suc, ◌+◌, ◌-◌, ◌*◌, ◌%◌, ◌<◌, ◌≤◌, ◌⊎◌, inl, inr, refl, sym, ap, ◌∙◌, subst, arith, min}
use Rattle.std.proofs.lemmas.Bool.{cases_lt, cases_eq, cases_order}
use Rattle.std.proofs.lemmas.Nat.{pow_pos}
use Rattle.std.specs.Int.{abs_diff}
use Rattle.nt_values.specs.Bits.{Format, IsMeasured, worth, magnitudes, infinity, IsNearest, IsRounded}
use Rattle.nt_values.proofs.Patterns.{worth-next, worth-less, worth-le, worth-zero}

-- the lower of two neighbours, where the number is nearer to it, or is in the middle and the lower is even
pub nearest-below : (f : Format) (x p : ℕ) → IsMeasured f → suc p < magnitudes f
    → worth f p ≤ x → x ≤ worth f (suc p)
    → (2 * x < worth f p + worth f (suc p)) ⊎ ((2 * x ≡ worth f p + worth f (suc p)) × (p % 2 ≡ 0))
    → IsNearest f x p
nearest-below f x p measured in_format low high nearer = record {
  within = omega arith;
  none_nearer = λ q _. elim (cases_lt p q) [
    | inl above ↦
        let far = worth-le f (suc p) q measured above in
        elim nearer [ inl strict ↦ omega arith | inr tie ↦ omega arith ]
    | inr below ↦ (let far = worth-le f q p measured below in omega arith)
  ];
  even_in_tie = λ q _ other same. elim nearer [
    | inr tie ↦ tie.1
    | inl strict ↦ elim (cases_lt p q) [
      | inl above ↦ (let far = worth-le f (suc p) q measured above in absurd (omega arith))
      | inr below ↦
          let less : q < p = omega arith in
          let far = worth-less f q p measured less in
          absurd (omega arith)
    ]
  ];
}

-- the upper of two neighbours likewise
pub nearest-above : (f : Format) (x p : ℕ) → IsMeasured f → suc p < magnitudes f
    → worth f p ≤ x → x ≤ worth f (suc p)
    → (worth f p + worth f (suc p) < 2 * x) ⊎ ((2 * x ≡ worth f p + worth f (suc p)) × (suc p % 2 ≡ 0))
    → IsNearest f x (suc p)
nearest-above f x p measured in_format low high nearer = record {
  within = in_format;
  none_nearer = λ q _. elim (cases_lt p q) [
    | inl above ↦ (let far = worth-le f (suc p) q measured above in omega arith)
    | inr below ↦
        let far = worth-le f q p measured below in
        elim nearer [ inl strict ↦ omega arith | inr tie ↦ omega arith ]
  ];
  even_in_tie = λ q _ other same. elim nearer [
    | inr tie ↦ tie.1
    | inl strict ↦ elim (cases_lt p q) [
      | inl above ↦
          let less : suc p < q = omega arith in
          let far = worth-less f (suc p) q measured less in
          absurd (omega arith)
      | inr below ↦ (let far = worth-le f q p measured below in absurd (omega arith))
    ]
  ];
}

-- ---- exactly one pattern is nearest

-- of two nearest patterns neither is less: they would be in a tie and both even, and a nearer one
-- would stand between them
one-way : (f : Format) (x p q : ℕ) → IsMeasured f → IsNearest f x p → IsNearest f x q → ¬ (p < q)
one-way f x p q measured a b less =
    let there = a.none_nearer q b.within in
    let back = b.none_nearer p a.within in
    let more = worth-less f p q measured less in
    let tie : abs_diff x (worth f q) ≡ abs_diff x (worth f p) = omega arith in
    let apart : q ≢ p = omega arith in
    let also : p ≢ q = omega arith in
    let even = a.even_in_tie q b.within apart tie in
    let even_too = b.even_in_tie p a.within also (sym tie) in
    let within = b.within in
    let between : suc p < q = omega arith in
    let in_format : suc p < magnitudes f = omega arith in
    let nearer = a.none_nearer (suc p) in_format in
    let low = worth-next f p measured in
    let high = worth-less f (suc p) q measured between in
    omega arith

-- at most one is
pub nearest-one : (f : Format) (x p q : ℕ) → IsMeasured f → IsNearest f x p → IsNearest f x q → p ≡ q
nearest-one f x p q measured a b =
    elim (cases_order p q) [
      | inl same ↦ same
      | inr other ↦ elim other [
        | inl less ↦ absurd (one-way f x p q measured a b less)
        | inr more ↦ absurd (one-way f x q p measured b a more)
      ]
    ]

-- and so a number is rounded to at most one pattern
pub rounded-one : (f : Format) (x m n : ℕ) → IsMeasured f → IsRounded f x m → IsRounded f x n → m ≡ n
rounded-one f x m n measured a b =
    let same = nearest-one f x a.pattern b.pattern measured a.nearest b.nearest in
    a.is ∙ ap (λ p. min p (infinity f)) same ∙ sym b.is

-- a number lies between two neighbours below n, or past all of them
record IsBetween (f : Format) (x n : ℕ) : Type 0 where
  p : ℕ
  within : p < n
  low : worth f p ≤ x
  high : x < worth f (suc p)

between : (f : Format) (x n : ℕ) → IsBetween f x n ⊎ (worth f n ≤ x)
between f x zero = inr (let none = worth-zero f in omega arith)
between f x (suc n) =
    elim (between f x n) [
      | inl found ↦
          let within = found.within in
          inl (record { p = found.p; within = omega arith; low = found.low; high = found.high })
      | inr past ↦ elim (cases_lt x (worth f (suc n))) [
        | inl below ↦ inl (record { p = n; within = omega arith; low = past; high = below })
        | inr above ↦ inr above
      ]
    ]

-- at least one is
pub nearest-some : (f : Format) (x : ℕ) → IsMeasured f → (p : ℕ) × IsNearest f x p
nearest-some f x measured =
    let some = pow_pos (f.exponent_bits + f.fraction_bits) in
    let top : ℕ = magnitudes f - 1 in
    elim (between f x top) [
      | inr past ↦ (
        top,
        record {
          within = omega arith;
          none_nearer = λ q within. (let far = worth-le f q top measured (omega arith) in omega arith);
          even_in_tie = λ q within other same.
              let less : q < top = omega arith in
              let far = worth-less f q top measured less in
              absurd (omega arith);
        },
      )
      | inl found ↦
          let within = found.within in
          let in_format : suc found.p < magnitudes f = omega arith in
          let low = found.low in
          let high : x ≤ worth f (suc found.p) = (let below = found.high in omega arith) in
          elim (cases_order (2 * x) (worth f found.p + worth f (suc found.p))) [
            | inl tie ↦ elim (cases_eq (found.p % 2) 0) [
              | inl even ↦ (found.p, nearest-below f x found.p measured in_format low high (inr (tie, even)))
              | inr odd ↦
                  let even : suc found.p % 2 ≡ 0 = omega arith in
                  (suc found.p, nearest-above f x found.p measured in_format low high (inr (tie, even)))
            ]
            | inr other ↦ elim other [
              | inl less ↦ (found.p, nearest-below f x found.p measured in_format low high (inl less))
              | inr more ↦ (suc found.p, nearest-above f x found.p measured in_format low high (inl more))
            ]
          ]
    ]

-- and so each number is rounded to one pattern
pub rounded-some : (f : Format) (x : ℕ) → IsMeasured f → (m : ℕ) × IsRounded f x m
rounded-some f x measured =
    let found = nearest-some f x measured in
    (min found.0 (infinity f), record { pattern = found.0; nearest = found.1; is = refl })

-- what is worth no less than the infinity's pattern is rounded to the infinity
pub rounded-infinite : (f : Format) (x : ℕ) → IsMeasured f → infinity f < magnitudes f
    → worth f (infinity f) ≤ x → IsRounded f x (infinity f)
rounded-infinite f x measured in_format past =
    let found = nearest-some f x measured in
    let nearest = found.1 in
    let nearer = nearest.none_nearer (infinity f) in_format in
    elim (cases_lt found.0 (infinity f)) [
      | inl less ↦ (let more = worth-less f found.0 (infinity f) measured less in absurd (omega arith))
      | inr above ↦ record { pattern = found.0; nearest = nearest; is = omega arith }
    ]

-- a finite pattern that is nearest is what the number is rounded to
pub rounded-finite : (f : Format) (x p : ℕ) → IsNearest f x p → p ≤ infinity f → IsRounded f x p
rounded-finite f x p nearest finite = record { pattern = p; nearest = nearest; is = omega arith }

-- 0 is rounded to 0
pub rounded-zero : (f : Format) (m : ℕ) → IsMeasured f → IsRounded f 0 m → m ≡ 0
rounded-zero f m measured r =
    let nearest = r.nearest in
    let in_format = pow_pos (f.exponent_bits + f.fraction_bits) in
    let nearer = nearest.none_nearer 0 in_format in
    let none = worth-zero f in
    let is = r.is in
    elim (cases_lt 0 r.pattern) [
      | inl some ↦ (let more = worth-less f 0 r.pattern measured some in absurd (omega arith))
      | inr below ↦ omega arith
    ]

-- and 0 is what 0 is rounded to
pub zero-rounded : (f : Format) → IsMeasured f → IsRounded f 0 0
zero-rounded f measured =
    let found = rounded-some f 0 measured in
    let P : ℕ → Type 0 = λ m. IsRounded f 0 m in
    subst P (rounded-zero f found.0 measured found.1) found.1
