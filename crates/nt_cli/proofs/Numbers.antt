-- The numbers that words write.
use Rattle.std.proofs.Common.{◌≡◌, ◌≢◌, ℕ, ◌^◌, ◌<◌, ltb, true, List, [], ◌∷◌, length, get_or, Option, None, Some, Result, Ok, Err, refl, sym, ap, ◌∙◌}
use Rattle.std.specs.Result.{result_ok}
use Rattle.std.specs.Str.{all_ascii_digits}
use Rattle.std.specs.Str.Parse.{digits_value, ParsesUnsigned}
use Rattle.std.proofs.lemmas.Bool.{cond_both, ltb-true, lt-ltb}
use Rattle.std.proofs.lemmas.Str.Parse.{IsNumeralModel, numerals_by_value, tells_all_ascii_digits, parse_plain}
use Rattle.nt_cli.specs.Words.{number}

own : IsNumeralModel (λ ds. all_ascii_digits ds ≡ true) (digits_value 10)
own = numerals_by_value _ tells_all_ascii_digits

-- one digit or more, and the number within its range
number-some : (word : List ℕ) → all_ascii_digits word ≡ true → 0 < length word → digits_value 10 word < 2 ^ 64
    → number word ≡ Some (digits_value 10 word)
number-some word digits some below = rw (
  digits,
  lt-ltb 0 (length word) some,
  lt-ltb (digits_value 10 word) (2 ^ 64) below,
) refl

-- anything else
number-none : (word : List ℕ)
    → ((all_ascii_digits word ≡ true) × (0 < length word) × (digits_value 10 word < 2 ^ 64) → ⊥)
    → number word ≡ None
number-none word not = cond_both (all_ascii_digits word) _ _ (λ (r : Option ℕ). r ≡ None) (λ digits.
    cond_both (ltb 0 (length word)) _ _ (λ (r : Option ℕ). r ≡ None) (λ some.
    cond_both (ltb (digits_value 10 word) (2 ^ 64)) _ _ (λ (r : Option ℕ). r ≡ None) (λ below.
    absurd (not (digits, ltb-true 0 (length word) some, ltb-true (digits_value 10 word) (2 ^ 64) below)))
    (λ _. refl)) (λ _. refl)) (λ _. refl)

-- what is parsed of a word without a sign
pub number-parsed : {E : Type 0} (word : List ℕ) (r : Result ℕ E) → ParsesUnsigned 64 10 word r
    → get_or word 0 0 ≢ 43 → result_ok r ≡ number word
number-parsed {E = E} word (Ok n) parsed plain =
    let p = parse_plain own {E = E} 64 word (Ok n) parsed plain in
    ap (λ (m : ℕ). Some m) p.1 ∙ sym (number-some word p.0.0 p.0.1 p.0.2)
number-parsed {E = E} word (Err e) parsed plain =
    sym (number-none word (parse_plain own {E = E} 64 word (Err e) parsed plain))

-- a word with a sign
pub number-signed : (word : List ℕ) → get_or word 0 0 ≡ 43 → number word ≡ None
number-signed [] sign = refl
number-signed (c ∷ word) sign = rw sign refl
