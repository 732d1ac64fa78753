-- The escapes of a field, as `percent_encoding` writes them.
use Rattle.std.proofs.Common.{◌≡◌, ℕ, zero, suc, ◌<◌, ◌≤◌, Bool, true, false, ◌&&◌, List, [], ◌∷◌, length, get_or, refl, ap, arith}
use Rattle.std.specs.Prelude.{not, ◌/◌, ◌%◌, codes, if◌then◌else◌}
use Rattle.std.specs.Str.{bytes_eq}
use Rattle.std.specs.List.{All}
use Rattle.std.proofs.lemmas.Bool.Decides.{nat_tests, Decides-below_and}
use Rattle.std.proofs.lemmas.Slice.Eq.{bytes_eq-Decides}
use Rattle.std.proofs.lemmas.List.Elements.{All-head, All-tail, All-from_get_or}
use Rattle.percent_encoding.specs.AsciiSet.{should_percent_encode}
use Rattle.percent_encoding.specs.Percent.{percent_encode_byte, encode_byte, percent_encode}
use Rattle.percent_encoding.proofs.PercentLemmas.{IsByte}
use Rattle.nt_lines.specs.declared.field.TheConstants.{ESCAPED}
use Rattle.nt_lines.specs.ItemLines.{is_escaped, escape, escaped, field}

-- whether two tests answer the same
abbrev same : Bool → Bool → Bool
same true b = b
same false b = not b

-- where they do they are equal
same-is : (a b : Bool) → same a b ≡ true → a ≡ b
same-is true true e = refl
same-is true false e = cc
same-is false true e = cc
same-is false false e = refl

-- whether the set of escapes holds a byte that is escaped, and no other
abbrev agrees : ℕ → Bool
agrees b = same (is_escaped b) (should_percent_encode ESCAPED b)

-- the same of all bytes below a bound
abbrev all_agree : ℕ → Bool
all_agree zero = true
all_agree (suc n) = agrees n && all_agree n

-- an ASCII byte is escaped exactly where the set says so
escapes-ascii : (b : ℕ) → b < 128 → is_escaped b ≡ should_percent_encode ESCAPED b
unfolding should_percent_encode
escapes-ascii b low = same-is (is_escaped b) (should_percent_encode ESCAPED b)
    ((Decides-below_and agrees (λ k. agrees k ≡ true) all_agree (λ k. (λ h. h, λ h. h)) refl (λ n. refl) 128).0 refl b
    low)

-- and so is each other
escapes-past : (b : ℕ) → 128 ≤ b → is_escaped b ≡ should_percent_encode ESCAPED b
unfolding should_percent_encode
escapes-past b past = grind (arith, nat_tests)

-- a byte is escaped exactly where the set says so
escapes : (b : ℕ) → is_escaped b ≡ should_percent_encode ESCAPED b
escapes b = grind (arith, escapes-ascii, escapes-past)

-- an escape has the two digits of its byte
escape-is : (b : ℕ) → b < 256 → percent_encode_byte b ≡ escape b
unfolding percent_encode_byte
escape-is b small = let digit : b / 16 % 16 ≡ b / 16 = omega arith in rw digit

-- what a byte becomes
encode-is : (b : ℕ) → b < 256 → encode_byte ESCAPED b ≡ (if is_escaped b then escape b else b ∷ [])
encode-is b small = rw (escapes b, escape-is b small)

-- a text with its escapes
pub encoded-is : (bytes : List ℕ) → All IsByte bytes → percent_encode ESCAPED bytes ≡ escaped bytes
unfolding percent_encode
encoded-is [] small = refl
encoded-is (b ∷ bs) small = rw (encode-is b (All-head IsByte b bs small), encoded-is bs (All-tail IsByte b bs small))

-- the same, where each byte is known by its index
pub encoded : (bytes : List ℕ) → ((i : ℕ) → i < length bytes → get_or bytes i 0 < 256)
    → percent_encode ESCAPED bytes ≡ escaped bytes
encoded bytes small = encoded-is bytes (All-from_get_or IsByte bytes 0 small)

-- texts that differ are told apart
pub not-equal : (xs ys : List ℕ) → (xs ≡ ys → ⊥) → bytes_eq xs ys ≡ false
not-equal xs ys other = by_test (bytes_eq xs ys) refl where
  by_test : (b : Bool) → bytes_eq xs ys ≡ b → bytes_eq xs ys ≡ false
  by_test true e = absurd (other ((bytes_eq-Decides xs ys).0 e))
  by_test false e = e

-- a field that is neither empty nor `-` is its text with the escapes
pub field-is : (text : List ℕ) → (text ≡ [] → ⊥) → (text ≡ codes "-" → ⊥) → escaped text ≡ field text
field-is text filled other = rw (not-equal text [] filled, not-equal text (codes "-") other)

-- the same of a text that is neither by its length and its first byte
pub field-long : (text : List ℕ) → (length text < 1 → ⊥) → (length text ≡ 1 → get_or text 0 0 ≡ 45 → ⊥)
    → escaped text ≡ field text
field-long text filled other = field-is text (λ same. filled (omega (arith, ap length same)))
    (λ same. other (ap length same) (ap (λ (w : List ℕ). get_or w 0 0) same))
