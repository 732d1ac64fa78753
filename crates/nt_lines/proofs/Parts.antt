-- Parts of lines: texts with no space and no comma, and the values that they tell.
use Rattle.std.proofs.Common.{◌≡◌, ◌≢◌, ℕ, zero, suc, ◌+◌, ◌<◌, ◌^◌, Bool, true, false, List, [], ◌∷◌, ◌++◌, length, Ok, refl, sym, ap, ◌∙◌, arith}
use Rattle.std.specs.Prelude.{codes, ℤ, pos, negsuc, if◌then◌else◌, ◌/◌, ◌%◌}
use lib.Signed.{mag}
use Rattle.std.specs.Str.{bytes_eq}
use Rattle.std.specs.List.{All}
use Rattle.std.specs.Int.{w32, w64, to_be_bytes, from_be_bytes, bytes_high_first, byte_at}
use Rattle.std.specs.Fmt.{decimal, signed_decimal, digit_glyph}
use Rattle.std.proofs.lemmas.Bool.Decides.{nat_tests}
use Rattle.std.proofs.lemmas.Fmt.{decimal_by_steps, decimal_nonempty, signed_decimal_injective}
use Rattle.std.proofs.lemmas.Nat.{from_be_bytes-to_be_bytes_4, from_be_bytes-to_be_bytes_8}
use Rattle.std.proofs.lemmas.List.Elements.{All-nil, All-cons, All-head, All-tail, All-append, All-weaker}
use Rattle.std.proofs.lemmas.Slice.Eq.{bytes_eq-Decides}
use Rattle.percent_encoding.specs.Percent.{percent_decode}
use Rattle.percent_encoding.proofs.PercentLemmas.{IsByte, round_trip}
use Rattle.hex.specs.Hex.{lower_digits, encode_lower, is_hex_digit, decode_of, IsBytes}
use Rattle.hex.proofs.HexLemmas.{length-encode_with, decode_of-encode_lower, decode_of-ok}
use Rattle.nt_lines.specs.declared.field.TheConstants.{ESCAPED}
use Rattle.nt_lines.specs.ItemLines.{is_escaped, escape, escaped, field, truth, float_bits, double_bits, IsInt64}
use Rattle.nt_lines.proofs.Escapes.{encoded-is, not-equal}

-- ---- parts with no space and no comma

-- neither a space nor a comma
abbrev pub IsPlain : ℕ → Type 0
IsPlain b = (b ≢ 32) × (b ≢ 44)

-- each byte is neither
abbrev pub IsPart : List ℕ → Type 0
IsPart text = All IsPlain text

-- no byte is this one
abbrev pub HasNo : ℕ → List ℕ → Type 0
HasNo stop text = All (λ b. b ≢ stop) text

pub no-space : (text : List ℕ) → IsPart text → HasNo 32 text
no-space text part = All-weaker IsPlain (λ b. b ≢ 32) (λ b plain. plain.0) text part

pub no-comma : (text : List ℕ) → IsPart text → HasNo 44 text
no-comma text part = All-weaker IsPlain (λ b. b ≢ 44) (λ b plain. plain.1) text part

-- a part ends at the first byte that it doesn't have
pub split : (stop : ℕ) (a b us vs : List ℕ) → HasNo stop a → HasNo stop b → a ++ stop ∷ us ≡ b ++ stop ∷ vs
    → (a ≡ b) × (us ≡ vs)
split stop [] [] us vs p q e = (refl, cc)
split stop [] (y ∷ ys) us vs p q e = let same : y ≡ stop = cc in absurd (All-head (λ b. b ≢ stop) y ys q same)
split stop (x ∷ xs) [] us vs p q e = let same : x ≡ stop = cc in absurd (All-head (λ b. b ≢ stop) x xs p same)
split stop (x ∷ xs) (y ∷ ys) us vs p q e =
    let first : x ≡ y = cc in
    let others : xs ++ stop ∷ us ≡ ys ++ stop ∷ vs = cc in
    let rest = split stop xs ys us vs (All-tail (λ b. b ≢ stop) x xs p) (All-tail (λ b. b ≢ stop) y ys q) others in
    let more : xs ≡ ys = rest.0 in
    (cc, rest.1)

-- a byte that is neither a space nor a comma
one-part : (b : ℕ) → (b ≡ 32 → ⊥) → (b ≡ 44 → ⊥) → IsPart (b ∷ [])
one-part b space comma = All-cons IsPlain b [] (space, comma) (All-nil IsPlain)

-- a number has none
pub decimal-part : (n : ℕ) → n < 2 ^ 64 → IsPart (decimal n)
decimal-part n small = decimal_by_steps (λ n ds. IsPart ds)
    (λ n digit. one-part (48 + n) (λ e. absurd (omega arith)) (λ e. absurd (omega arith)))
    (λ n ds big part. All-append IsPlain ds ((48 + n % 10) ∷ []) part
    (one-part (48 + n % 10) (λ e. absurd (omega arith)) (λ e. absurd (omega arith)))) n small

-- nor has one with its sign
pub signed-part : (n : ℤ) → IsInt64 n → IsPart (signed_decimal n)
signed-part (pos n) small = decimal-part n (omega (arith, small))
signed-part (negsuc n) small = All-cons IsPlain 45 (decimal (suc n))
    ((λ e. absurd (omega arith)), (λ e. absurd (omega arith))) (decimal-part (suc n) (omega (arith, small)))

-- nor a truth value
pub truth-part : (b : Bool) → IsPart (truth b)
truth-part true = All-cons IsPlain 116 (114 ∷ 117 ∷ 101 ∷ []) ((λ e. absurd (omega arith)), (λ e. absurd (omega arith)))
    (All-cons IsPlain 114 (117 ∷ 101 ∷ []) ((λ e. absurd (omega arith)), (λ e. absurd (omega arith)))
    (All-cons IsPlain 117 (101 ∷ []) ((λ e. absurd (omega arith)), (λ e. absurd (omega arith)))
    (one-part 101 (λ e. absurd (omega arith)) (λ e. absurd (omega arith)))))
truth-part false = All-cons IsPlain 102 (97 ∷ 108 ∷ 115 ∷ 101 ∷ [])
    ((λ e. absurd (omega arith)), (λ e. absurd (omega arith)))
    (All-cons IsPlain 97 (108 ∷ 115 ∷ 101 ∷ []) ((λ e. absurd (omega arith)), (λ e. absurd (omega arith)))
    (All-cons IsPlain 108 (115 ∷ 101 ∷ []) ((λ e. absurd (omega arith)), (λ e. absurd (omega arith)))
    (All-cons IsPlain 115 (101 ∷ []) ((λ e. absurd (omega arith)), (λ e. absurd (omega arith)))
    (one-part 101 (λ e. absurd (omega arith)) (λ e. absurd (omega arith))))))

-- ---- fields

-- a digit of an escape is neither
glyph-space : (d : ℕ) → digit_glyph true d ≡ 32 → ⊥
glyph-space d e = grind (arith, nat_tests)

glyph-comma : (d : ℕ) → digit_glyph true d ≡ 44 → ⊥
glyph-comma d e = grind (arith, nat_tests)

-- what a byte becomes has none
byte-part : (b : ℕ) (t : Bool) → is_escaped b ≡ t → IsPart (if t then escape b else b ∷ [])
byte-part b true e = All-cons IsPlain 37 (digit_glyph true (b / 16) ∷ digit_glyph true (b % 16) ∷ [])
    ((λ e. absurd (omega arith)), (λ e. absurd (omega arith)))
    (All-cons IsPlain (digit_glyph true (b / 16)) (digit_glyph true (b % 16) ∷ [])
    (glyph-space (b / 16), glyph-comma (b / 16))
    (one-part (digit_glyph true (b % 16)) (glyph-space (b % 16)) (glyph-comma (b % 16))))
byte-part b false e = one-part b (no_space b e) (no_comma b e) where
  no_space : (b : ℕ) → is_escaped b ≡ false → b ≡ 32 → ⊥
  no_space b e same = grind (arith, nat_tests)

  no_comma : (b : ℕ) → is_escaped b ≡ false → b ≡ 44 → ⊥
  no_comma b e same = grind (arith, nat_tests)

-- a text with its escapes has none
escaped-part : (text : List ℕ) → IsPart (escaped text)
escaped-part [] = All-nil IsPlain
escaped-part (b ∷ bs) = All-append IsPlain (if is_escaped b then escape b else b ∷ []) (escaped bs)
    (byte-part b (is_escaped b) refl) (escaped-part bs)

-- a field has none
pub field-part : (text : List ℕ) → IsPart (field text)
field-part text = by_tests (bytes_eq text []) (bytes_eq text (codes "-")) where
  by_tests : (s t : Bool) → IsPart (if s then codes "-" else if t then codes "%2D" else escaped text)
  by_tests true t = one-part 45 (λ e. absurd (omega arith)) (λ e. absurd (omega arith))
  by_tests false true = All-cons IsPlain 37 (50 ∷ 68 ∷ []) ((λ e. absurd (omega arith)), (λ e. absurd (omega arith)))
      (All-cons IsPlain 50 (68 ∷ []) ((λ e. absurd (omega arith)), (λ e. absurd (omega arith)))
      (one-part 68 (λ e. absurd (omega arith)) (λ e. absurd (omega arith))))
  by_tests false false = escaped-part text

-- the text of a field
abbrev read : List ℕ → List ℕ
read part = if bytes_eq part (codes "-") then [] else percent_decode part

-- of a text that needs escapes or none
read-escaped : (text : List ℕ) → All IsByte text → percent_decode (escaped text) ≡ text
read-escaped text small = rw (← encoded-is text small) (round_trip ESCAPED text refl small)

-- `-` is read as itself
dash-decoded : percent_decode (codes "-") ≡ codes "-"
unfolding percent_decode
dash-decoded = refl

-- and its escape too
dash-escaped : percent_decode (codes "%2D") ≡ codes "-"
unfolding percent_decode
dash-escaped = refl

-- a field is read as its text
read-field : (text : List ℕ) → All IsByte text → read (field text) ≡ text
read-field text small = by_empty (bytes_eq text []) refl where
  other : (text ≡ codes "-" → ⊥) → escaped text ≡ codes "-" → ⊥
  other differs e = differs (sym (read-escaped text small) ∙ ap percent_decode e ∙ dash-decoded)

  by_dash : (filled : text ≡ [] → ⊥) (t : Bool) → bytes_eq text (codes "-") ≡ t → read (field text) ≡ text
  by_dash filled true e =
      let same : text ≡ codes "-" = (bytes_eq-Decides text (codes "-")).0 e in
      ap (λ (w : List ℕ). read (field w)) same ∙ dash-escaped ∙ sym same
  by_dash filled false e =
      let differs : text ≡ codes "-" → ⊥ = λ same. absurd (let yes =
      (bytes_eq-Decides text (codes "-")).1 same in let no = e in cc) in
      rw (not-equal text [] filled, e, not-equal (escaped text) (codes "-") (other differs)) (read-escaped text small)

  by_empty : (t : Bool) → bytes_eq text [] ≡ t → read (field text) ≡ text
  by_empty true e =
      let same : text ≡ [] = (bytes_eq-Decides text []).0 e in
      ap (λ (w : List ℕ). read (field w)) same ∙ sym same
  by_empty false e = by_dash (λ same. absurd (let yes = (bytes_eq-Decides text []).1 same in let no = e in cc))
      (bytes_eq text (codes "-")) refl

-- texts with the same field are equal
pub field-one : (a b : List ℕ) → All IsByte a → All IsByte b → field a ≡ field b → a ≡ b
field-one a b small_a small_b e = sym (read-field a small_a) ∙ ap read e ∙ read-field b small_b

-- ---- numbers and truth values

-- the size of a number of 64 bits
int64-size : (n : ℤ) → IsInt64 n → mag n < 2 ^ 63
int64-size (pos n) small = small
int64-size (negsuc n) small = small

-- numbers with the same text are equal
pub signed-one : (a b : ℤ) → IsInt64 a → IsInt64 b → signed_decimal a ≡ signed_decimal b → a ≡ b
signed-one a b p q e = signed_decimal_injective a b (int64-size a p) (int64-size b q) e

-- and truth values
pub truth-one : (a b : Bool) → truth a ≡ truth b → a ≡ b
truth-one true true e = refl
truth-one true false e = absurd (let same : ◌≡◌ {A = ℕ} 116 102 = cc in omega (arith, same))
truth-one false true e = absurd (let same : ◌≡◌ {A = ℕ} 102 116 = cc in omega (arith, same))
truth-one false false e = refl

-- neither is nothing
pub truth-some : (b : Bool) → truth b ≡ [] → ⊥
truth-some true e = cc
truth-some false e = cc

pub signed-some : (n : ℤ) → IsInt64 n → signed_decimal n ≡ [] → ⊥
signed-some (pos n) small e = let some = decimal_nonempty n (omega (arith, small)) in omega (arith, some, ap length e)
signed-some (negsuc n) small e = cc

-- nor is a field
pub field-some : (text : List ℕ) → field text ≡ [] → ⊥
field-some [] e = cc
field-some (b ∷ bs) e = by_dash (bytes_eq (b ∷ bs) (codes "-")) e where
  by_byte : (t : Bool) → (if t then escape b else b ∷ []) ++ escaped bs ≡ [] → ⊥
  by_byte true e = cc
  by_byte false e = cc

  by_dash : (t : Bool) → (if t then codes "%2D" else escaped (b ∷ bs)) ≡ [] → ⊥
  by_dash true e = cc
  by_dash false e = by_byte (is_escaped b) e

-- ---- bits

-- each element of a list of bytes is a byte
bytes-at : (xs : List ℕ) → All (λ b. b < 256) xs → IsBytes xs
bytes-at [] all i = omega arith
bytes-at (x ∷ xs) all zero = All-head (λ b. b < 256) x xs all
bytes-at (x ∷ xs) all (suc i) = bytes-at xs (All-tail (λ b. b < 256) x xs all) i

-- those of a number are
byte-small : (k n : ℕ) → byte_at k n < 256
byte-small zero n = omega arith
byte-small (suc k) n = omega arith

high-small : (k n : ℕ) → All (λ b. b < 256) (bytes_high_first k n)
high-small zero n = All-nil (λ b. b < 256)
high-small (suc k) n = All-cons (λ b. b < 256) (byte_at k n) (bytes_high_first k n) (byte-small k n) (high-small k n)

-- a digit is neither a space nor a comma
digit-plain : (c : ℕ) → is_hex_digit c ≡ true → IsPlain c
digit-plain c e = (
  λ same. absurd (let no : is_hex_digit c ≡ false = ap is_hex_digit same in let yes = e in cc),
  λ same. absurd (let no : is_hex_digit c ≡ false = ap is_hex_digit same in let yes = e in cc),
)

-- digits have none
digits-part : (bytes : List ℕ) → IsBytes bytes → IsPart (encode_lower bytes)
digits-part bytes are =
    let read = decode_of-ok (encode_lower bytes) bytes (decode_of-encode_lower bytes are) in
    All-weaker (λ c. is_hex_digit c ≡ true) IsPlain digit-plain (encode_lower bytes) read.1

-- bytes with the same digits are equal
digits-one : (a b : List ℕ) → IsBytes a → IsBytes b → encode_lower a ≡ encode_lower b → a ≡ b
digits-one a b p q e =
    let same : Ok a ≡ Ok b = sym (decode_of-encode_lower a p) ∙ ap decode_of e ∙ decode_of-encode_lower b q in
    cc

pub float-part : (bits : ℕ) → IsPart (float_bits bits)
unfolding float_bits
float-part bits = digits-part (to_be_bytes w32 bits) (bytes-at (to_be_bytes w32 bits) (high-small 4 bits))

pub double-part : (bits : ℕ) → IsPart (double_bits bits)
unfolding double_bits
double-part bits = digits-part (to_be_bytes w64 bits) (bytes-at (to_be_bytes w64 bits) (high-small 8 bits))

-- bits with the same digits are equal
pub float-one : (a b : ℕ) → a < 2 ^ 32 → b < 2 ^ 32 → float_bits a ≡ float_bits b → a ≡ b
unfolding float_bits
float-one a b p q e =
    let same = digits-one (to_be_bytes w32 a) (to_be_bytes w32 b) (bytes-at (to_be_bytes w32 a) (high-small 4 a))
    (bytes-at (to_be_bytes w32 b) (high-small 4 b)) e in
    sym (from_be_bytes-to_be_bytes_4 a p) ∙ ap (from_be_bytes w32) same ∙ from_be_bytes-to_be_bytes_4 b q

pub double-one : (a b : ℕ) → a < 2 ^ 64 → b < 2 ^ 64 → double_bits a ≡ double_bits b → a ≡ b
unfolding double_bits
double-one a b p q e =
    let same = digits-one (to_be_bytes w64 a) (to_be_bytes w64 b) (bytes-at (to_be_bytes w64 a) (high-small 8 a))
    (bytes-at (to_be_bytes w64 b) (high-small 8 b)) e in
    sym (from_be_bytes-to_be_bytes_8 a p) ∙ ap (from_be_bytes w64) same ∙ from_be_bytes-to_be_bytes_8 b q

-- digits are not nothing
pub float-some : (bits : ℕ) → float_bits bits ≡ [] → ⊥
unfolding float_bits
float-some bits e = omega (arith, ap length e, length-encode_with lower_digits (to_be_bytes w32 bits))

pub double-some : (bits : ℕ) → double_bits bits ≡ [] → ⊥
unfolding double_bits
double-some bits e = omega (arith, ap length e, length-encode_with lower_digits (to_be_bytes w64 bits))
