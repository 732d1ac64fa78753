-- Payloads as they are written, by the grammar.
use Rattle.std.proofs.Common.{◌≡◌, ℕ, ℤ, ◌+◌, ◌^◌, ◌<◌, ◌≤◌, Bool, true, false, List, [], ◌∷◌, ◌++◌, length, All, FitsSigned, flat_map, refl, sym, ap, subst, ◌∙◌, arith}
use Rattle.std.specs.Int.{w32, w64, to_le_bytes, cast_signed, cast_unsigned}
use mir.ValLaws.{to_z-of_z, of_z_fits}
use Rattle.std.proofs.lemmas.List.{length-append}
use Rattle.std.proofs.lemmas.List.Elements.{All-nil, All-cons, All-head, All-tail}
use Rattle.wpilog_write.specs.declared.item.LogItem.{LogItem}
use Rattle.wpilog_write.specs.declared.item.LogItem.TheVariants.{Start, Value, SetMeta, Finish}
use Rattle.wpilog_write.specs.declared.item.LogValue.{LogValue}
use Rattle.wpilog_write.specs.declared.item.LogValue.TheVariants.{Boolean, Int64, Float, Double, Bytes, Booleans, Int64s, Floats, Doubles, Strings}
use Rattle.wpilog_write.specs.Log.{IsNumber, IsString, IsBoolean, IsInt64, AreInRow, IsPayload, Fields, Says, time_of}
use Rattle.wpilog_write.specs.Written.{string, boolean, int64, value_payload, payload_of, entry_of}
use Rattle.wpilog_write.specs.Fits.{FitsValue, FitsTypes}
use Rattle.wpilog_write.proofs.Numbers.{length-bytes, number-fits}

-- ---- single numbers and texts

-- numbers of four and of eight bytes
pub four-is : (n : ℕ) → n < 2 ^ 32 → IsNumber 4 (to_le_bytes w32 n) n
four-is n fits = record { len_is = length-bytes 0 4 n; value = number-fits 4 n fits }

eight-is : (n : ℕ) → n < 2 ^ 64 → IsNumber 8 (to_le_bytes w64 n) n
eight-is n fits = record { len_is = length-bytes 0 8 n; value = number-fits 8 n fits }

-- a text
string-is : (text : List ℕ) → length text < 2 ^ 32 → IsString (string text) text
string-is text fits = record { len = to_le_bytes w32 (length text); len_is = four-is (length text) fits; whole = refl }

-- how long a text is
string-length : (bytes text : List ℕ) → IsString bytes text → length bytes ≡ 4 + length text
string-length bytes text is = omega (arith, ap length is.whole, length-append is.len text, is.len_is.len_is)

written-length : (text : List ℕ) → length (string text) ≡ 4 + length text
written-length text = omega (
  arith,
  length-append (to_le_bytes w32 (length text)) text,
  length-bytes 0 4 (length text),
)

-- a truth value
boolean-is : (b : Bool) → IsBoolean (boolean b) b
boolean-is true = refl
boolean-is false = refl

boolean-length : (bytes : List ℕ) (b : Bool) → IsBoolean bytes b → length bytes ≡ length (boolean b)
boolean-length bytes true is = ap length is
boolean-length bytes false is = ap length is

-- a signed number
int64-length : (n : ℤ) → length (int64 n) ≡ 8
unfolding int64
int64-length n = length-bytes 0 8 (cast_unsigned w64 n)

int64-is : (n : ℤ) → FitsSigned w64 n → IsInt64 (int64 n) n
unfolding int64
int64-is n fits =
    let below : cast_unsigned w64 n < 2 ^ 64 = (of_z_fits w64 n fits).fits in (
      length-bytes 0 8 (cast_unsigned w64 n),
      sym (ap (cast_signed w64) (number-fits 8 (cast_unsigned w64 n) below) ∙ to_z-of_z w64 n fits),
    )

-- ---- elements in a row

-- what is written of elements one after another
row-is : (X : Type 0) (f : X → List ℕ) (spells : List ℕ → X → Type 0) (P : X → Type 0)
    → ((x : X) → P x → spells (f x) x) → (xs : List X) → All P xs → AreInRow spells (flat_map f xs) xs
row-is X f spells P each [] all = refl
row-is X f spells P each (x ∷ xs) all = (
  f x,
  flat_map f xs,
  refl,
  each x (All-head P x xs all),
  row-is X f spells P each xs (All-tail P x xs all),
)

-- elements of any kind
anything : (X : Type 0) (xs : List X) → All (λ x. Unit {0}) xs
anything X xs k d within = tt

-- any row is as long as what is written
row-length : (X : Type 0) (f : X → List ℕ) (spells : List ℕ → X → Type 0)
    → ((bytes : List ℕ) (x : X) → spells bytes x → length bytes ≡ length (f x))
    → (bytes : List ℕ) (xs : List X) → AreInRow spells bytes xs → length bytes ≡ length (flat_map f xs)
row-length X f spells each bytes [] is = ap length is
row-length X f spells each bytes (x ∷ xs) (first, rest, parts, here, after) =
    let one : length first ≡ length (f x) = each first x here in
    let others : length rest ≡ length (flat_map f xs) = row-length X f spells each rest xs after in
    omega (arith, ap length parts, length-append first rest, length-append (f x) (flat_map f xs))

-- texts are no longer than all of them, and no more than their bytes
texts-within : (texts : List (List ℕ)) (most : ℕ) → length (flat_map string texts) ≤ most
    → All (λ text. length text ≤ most) texts
texts-within [] most within = All-nil (λ text. length text ≤ most)
texts-within (text ∷ texts) most within =
    let parts = length-append (string text) (flat_map string texts) in
    let len = written-length text in
    All-cons (λ text. length text ≤ most) text texts (omega (arith, within, parts, len))
    (texts-within texts most (omega (arith, within, parts)))

texts-few : (texts : List (List ℕ)) → length texts ≤ length (flat_map string texts)
texts-few [] = omega arith
texts-few (text ∷ texts) = omega (
  arith,
  length-append (string text) (flat_map string texts),
  written-length text,
  texts-few texts,
)

-- ---- values

-- what is written of a value is a payload of it
value-is : (value : LogValue) → FitsValue value → length (value_payload value) < 2 ^ 32
    → IsPayload (value_payload value) value
value-is (Boolean b) fits short = boolean-is b
value-is (Int64 n) fits short = int64-is n fits
value-is (Float bits) fits short = four-is bits fits
value-is (Double bits) fits short = eight-is bits fits
value-is (Bytes bytes) fits short = refl
value-is (Booleans list) fits short = row-is Bool boolean IsBoolean (λ b. Unit {0}) (λ b _. boolean-is b) list
    (anything Bool list)
value-is (Int64s list) fits short = row-is ℤ int64 IsInt64 (FitsSigned w64) int64-is list fits
value-is (Floats list) fits short = row-is ℕ (to_le_bytes w32) (IsNumber 4) (λ bits. bits < 2 ^ 32) four-is list fits
value-is (Doubles list) fits short = row-is ℕ (to_le_bytes w64) (IsNumber 8) (λ bits. bits < 2 ^ 64) eight-is list fits
value-is (Strings texts) fits short =
    let size = length (flat_map string texts) in
    let total = length-append (to_le_bytes w32 (length texts)) (flat_map string texts) in
    let below : size < 2 ^ 32 = omega (arith, short, total) in
    let few : length texts < 2 ^ 32 = omega (arith, texts-few texts) in
    record {
      count = to_le_bytes w32 (length texts);
      rest = flat_map string texts;
      count_is = four-is (length texts) few;
      texts_are = row-is (List ℕ) string IsString (λ text. length text ≤ size)
          (λ text le. string-is text (omega (arith, le))) texts (texts-within texts size (omega arith));
      whole = refl;
    }

-- any payload of a value is as long
value-length : (payload : List ℕ) (value : LogValue) → IsPayload payload value
    → length payload ≡ length (value_payload value)
value-length payload (Boolean b) is = boolean-length payload b is
value-length payload (Int64 n) is = is.0 ∙ sym (int64-length n)
value-length payload (Float bits) is = is.len_is
value-length payload (Double bits) is = is.len_is
value-length payload (Bytes bytes) is = ap length is
value-length payload (Booleans list) is = row-length Bool boolean IsBoolean boolean-length payload list is
value-length payload (Int64s list) is = row-length ℤ int64 IsInt64 (λ bytes n e. e.0 ∙ sym (int64-length n)) payload
    list is
value-length payload (Floats list) is = row-length ℕ (to_le_bytes w32) (IsNumber 4) (λ bytes n e. e.len_is) payload
    list is
value-length payload (Doubles list) is = row-length ℕ (to_le_bytes w64) (IsNumber 8) (λ bytes n e. e.len_is) payload
    list is
value-length payload (Strings texts) is =
    let rest : length is.rest ≡ length (flat_map string texts) = row-length (List ℕ) string IsString
    (λ bytes text e. string-length bytes text e ∙ sym (written-length text)) is.rest texts is.texts_are in
    omega (
      arith,
      ap length is.whole,
      length-append is.count is.rest,
      is.count_is.len_is,
      rest,
      length-append (to_le_bytes w32 (length texts)) (flat_map string texts),
      length-bytes 0 4 (length texts),
    )

-- ---- items

-- how long what is written of a Start is, and of a Set Metadata
start-length : (time id : ℕ) (name typ meta : List ℕ)
    → length (payload_of (Start time id name typ meta)) ≡ 17 + length name + length typ + length meta
start-length time id name typ meta = omega (
  arith,
  length-append (to_le_bytes w32 id) (string name ++ (string typ ++ string meta)),
  length-bytes 0 4 id,
  length-append (string name) (string typ ++ string meta),
  length-append (string typ) (string meta),
  written-length name,
  written-length typ,
  written-length meta,
)

set_meta-length : (time id : ℕ) (meta : List ℕ)
    → length (payload_of (SetMeta time id meta)) ≡ 9 + length meta
set_meta-length time id meta = omega (
  arith,
  length-append (to_le_bytes w32 id) (string meta),
  length-bytes 0 4 id,
  written-length meta,
)

-- an item that stands in the record of its entry, as values do, has an entry that isn't 0
abbrev pub IsNamed : LogItem → Type 0
IsNamed (Start time id name typ meta) = Unit {0}
IsNamed (Value time id value) = id ≡ 0 → ⊥
IsNamed (SetMeta time id meta) = Unit {0}
IsNamed (Finish time id) = Unit {0}

-- the payload that is written says the item
pub item-says : (item : LogItem) (fields : Fields) → FitsTypes item → IsNamed item
    → length (payload_of item) < 2 ^ 32 → fields.entry ≡ entry_of item → fields.time ≡ time_of item
    → fields.payload ≡ payload_of item → Says fields item
item-says (Start time id name typ meta) fields fits named short entry at payload =
    let len = start-length time id name typ meta in (
      entry,
      at,
      record {
        id_at = to_le_bytes w32 id;
        name_at = string name;
        typ_at = string typ;
        meta_at = string meta;
        id_is = four-is id fits.1;
        name_is = string-is name (omega (arith, short, len));
        typ_is = string-is typ (omega (arith, short, len));
        meta_is = string-is meta (omega (arith, short, len));
        whole = payload;
      },
    )
item-says (Value time id value) fields fits named short entry at payload =
    (entry, named, at, subst (λ (w : List ℕ). IsPayload w value) (sym payload) (value-is value fits.2 short))
item-says (SetMeta time id meta) fields fits named short entry at payload =
    let len = set_meta-length time id meta in (
      entry,
      at,
      record {
        id_at = to_le_bytes w32 id;
        meta_at = string meta;
        id_is = four-is id fits.1;
        meta_is = string-is meta (omega (arith, short, len));
        whole = payload;
      },
    )
item-says (Finish time id) fields fits named short entry at payload =
    (entry, at, record { id_at = to_le_bytes w32 id; id_is = four-is id fits.1; whole = payload })

-- any payload that says an item is as long as the one that is written
pub says-length : (fields : Fields) (item : LogItem) → Says fields item
    → length fields.payload ≡ length (payload_of item)
says-length fields (Start time id name typ meta) says =
    let s = says.2 in
    omega (
      arith,
      start-length time id name typ meta,
      ap length s.whole,
      length-append s.id_at (s.name_at ++ (s.typ_at ++ s.meta_at)),
      s.id_is.len_is,
      length-append s.name_at (s.typ_at ++ s.meta_at),
      length-append s.typ_at s.meta_at,
      string-length s.name_at name s.name_is,
      string-length s.typ_at typ s.typ_is,
      string-length s.meta_at meta s.meta_is,
    )
says-length fields (Value time id value) says = value-length fields.payload value says.3
says-length fields (SetMeta time id meta) says =
    let s = says.2 in
    omega (
      arith,
      set_meta-length time id meta,
      ap length s.whole,
      length-append s.id_at s.meta_at,
      s.id_is.len_is,
      string-length s.meta_at meta s.meta_is,
    )
says-length fields (Finish time id) says =
    let s = says.2 in
    omega (arith, ap length s.whole, s.id_is.len_is, length-bytes 0 4 id)

-- and its record has the entry and the time that are written
pub says-entry : (fields : Fields) (item : LogItem) → Says fields item → fields.entry ≡ entry_of item
says-entry fields (Start time id name typ meta) says = says.0
says-entry fields (Value time id value) says = says.0
says-entry fields (SetMeta time id meta) says = says.0
says-entry fields (Finish time id) says = says.0

pub says-time : (fields : Fields) (item : LogItem) → Says fields item → fields.time ≡ time_of item
says-time fields (Start time id name typ meta) says = says.1
says-time fields (Value time id value) says = says.2
says-time fields (SetMeta time id meta) says = says.1
says-time fields (Finish time id) says = says.1
