-- The line of an item of a log, without its line feed.
use Rattle.std.specs.Prelude.{ℕ, ℤ, pos, negsuc, ◌^◌, ◌<◌, Bool, true, false, ◌||◌, ◌==◌, ◌/◌, ◌%◌, nat_le, List, [], ◌∷◌, ◌++◌, codes, if◌then◌else◌}
use Rattle.std.specs.List.{flat_map, All}
use Rattle.std.specs.Str.{bytes_eq}
use Rattle.std.specs.Int.{w32, w64, to_be_bytes}
use Rattle.std.specs.Fmt.{decimal, signed_decimal, digit_glyph}
use Rattle.hex.specs.Hex.{encode_lower}
use Rattle.wpilog_write.specs.declared.item.LogItem.{LogItem}
use Rattle.wpilog_write.specs.declared.item.LogItem.TheVariants.{Start, Value, SetMeta, Finish}
use Rattle.wpilog_write.specs.declared.item.LogValue.{LogValue}
use Rattle.wpilog_write.specs.declared.item.LogValue.TheVariants.{Boolean, Int64, Float, Double, Bytes, Booleans, Int64s, Floats, Doubles, Strings}

-- ---- text fields

-- the bytes that a field escapes: controls, the space, `%`, `,`, and all past ASCII
abbrev pub is_escaped : ℕ → Bool
is_escaped b = nat_le b 32 || nat_le 127 b || b == 37 || b == 44

-- `%` and the two upper-case hexadecimal digits of the byte
abbrev pub escape : ℕ → List ℕ
escape b = 37 ∷ digit_glyph true (b / 16) ∷ digit_glyph true (b % 16) ∷ []

-- a text with each such byte escaped
abbrev pub escaped : List ℕ → List ℕ
escaped bytes = flat_map (λ b. if is_escaped b then escape b else b ∷ []) bytes

-- a text: `-` where it is empty, and `%2D` for the text `-`
abbrev pub field : List ℕ → List ℕ
field text =
    if bytes_eq text [] then codes "-"
    else if bytes_eq text (codes "-") then codes "%2D"
    else escaped text

-- ---- values

abbrev pub truth : Bool → List ℕ
truth true = codes "true"
truth false = codes "false"

-- the bits of a float and of a double: two lower-case hexadecimal digits for each byte, the greatest byte first
unfoldable pub float_bits : ℕ → List ℕ
float_bits bits = encode_lower (to_be_bytes w32 bits)

unfoldable pub double_bits : ℕ → List ℕ
double_bits bits = encode_lower (to_be_bytes w64 bits)

-- elements with a comma between them
abbrev pub listed : {T : Type 0} → (T → List ℕ) → List T → List ℕ
listed text [] = []
listed text (x ∷ xs) = text x ++ flat_map (λ y. 44 ∷ text y) xs

-- a list: its elements between its label and a bracket
abbrev pub list_text : {T : Type 0} → List ℕ → (T → List ℕ) → List T → List ℕ
list_text label text list = label ++ (listed text list ++ codes "]")

-- a value: its type, and what it is
abbrev pub value_text : LogValue → List ℕ
value_text (Boolean b) = truth b
value_text (Int64 n) = codes "i64:" ++ signed_decimal n
value_text (Float bits) = codes "f32:" ++ float_bits bits
value_text (Double bits) = codes "f64:" ++ double_bits bits
value_text (Bytes bytes) = codes "bytes:" ++ field bytes
value_text (Booleans list) = list_text (codes "b[") truth list
value_text (Int64s list) = list_text (codes "i64[") signed_decimal list
value_text (Floats list) = list_text (codes "f32[") float_bits list
value_text (Doubles list) = list_text (codes "f64[") double_bits list
value_text (Strings texts) = list_text (codes "s[") field texts

-- ---- items

-- what begins each line: the letter, the time and the entry id
abbrev pub head : List ℕ → ℕ → ℕ → List ℕ
head letter time id = letter ++ (codes " " ++ (decimal time ++ (codes " " ++ decimal id)))

-- the line of an item
abbrev pub item_line : LogItem → List ℕ
item_line (Start time id name typ meta) =
    head (codes "S") time id ++ (codes " " ++ (field name ++ (codes " " ++ (field typ ++ (codes " " ++ field meta)))))
item_line (Value time id value) = head (codes "D") time id ++ (codes " " ++ value_text value)
item_line (SetMeta time id meta) = head (codes "M") time id ++ (codes " " ++ field meta)
item_line (Finish time id) = head (codes "F") time id

-- ---- what a line tells

-- a number that an `int64` holds; `negsuc n` is -(n + 1)
abbrev pub IsInt64 : ℤ → Type 0
IsInt64 (pos n) = n < 2 ^ 63
IsInt64 (negsuc n) = n < 2 ^ 63

-- the bytes of a text
abbrev pub AreBytes : List ℕ → Type 0
AreBytes text = All (λ b. b < 256) text

-- a value that fits its type
abbrev pub FitsItsType : LogValue → Type 0
FitsItsType (Boolean b) = Unit {0}
FitsItsType (Int64 n) = IsInt64 n
FitsItsType (Float bits) = bits < 2 ^ 32
FitsItsType (Double bits) = bits < 2 ^ 64
FitsItsType (Bytes bytes) = AreBytes bytes
FitsItsType (Booleans list) = Unit {0}
FitsItsType (Int64s list) = All IsInt64 list
FitsItsType (Floats list) = All (λ bits. bits < 2 ^ 32) list
FitsItsType (Doubles list) = All (λ bits. bits < 2 ^ 64) list
FitsItsType (Strings texts) = All AreBytes texts

-- an item whose times, ids and values fit their types, and whose texts are bytes
abbrev pub FitsItsTypes : LogItem → Type 0
FitsItsTypes (Start time id name typ meta) = (time < 2 ^ 64) × (id < 2 ^ 32) × AreBytes name × AreBytes typ
    × AreBytes meta
FitsItsTypes (Value time id value) = (time < 2 ^ 64) × (id < 2 ^ 32) × FitsItsType value
FitsItsTypes (SetMeta time id meta) = (time < 2 ^ 64) × (id < 2 ^ 32) × AreBytes meta
FitsItsTypes (Finish time id) = (time < 2 ^ 64) × (id < 2 ^ 32)
