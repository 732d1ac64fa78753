-- A line that is a binary frame: `hex `, and then the bytes, each as two lower-case hexadecimal digits.
use Rattle.std.specs.Prelude.{ℕ, ◌+◌, ◌-◌, ◌*◌, ◌==◌, ◌&&◌, ◌||◌, nat_le, Bool, List, [], ◌∷◌, ◌++◌, drop, take, codes, bytes_eq, Option, Some, None, if◌then◌else◌}
use Rattle.hex.specs.Hex.{encode_lower}

abbrev pub hex_word : List ℕ
hex_word = codes "hex "

-- whether a line is a binary frame, and what then stands after the word
abbrev pub is_binary : List ℕ → Bool
is_binary line = bytes_eq (take 4 line) hex_word

abbrev pub digits_in : List ℕ → List ℕ
digits_in line = drop 4 line

-- ---- reading

-- a space or a tab
abbrev pub is_blank : ℕ → Bool
is_blank c = (c == 32) || (c == 9)

-- the worth of a digit: `0` to `9` are 48 to 57, and `a` to `f` are 97 to 102
abbrev pub digit_of : ℕ → Option ℕ
digit_of c =
    if nat_le 48 c && nat_le c 57 then Some (c - 48)
    else if nat_le 97 c && nat_le c 102 then Some (c - 87)
    else None

-- a byte of two digits
abbrev pub byte_of : Option ℕ → Option ℕ → Option ℕ
byte_of (Some high) (Some low) = Some (high * 16 + low)
byte_of high low = None

-- a byte before others, where all are there
abbrev pub with_byte : Option ℕ → Option (List ℕ) → Option (List ℕ)
with_byte (Some byte) (Some bytes) = Some (byte ∷ bytes)
with_byte byte bytes = None

-- the bytes of a text in which any number of blanks stands before each of them
abbrev pub spaced_bytes : List ℕ → Option (List ℕ)
spaced_bytes [] = Some []
spaced_bytes (c ∷ []) = None
spaced_bytes (c ∷ d ∷ text) =
    if is_blank c then spaced_bytes (d ∷ text) else with_byte (byte_of (digit_of c) (digit_of d)) (spaced_bytes text)

-- the bytes of a text that has any number of blanks between them, and nowhere else
abbrev pub hex_bytes : List ℕ → Option (List ℕ)
hex_bytes [] = Some []
hex_bytes (c ∷ text) = if is_blank c then None else spaced_bytes (c ∷ text)

-- ---- writing

abbrev pub hex_line : List ℕ → List ℕ
hex_line bytes = hex_word ++ (encode_lower bytes ++ codes "\n")
