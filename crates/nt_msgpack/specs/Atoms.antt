-- How MessagePack spells atoms: the formats by their first byte, every spelling of an atom, and the
-- shortest one. The names in quotes are sections of the MessagePack specification.
use Rattle.std.specs.Prelude.{◌≡◌, ℕ, ◌+◌, ◌-◌, ◌*◌, ◌^◌, ◌<◌, Bool, nat_lt, ◌==◌, ℤ, pos, negsuc, List, [], ◌∷◌, ◌++◌, length, Option, None, Some, if◌then◌else◌}
use Rattle.std.specs.Int.{w16, w32, w64, to_be_bytes}
use Rattle.std.specs.Str.{IsUtf8}
use Rattle.nt_msgpack.specs.declared.atom.Atom.{Atom}
use Rattle.nt_msgpack.specs.declared.atom.Atom.TheVariants as atoms

-- ---- "Type system": atoms

-- an atom as contracts see it: a text and bytes are lists of bytes, a float is its bits,
-- and of arrays and maps there are the heads alone, with the number of elements or pairs
pub data AtomValue : Type 0 where
  int : ℤ → AtomValue
  boolean : Bool → AtomValue
  float32 : ℕ → AtomValue
  float64 : ℕ → AtomValue
  text : List ℕ → AtomValue
  binary : List ℕ → AtomValue
  array_head : ℕ → AtomValue
  map_head : ℕ → AtomValue

-- an atom of the code
abbrev pub value_of : Atom → AtomValue
value_of (atoms.Int z) = int z
value_of (atoms.Bool b) = boolean b
value_of (atoms.F32 bits) = float32 bits
value_of (atoms.F64 bits) = float64 bits
value_of (atoms.Text t) = text t.now
value_of (atoms.Bytes bs) = binary bs.now
value_of (atoms.ArrayHead n) = array_head n
value_of (atoms.MapHead n) = map_head n

-- ---- "Notation in diagrams": numbers

-- a number of 8 bits
abbrev pub IsByte : ℕ → Type 0
IsByte b = b < 256

-- the number that bytes spell, the greatest byte first
abbrev pub number : List ℕ → ℕ
number [] = 0
number (b ∷ bs) = b * 256 ^ length bs + number bs

-- the number that they spell in two's complement
abbrev pub signed_number : List ℕ → ℤ
signed_number bs =
    if nat_lt (2 * number bs) (256 ^ length bs) then pos (number bs)
    else negsuc (256 ^ length bs - 1 - number bs)

-- ---- "Formats"

-- what stands after a first byte
pub data Format : Type 0 where
  -- so many bytes, and the atom that they make
  fixed : ℕ → (List ℕ → AtomValue) → Format
  -- the length in so many bytes, then as many bytes as it says, and the atom that those make
  counted : ℕ → (List ℕ → AtomValue) → Format

-- an atom that the first byte spells alone
abbrev pub alone : AtomValue → Format
alone atom = fixed 0 (λ _. atom)

-- a number in so many bytes, and the atom that it makes
abbrev pub numbered : ℕ → (ℕ → AtomValue) → Format
numbered n make = fixed n (λ bs. make (number bs))

-- a whole number from 0 on
abbrev pub unsigned : ℕ → AtomValue
unsigned n = int (pos n)

-- a whole number in two's complement
abbrev pub signed : List ℕ → AtomValue
signed bs = int (signed_number bs)

-- the format that a first byte stands for ("Overview"), but for nil and the extensions, which aren't
-- read. In a family of widths the next byte has twice the width
unfoldable pub format_of : ℕ → Option Format
format_of first =
    if nat_lt first 0x80 then Some (alone (int (pos first)))  -- positive fixint
    else if nat_lt first 0x90 then Some (alone (map_head (first - 0x80)))  -- fixmap
    else if nat_lt first 0xa0 then Some (alone (array_head (first - 0x90)))  -- fixarray
    else if nat_lt first 0xc0 then Some (fixed (first - 0xa0) text)  -- fixstr
    else if nat_lt first 0xc2 then None  -- nil, never used
    else if nat_lt first 0xc4 then Some (alone (boolean (first == 0xc3)))  -- false, true
    else if nat_lt first 0xc7 then Some (counted (2 ^ (first - 0xc4)) binary)  -- bin 8 to 32
    else if nat_lt first 0xca then None  -- ext 8 to 32
    else if nat_lt first 0xcb then Some (numbered 4 float32)  -- float 32
    else if nat_lt first 0xcc then Some (numbered 8 float64)  -- float 64
    else if nat_lt first 0xd0 then Some (numbered (2 ^ (first - 0xcc)) unsigned)  -- uint 8 to 64
    else if nat_lt first 0xd4 then Some (fixed (2 ^ (first - 0xd0)) signed)  -- int 8 to 64
    else if nat_lt first 0xd9 then None  -- fixext
    else if nat_lt first 0xdc then Some (counted (2 ^ (first - 0xd9)) text)  -- str 8 to 32
    else if nat_lt first 0xde then Some (numbered (2 ^ (first - 0xdb)) array_head)  -- array 16, 32
    else if nat_lt first 0xe0 then Some (numbered (2 ^ (first - 0xdd)) map_head)  -- map 16, 32
    else if nat_lt first 0x100 then Some (alone (int (negsuc (255 - first))))  -- negative fixint
    else None

-- ---- spellings

-- these bytes are all that stands after a first byte of this format, and make this atom
abbrev pub Fills : Format → AtomValue → List ℕ → Type 0
Fills (fixed n make) atom bytes = (length bytes ≡ n) × (atom ≡ make bytes)
Fills (counted n make) atom bytes = (len : List ℕ) × (body : List ℕ) × (bytes ≡ len ++ body)
    × (length len ≡ n) × (number len ≡ length body) × (atom ≡ make body)

-- the bytes have the form of this atom, one whole format; a text may be any bytes here
pub record HasForm (atom : AtomValue) (bytes : List ℕ) : Type 0 where
  pub first : ℕ
  pub after : List ℕ
  pub format : Format
  pub whole : bytes ≡ first ∷ after
  pub format_is : format_of first ≡ Some format
  pub fills : Fills format atom after

-- a text is UTF-8
abbrev pub IsText : AtomValue → Type 0
IsText (text bs) = IsUtf8 bs
IsText atom = Unit {0}

-- the bytes spell this atom
pub record Spells (atom : AtomValue) (bytes : List ℕ) : Type 0 where
  pub form : HasForm atom bytes
  pub utf8 : IsText atom

-- ---- the shortest spelling

-- a length after a first byte: of 1, 2 or 4 bytes, each with a first byte of its own
abbrev pub length_spelling : ℕ → ℕ → ℕ → ℕ → List ℕ
length_spelling n in_one in_two in_four =
    if nat_lt n 0x100 then in_one ∷ n ∷ []
    else if nat_lt n 0x1_0000 then in_two ∷ to_be_bytes w16 n
    else in_four ∷ to_be_bytes w32 n

-- a head in one byte where the number is below 16, else with the number in 2 or 4 bytes
abbrev pub head_spelling : ℕ → ℕ → ℕ → ℕ → List ℕ
head_spelling n alone_from in_two in_four =
    if nat_lt n 16 then (alone_from + n) ∷ []
    else if nat_lt n 0x1_0000 then in_two ∷ to_be_bytes w16 n
    else in_four ∷ to_be_bytes w32 n

-- the shortest spelling of an atom ("Serialization: type to format conversion"): a whole number from
-- 0 on is positive fixint or unsigned, one below 0 negative fixint or signed, and a float has its
-- own width. `negsuc n` is -1 - n
unfoldable pub shortest : AtomValue → List ℕ
shortest (int (pos n)) =
    if nat_lt n 0x80 then n ∷ []
    else if nat_lt n 0x100 then 0xcc ∷ n ∷ []
    else if nat_lt n 0x1_0000 then 0xcd ∷ to_be_bytes w16 n
    else if nat_lt n 0x1_0000_0000 then 0xce ∷ to_be_bytes w32 n
    else 0xcf ∷ to_be_bytes w64 n
shortest (int (negsuc n)) =
    if nat_lt n 32 then (0xff - n) ∷ []
    else if nat_lt n 0x80 then 0xd0 ∷ (0xff - n) ∷ []
    else if nat_lt n 0x8000 then 0xd1 ∷ to_be_bytes w16 (0xffff - n)
    else if nat_lt n 0x8000_0000 then 0xd2 ∷ to_be_bytes w32 (0xffff_ffff - n)
    else 0xd3 ∷ to_be_bytes w64 (0xffff_ffff_ffff_ffff - n)
shortest (boolean b) = (if b then 0xc3 else 0xc2) ∷ []
shortest (float32 bits) = 0xca ∷ to_be_bytes w32 bits
shortest (float64 bits) = 0xcb ∷ to_be_bytes w64 bits
shortest (text bs) =
    if nat_lt (length bs) 32 then (0xa0 + length bs) ∷ bs
    else length_spelling (length bs) 0xd9 0xda 0xdb ++ bs
shortest (binary bs) = length_spelling (length bs) 0xc4 0xc5 0xc6 ++ bs
shortest (array_head n) = head_spelling n 0x90 0xdc 0xdd
shortest (map_head n) = head_spelling n 0x80 0xde 0xdf

-- the atoms that can be written: a whole number from -2^63 to 2^64 - 1, and lengths below 2^32
abbrev pub Fits : AtomValue → Type 0
Fits (int (pos n)) = n < 2 ^ 64
Fits (int (negsuc n)) = n < 2 ^ 63
Fits (text bs) = length bs < 2 ^ 32
Fits (binary bs) = length bs < 2 ^ 32
Fits atom = Unit {0}

-- what the types of the code say besides: a float's bits and a head's number are below the end of
-- their width, and a text is UTF-8
abbrev pub IsTyped : AtomValue → Type 0
IsTyped (float32 bits) = bits < 2 ^ 32
IsTyped (float64 bits) = bits < 2 ^ 64
IsTyped (text bs) = IsUtf8 bs
IsTyped (array_head n) = n < 2 ^ 32
IsTyped (map_head n) = n < 2 ^ 32
IsTyped atom = Unit {0}
