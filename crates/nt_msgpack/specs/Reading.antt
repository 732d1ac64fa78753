-- What stands at the start of bytes: an atom, too few bytes, or no atom.
-- The names in quotes are sections of the MessagePack specification.
use Rattle.std.specs.Prelude.{◌≡◌, ℕ, ◌+◌, ◌<◌, nat_lt, List, [], ◌∷◌, ◌++◌, length, take, drop, Option, None, Some, IsSomeAnd, ◌⊎◌, if◌then◌else◌}
use Rattle.std.specs.Str.{IsUtf8, is_utf8}
use Rattle.nt_msgpack.specs.Atoms.{AtomValue, text, number, Format, fixed, counted, format_of, HasForm, value_of}
use Rattle.nt_msgpack.specs.declared.atom.AtomRead.{AtomRead}
use Rattle.nt_msgpack.specs.declared.atom.AtomRead.TheVariants as answers

-- what reading an atom answers: the atom with the number of bytes that spell it, too few bytes, or
-- the first byte of no atom
pub data Reading : Type 0 where
  got : AtomValue → ℕ → Reading
  short : Reading
  bad : ℕ → Reading

-- an answer of the code
abbrev pub reading_of : AtomRead → Reading
reading_of (answers.Got atom used) = got (value_of atom) used
reading_of answers.Short = short
reading_of (answers.Bad byte) = bad byte

-- an answer of the code, where none is for too few bytes
abbrev pub answer_of : Option AtomRead → Reading
answer_of None = short
answer_of (Some answer) = reading_of answer

-- ---- too few bytes, and no atom

-- how many bytes a format states after its first byte. Where the length itself isn't all there, that
-- is more than are there, whatever the length is
abbrev pub stated : Format → List ℕ → ℕ
stated (fixed n make) bytes = n
stated (counted n make) bytes = n + number (take n bytes)

-- nothing is there, or the first byte is that of a format whose stated bytes aren't all there
abbrev pub IsShort : List ℕ → Type 0
IsShort [] = Unit {0}
IsShort (first ∷ bytes) = IsSomeAnd (format_of first) (λ format. length bytes < stated format bytes)

-- the start of the bytes has the form of a text and isn't UTF-8
pub record BeginsNoText (bytes : List ℕ) : Type 0 where
  pub prefix : List ℕ
  pub rest : List ℕ
  pub body : List ℕ
  pub whole : bytes ≡ prefix ++ rest
  pub form : HasForm (text body) prefix
  pub not_utf8 : ¬ (IsUtf8 body)

-- the bytes begin with this byte, which is that of no format, or that of a whole text that isn't
-- UTF-8
pub record IsBad (bytes : List ℕ) (first : ℕ) : Type 0 where
  pub rest : List ℕ
  pub whole : bytes ≡ first ∷ rest
  pub cause : (format_of first ≡ None) ⊎ BeginsNoText bytes

-- ---- reading, from left to right

-- an atom that is all there, a text only where it is UTF-8
abbrev pub checked : ℕ → AtomValue → ℕ → Reading
checked first (text bs) used = if is_utf8 bs then got (text bs) used else bad first
checked first atom used = got atom used

-- so many bytes, and the atom that they make
abbrev pub fixed_at : ℕ → ℕ → (List ℕ → AtomValue) → List ℕ → ℕ → Reading
fixed_at first n make bytes before =
    if nat_lt (length bytes) n then short else checked first (make (take n bytes)) (before + n)

-- what is after a first byte of this format
abbrev pub format_at : ℕ → Format → List ℕ → Reading
format_at first (fixed n make) bytes = fixed_at first n make bytes 1
format_at first (counted n make) bytes =
    if nat_lt (length bytes) n then short
    else fixed_at first (number (take n bytes)) make (drop n bytes) (1 + n)

-- what is after a first byte
abbrev pub after_first : ℕ → Option Format → List ℕ → Reading
after_first first None bytes = bad first
after_first first (Some format) bytes = format_at first format bytes

-- what stands at the start of bytes
unfoldable pub atom_at : List ℕ → Reading
atom_at [] = short
atom_at (first ∷ bytes) = after_first first (format_of first) bytes
