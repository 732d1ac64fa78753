-- Where a head ends (RFC 9112, sections 2.1 and 2.2): with the first empty line that follows a line which isn't empty.
use Rattle.std.specs.Prelude.{◌≡◌, ℕ, ◌<◌, ◌≤◌, Bool, true, false, not, ◌==◌, ◌||◌, List, [], ◌∷◌, ◌++◌, length, bytes_eq, if◌then◌else◌, flat_map}
use Rattle.std.specs.List.{AllByRecursion, list_any}
use Rattle.std.specs.declared.option.Option.{Option}
use Rattle.std.specs.Io.KnownBytes.{Consumes, IsAtEnd}
use Rattle.nt_ws.specs.declared.fault.HeadFault.{HeadFault}
use Rattle.nt_ws.specs.declared.fault.HeadFault.TheVariants.{Read, Write, TooLong, NotHttp, NotUpgrade, BadPath, NoProtocol, BadKey, Memory}

-- the most bytes of a head
abbrev pub most_bytes : ℕ
most_bytes = 8192

-- a line without its line feed (10)
abbrev pub IsLine : List ℕ → Type 0
IsLine line = list_any (λ b. b == 10) line ≡ false

-- a line is empty where nothing or one CR (13) stands before its line feed
abbrev pub is_empty_line : List ℕ → Bool
is_empty_line line = bytes_eq line [] || bytes_eq line (13 ∷ [])

-- the bytes of lines
abbrev pub print_lines : List (List ℕ) → List ℕ
print_lines lines = flat_map (λ line. line ++ 10 ∷ []) lines

-- there are none
abbrev pub are_none : List (List ℕ) → Bool
are_none [] = true
are_none (line ∷ lines) = false

-- lines that aren't empty, and then one that is
abbrev pub end_in_empty : List (List ℕ) → Bool
end_in_empty [] = false
end_in_empty (line ∷ lines) = if is_empty_line line then are_none lines else end_in_empty lines

-- empty lines, where there are any, at least one that isn't empty, and then one that is
abbrev pub are_head : List (List ℕ) → Bool
are_head [] = false
are_head (line ∷ lines) = if is_empty_line line then are_head lines else end_in_empty lines

-- the bytes are those of a head's lines
pub record IsHead (bytes : List ℕ) : Type 0 where
  pub lines : List (List ℕ)
  pub are_lines : AllByRecursion IsLine lines
  pub printed : bytes ≡ print_lines lines
  pub shape : are_head lines ≡ true

-- no front of these bytes is a head
abbrev pub HasNoHead : List ℕ → Type 0
HasNoHead bytes = (head rest : List ℕ) → IsHead head → bytes ≡ head ++ rest → ⊥

-- why these bytes, which a source gave, and of which this is left, brought no head
abbrev pub BringsNone : HeadFault → List ℕ → Option (List ℕ) → Type 0
BringsNone Read taken left = HasNoHead taken × (length taken < most_bytes)
BringsNone NotHttp taken left = HasNoHead taken × (length taken < most_bytes) × IsAtEnd left
BringsNone TooLong taken left = HasNoHead taken × (length taken ≡ most_bytes)
BringsNone Memory taken left = length taken ≤ most_bytes
BringsNone Write taken left = ⊥
BringsNone NotUpgrade taken left = ⊥
BringsNone BadPath taken left = ⊥
BringsNone NoProtocol taken left = ⊥
BringsNone BadKey taken left = ⊥

-- a source gave no head, for this cause
pub record GivesNone (before now : Option (List ℕ)) (fault : HeadFault) : Type 0 where
  pub taken : List ℕ
  pub consumed : Consumes before now taken
  pub cause : BringsNone fault taken now

-- lines that aren't empty
abbrev pub have_text : List (List ℕ) → Bool
have_text [] = true
have_text (line ∷ lines) = if is_empty_line line then false else have_text lines

-- empty lines, and then lines that aren't: no line ends a head yet
abbrev pub are_open : List (List ℕ) → Bool
are_open [] = true
are_open (line ∷ lines) = if is_empty_line line then are_open lines else have_text lines

-- one of the lines isn't empty
abbrev pub have_begun : List (List ℕ) → Bool
have_begun lines = list_any (λ line. not (is_empty_line line)) lines

-- the bytes of a head so far: whole lines, none of which ends it, and from this place on the line that isn't whole
pub record IsBegun (bytes : List ℕ) (place : ℕ) (begun : Bool) : Type 0 where
  pub lines : List (List ℕ)
  pub line : List ℕ
  pub are_lines : AllByRecursion IsLine lines
  pub is_line : IsLine line
  pub printed : bytes ≡ print_lines lines ++ line
  pub placed : place ≡ length (print_lines lines)
  pub open_ : are_open lines ≡ true
  pub begun_ : have_begun lines ≡ begun

-- the bytes after one more: a whole head, or one that goes on
abbrev pub GoesOn : Bool → List ℕ → ℕ → Bool → Type 0
GoesOn true bytes place begun = IsHead bytes
GoesOn false bytes place begun = IsBegun bytes place begun
