-- The fields of a head, as names and values (RFC 9110, section 5).
use Rattle.std.specs.Prelude.{ℕ, Bool, false, ◌&&◌, ◌==◌, List, [], ◌∷◌, map, Option, None, Some, bytes_eq, if◌then◌else◌}
use Rattle.std.specs.Char.{to_ascii_lowercase}
use Rattle.std.specs.List.{list_any, slice_split}
use Rattle.httparse.specs.Grammar.{trim_ows}

-- a field: its name, and its value without the blanks at both ends
abbrev pub Field : Type 0
Field = List ℕ × List ℕ

-- two words are the same but for the case of ASCII letters
unfoldable pub is_same_word : List ℕ → List ℕ → Bool
is_same_word a b = bytes_eq (map to_ascii_lowercase a) (map to_ascii_lowercase b)

-- the members of a list, which stand between commas (44), without the blanks at both ends (section 5.6.1)
unfoldable pub members : List ℕ → List (List ℕ)
members value = map trim_ows (slice_split (λ b. b == 44) value)

-- a list has this word as a member, in any case
abbrev pub has_word : List ℕ → List ℕ → Bool
has_word value word = list_any (λ m. is_same_word m word) (members value)

-- a list has this member
abbrev pub has_member : List ℕ → List ℕ → Bool
has_member value member = list_any (λ m. bytes_eq m member) (members value)

-- a field of this name lists this word, in any case. The names of fields are compared in any case (section 5.1), and
-- the lists of one name count together (section 5.3)
abbrev pub list_word : List ℕ → List ℕ → List Field → Bool
list_word name word fields = list_any (λ f. is_same_word f.0 name && has_word f.1 word) fields

-- a field of this name lists this member
abbrev pub list_member : List ℕ → List ℕ → List Field → Bool
list_member name member fields = list_any (λ f. is_same_word f.0 name && has_member f.1 member) fields

-- the values of the fields of this name
abbrev pub values_of : List ℕ → List Field → List (List ℕ)
values_of name [] = []
values_of name (f ∷ fields) = if is_same_word f.0 name then f.1 ∷ values_of name fields else values_of name fields

-- the one of a list that has just one
abbrev pub only_of : List (List ℕ) → Option (List ℕ)
only_of [] = None
only_of (value ∷ []) = Some value
only_of (value ∷ other ∷ values) = None

-- the value of the field of this name, where there is exactly one such field
abbrev pub only_value : List ℕ → List Field → Option (List ℕ)
only_value name fields = only_of (values_of name fields)

-- there is a value, and it is this text
abbrev pub is_text : List ℕ → Option (List ℕ) → Bool
is_text text None = false
is_text text (Some found) = bytes_eq found text

-- there is exactly one field of this name, and this is its value
abbrev pub is_only : List ℕ → List ℕ → List Field → Bool
is_only name value fields = is_text value (only_value name fields)
