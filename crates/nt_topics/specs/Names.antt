-- Names, and their limits in bytes.
use Rattle.std.specs.Prelude.{ℕ, Bool, false, List, [], ◌∷◌, ◌==◌, ◌&&◌, Option, Some, None, length, nat_lt, nat_le, if◌then◌else◌}

-- a text of 1 to so many bytes
abbrev pub limited : ℕ → List ℕ → Option (List ℕ)
limited most text = if nat_lt 0 (length text) && nat_le (length text) most then Some text else None

-- a topic's name has 1 to 1,024 bytes
abbrev pub topic_name : List ℕ → Option (List ℕ)
topic_name text = limited 1024 text

-- a type string has 1 to 1,024 bytes
abbrev pub type_name : List ℕ → Option (List ℕ)
type_name text = limited 1024 text

-- a special name begins with `$` (36)
abbrev pub is_special : List ℕ → Bool
is_special [] = false
is_special (b ∷ bytes) = b == 36
