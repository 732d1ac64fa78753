-- What a tool reads of its source.
use Rattle.std.specs.Prelude.{◌≡◌, ℕ, Bool, true, false, List, []}
use Rattle.std.specs.declared.option.Option.{Option}
use Rattle.std.specs.Io.KnownBytes.{Consumes, IsAtEnd}

-- the most bytes that a tool reads
abbrev pub most_bytes : ℕ
most_bytes = 1_099_511_627_776

-- the most bytes that a tool asks its source for at a time
abbrev pub piece_bytes : ℕ
piece_bytes = 65_536

-- ---- what was taken of the source

-- these bytes were taken of the source, and are all that it had, where that is known
pub record Took (before now : Option (List ℕ)) (taken : List ℕ) (all : Bool) : Type 0 where
  pub consumes : Consumes before now taken
  pub ended : all ≡ true → IsAtEnd now

-- what may stand after the bytes that were taken: nothing, where they are all
abbrev pub MayFollow : Bool → List ℕ → Type 0
MayFollow true more = more ≡ []
MayFollow false more = Unit {0}
