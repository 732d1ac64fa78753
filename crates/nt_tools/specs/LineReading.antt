-- Reading the lines of a source.
use Rattle.std.specs.Prelude.{◌≡◌, ℕ, Bool, true, false, ◌==◌, ◌+◌, ◌<◌, ◌≤◌, List, [], ◌∷◌, ◌++◌, length, take, Result, Ok, Err}
use Rattle.std.specs.List.{list_any}
use Rattle.std.specs.declared.option.Option.{Option}
use Rattle.std.specs.Io.KnownBytes.{Consumes}
use Rattle.nt_tools.specs.declared.line.LineEnd.{LineEnd}
use Rattle.nt_tools.specs.declared.line.LineEnd.TheVariants.{Feed, Input}
use Rattle.nt_tools.specs.declared.line.LineFault.{LineFault}

-- the most bytes of a line, without its line feed
abbrev pub most_line : ℕ
most_line = 1_048_576

-- a line feed
abbrev pub is_feed : ℕ → Bool
is_feed b = b == 10

-- these bytes have no line feed
abbrev pub IsUnbroken : List ℕ → Type 0
IsUnbroken bytes = list_any is_feed bytes ≡ false

-- what a reader of lines has: the bytes that it took of its source and hasn't given, and how many more it may give
pub record Ahead : Type 0 where
  pub bytes : List ℕ
  pub room : ℕ

-- bytes went from what was ahead to a line, and then a line feed, where one came: what was ahead and what was taken of
-- the source meanwhile is these bytes, the line feed and what is ahead now
pub record Gives (old new : Ahead) (taken bytes feed : List ℕ) : Type 0 where
  pub whole : old.bytes ++ taken ≡ bytes ++ (feed ++ new.bytes)
  pub room : old.room ≡ length bytes + (length feed + new.room)
  pub unbroken : IsUnbroken bytes

-- the line feed, where it came
abbrev pub feed_if : Bool → List ℕ
feed_if true = 10 ∷ []
feed_if false = []

-- the same by what a call answered
abbrev pub feed_gathered : Result Bool LineFault → List ℕ
feed_gathered (Ok came) = feed_if came
feed_gathered (Err fault) = []

abbrev pub feed_read : Result LineEnd LineFault → List ℕ
feed_read (Ok Feed) = 10 ∷ []
feed_read (Ok Input) = []
feed_read (Err fault) = []

-- a line was added to what was ahead
pub record Gathers (old new : Ahead) (before now feed : List ℕ) : Type 0 where
  pub part : List ℕ
  pub line : now ≡ before ++ part
  pub gives : Gives old new [] part feed

-- a line, or its prefix where none is answered, was read
pub record Reads (before now : Option (List ℕ)) (old new : Ahead) (line feed : List ℕ) : Type 0 where
  pub taken : List ℕ
  pub consumes : Consumes before now taken
  pub gives : Gives old new taken line feed
  pub short : length line ≤ most_line

-- so many more bytes of the line are ahead, within the room, that it has more than a line may have
pub record IsTooLong (line : List ℕ) (now : Ahead) : Type 0 where
  pub count : ℕ
  pub there : count ≤ length now.bytes
  pub within : count ≤ now.room
  pub unbroken : IsUnbroken (take count now.bytes)
  pub beyond : most_line < length line + count
