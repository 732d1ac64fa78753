-- What is asked of items that are written, and what has been written of a log.
use Rattle.std.specs.Prelude.{◌≡◌, ℕ, ◌^◌, ◌<◌, ◌≤◌, List, [], length, All, FitsSigned, Option}
use Rattle.std.specs.Int.{w64}
use Rattle.std.specs.Io.KnownBytes.{Appends}
use Rattle.std.specs.List.{fold}
use Rattle.std.specs.Str.{IsUtf8}
use Rattle.wpilog_write.specs.declared.item.LogItem.{LogItem}
use Rattle.wpilog_write.specs.declared.item.LogItem.TheVariants.{Start, Value, SetMeta, Finish}
use Rattle.wpilog_write.specs.declared.item.LogValue.{LogValue}
use Rattle.wpilog_write.specs.declared.item.LogValue.TheVariants.{Boolean, Int64, Float, Double, Bytes, Booleans, Int64s, Floats, Doubles, Strings}
use Rattle.wpilog_write.specs.Log.{most_bytes, Entries, live_after, Live}
use Rattle.wpilog_write.specs.Written.{payload_of, log_of}

-- each is a byte
abbrev pub AreBytes : List ℕ → Type 0
AreBytes bytes = All (λ b. b < 256) bytes

-- ---- items

-- a value whose numbers fit their types
abbrev pub FitsValue : LogValue → Type 0
FitsValue (Boolean b) = Unit {0}
FitsValue (Int64 n) = FitsSigned w64 n
FitsValue (Float bits) = bits < 2 ^ 32
FitsValue (Double bits) = bits < 2 ^ 64
FitsValue (Bytes bytes) = Unit {0}
FitsValue (Booleans list) = Unit {0}
FitsValue (Int64s list) = All (FitsSigned w64) list
FitsValue (Floats list) = All (λ bits. bits < 2 ^ 32) list
FitsValue (Doubles list) = All (λ bits. bits < 2 ^ 64) list
FitsValue (Strings texts) = Unit {0}

-- an item whose numbers and texts fit their types, as those of every item in a program do
abbrev pub FitsTypes : LogItem → Type 0
FitsTypes (Start time id name typ meta) = (time < 2 ^ 64) × (id < 2 ^ 32) × IsUtf8 name × IsUtf8 typ × IsUtf8 meta
FitsTypes (Value time id value) = (time < 2 ^ 64) × (id < 2 ^ 32) × FitsValue value
FitsTypes (SetMeta time id meta) = (time < 2 ^ 64) × (id < 2 ^ 32) × IsUtf8 meta
FitsTypes (Finish time id) = (time < 2 ^ 64) × (id < 2 ^ 32)

-- an item whose payload is within its limit
abbrev pub IsWithin : LogItem → Type 0
IsWithin item = length (payload_of item) ≤ most_bytes

-- ---- what has been written

-- the entries that are live after items
abbrev pub live_behind : List LogItem → Entries
live_behind items = fold live_after [] items

-- since it had taken `before`, a sink took the log of these items, which are lawful, and these entries are live
pub record HasWritten (before now : Option (List ℕ)) (extra : List ℕ) (items : List LogItem) (live : Entries) : Type 0 where
  pub extra_within : length extra ≤ most_bytes
  pub within : All IsWithin items
  pub fit : All FitsTypes items
  pub may_come : Live items
  pub live_is : live ≡ live_behind items
  pub taken : Appends before now (log_of extra items)
