-- The state of a writer, and what becomes of an item that is put.
use Rattle.std.specs.Prelude.{ℕ, Bool, List, length, Option, Some, None, nat_lt, nat_le, ◌==◌, if◌then◌else◌}
use Rattle.wpilog_write.specs.declared.item.LogItem.{LogItem}
use Rattle.wpilog_write.specs.declared.item.LogItem.TheVariants.{Start, Value, SetMeta, Finish}
use Rattle.wpilog_write.specs.declared.item.LogType.{LogType}
use Rattle.wpilog_write.specs.declared.item.LogType.TheVariants as types
use Rattle.wpilog_write.specs.declared.item.LogValue.{LogValue}
use Rattle.wpilog_write.specs.declared.refused.WriteRefused.{WriteRefused}
use Rattle.wpilog_write.specs.declared.refused.WriteRefused.TheVariants.{IdZero, NotLive, Live, TooManyLive, Misfit, TooLarge, Failed}
use Rattle.wpilog_write.specs.Log.{most_bytes, most_live, Entries, type_of, is_live, value_type}
use Rattle.wpilog_write.specs.Written.{payload_of}

-- a writer: its sink, the live entries, and whether a write failed
pub record Writing (S : Type 0) : Type 0 where
  pub sink : S
  pub live : Entries
  pub failed : Bool

-- ---- what is refused before anything is written

-- a number for each type
abbrev pub type_number : LogType → ℕ
type_number types.Boolean = 0
type_number types.Int64 = 1
type_number types.Float = 2
type_number types.Double = 3
type_number types.Booleans = 4
type_number types.Int64s = 5
type_number types.Floats = 6
type_number types.Doubles = 7
type_number types.Strings = 8
type_number types.Other = 9

-- a value of an entry of this type or of none
abbrev pub misfit : Option LogType → LogValue → Option WriteRefused
misfit None value = Some NotLive
misfit (Some typ) value = if type_number (value_type value) == type_number typ then None else Some Misfit

-- an item that may not come where these entries are live
abbrev pub out_of_place : Entries → LogItem → Option WriteRefused
out_of_place live (Start time id name typ meta) =
    if id == 0 then Some IdZero
    else if is_live live id then Some Live
    else if nat_le most_live (length live) then Some TooManyLive
    else None
out_of_place live (Value time id value) = misfit (type_of live id) value
out_of_place live (SetMeta time id meta) = if is_live live id then None else Some NotLive
out_of_place live (Finish time id) = if is_live live id then None else Some NotLive

-- a payload past the limit
abbrev pub too_large : List ℕ → Option WriteRefused
too_large payload = if nat_lt most_bytes (length payload) then Some TooLarge else None

-- the first of two that is a refusal
abbrev pub first_of : Option WriteRefused → Option WriteRefused → Option WriteRefused
first_of (Some refused) other = Some refused
first_of None other = other

-- why an item is refused where these entries are live, if it is
abbrev pub refusal : Entries → LogItem → Option WriteRefused
refusal live item = first_of (out_of_place live item) (too_large (payload_of item))

-- why a writer refuses an item, if it does
abbrev pub cause : {S : Type 0} → Writing S → LogItem → Option WriteRefused
cause w item = if w.failed then Some Failed else refusal w.live item
