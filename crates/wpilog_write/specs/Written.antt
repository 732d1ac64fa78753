-- How a log is written: each number and each record in its shortest spelling.
use Rattle.std.specs.Prelude.{ℕ, ◌+◌, ◌-◌, ◌*◌, ◌^◌, ◌<◌, Bool, List, [], ◌∷◌, ◌++◌, length, take, nat_lt, if◌then◌else◌, ℤ}
use Rattle.std.specs.declared.option.Option.{Option}
use Rattle.std.specs.Io.KnownBytes.{Appends}
use Rattle.std.specs.List.{flat_map}
use Rattle.std.specs.Int.{w32, w64, bytes_low_first, to_le_bytes, cast_unsigned}
use Rattle.wpilog_write.specs.declared.item.LogItem.{LogItem}
use Rattle.wpilog_write.specs.declared.item.LogItem.TheVariants.{Start, Value, SetMeta, Finish}
use Rattle.wpilog_write.specs.declared.item.LogValue.{LogValue}
use Rattle.wpilog_write.specs.declared.item.LogValue.TheVariants.{Boolean, Int64, Float, Double, Bytes, Booleans, Int64s, Floats, Doubles, Strings}
use Rattle.wpilog_write.specs.Log.{magic, time_of}

-- ---- numbers

-- how many bytes a number of at most eight needs: at least one
abbrev pub least : ℕ → ℕ
least n =
    if nat_lt n (2 ^ 8) then 1
    else if nat_lt n (2 ^ 16) then 2
    else if nat_lt n (2 ^ 24) then 3
    else if nat_lt n (2 ^ 32) then 4
    else if nat_lt n (2 ^ 40) then 5
    else if nat_lt n (2 ^ 48) then 6
    else if nat_lt n (2 ^ 56) then 7
    else 8

-- a number in as few bytes
abbrev pub shortest : ℕ → List ℕ
shortest n = bytes_low_first 0 (least n) n

-- bytes after their length in four bytes
abbrev pub string : List ℕ → List ℕ
string text = to_le_bytes w32 (length text) ++ text

-- ---- the header

-- version 1.0, with this extra header
abbrev pub header_of : List ℕ → List ℕ
header_of extra = magic ++ (0 ∷ 1 ∷ string extra)

-- ---- payloads

abbrev pub boolean : Bool → List ℕ
boolean b = (if b then 1 else 0) ∷ []

unfoldable pub int64 : ℤ → List ℕ
int64 n = to_le_bytes w64 (cast_unsigned w64 n)

-- the payload of a value
abbrev pub value_payload : LogValue → List ℕ
value_payload (Boolean b) = boolean b
value_payload (Int64 n) = int64 n
value_payload (Float bits) = to_le_bytes w32 bits
value_payload (Double bits) = to_le_bytes w64 bits
value_payload (Bytes bytes) = bytes
value_payload (Booleans list) = flat_map boolean list
value_payload (Int64s list) = flat_map int64 list
value_payload (Floats list) = flat_map (to_le_bytes w32) list
value_payload (Doubles list) = flat_map (to_le_bytes w64) list
value_payload (Strings texts) = to_le_bytes w32 (length texts) ++ flat_map string texts

-- the payload of an item
abbrev pub payload_of : LogItem → List ℕ
payload_of (Start time id name typ meta) = 0 ∷ (to_le_bytes w32 id ++ (string name ++ (string typ ++ string meta)))
payload_of (Value time id value) = value_payload value
payload_of (SetMeta time id meta) = 2 ∷ (to_le_bytes w32 id ++ string meta)
payload_of (Finish time id) = 1 ∷ to_le_bytes w32 id

-- ---- records

-- a record with these numbers, each in its shortest spelling
abbrev pub record_with : ℕ → ℕ → List ℕ → List ℕ
record_with entry time payload =
    ((least entry - 1) + 4 * (least (length payload) - 1) + 16 * (least time - 1))
    ∷ (shortest entry ++ (shortest (length payload) ++ (shortest time ++ payload)))

-- the entry id that stands in an item's record: 0 of a control record
abbrev pub entry_of : LogItem → ℕ
entry_of (Value time id value) = id
entry_of (Start time id name typ meta) = 0
entry_of (SetMeta time id meta) = 0
entry_of (Finish time id) = 0

-- the record of an item
abbrev pub record_of : LogItem → List ℕ
record_of item = record_with (entry_of item) (time_of item) (payload_of item)

-- a whole log of these items
abbrev pub log_of : List ℕ → List LogItem → List ℕ
log_of extra items = header_of extra ++ flat_map record_of items

-- a log of these items without an extra header
abbrev pub log_text : List LogItem → List ℕ
log_text items = log_of [] items

-- ---- a write that failed

-- a sink took a prefix of what was to be written, and not all of it
pub record IsCut (bytes : List ℕ) (before now : Option (List ℕ)) : Type 0 where
  pub count : ℕ
  pub short : count < length bytes
  pub taken : Appends before now (take count bytes)
