-- Reading one unit from left to right, step by step, as the reader does: a fault that is known from fewer bytes is
-- found first. What the steps mean by the grammar is the matter of `reading_is_meaning`.
use Rattle.std.specs.Prelude.{◌≡◌, ℕ, zero, suc, ◌+◌, ◌/◌, ◌%◌, Bool, true, false, List, [], ◌∷◌, length, map, take, drop, Option, None, Some, Result, Ok, Err, nat_lt, nat_le, nat_eq, ◌==◌, ◌&&◌, not, slice_index, if◌then◌else◌}
use Rattle.std.specs.Int.{w64, cast_signed}
use Rattle.std.specs.List.{starts_with}
use Rattle.std.specs.Str.{is_utf8}
use Rattle.wpilog_write.specs.declared.item.LogItem.{LogItem}
use Rattle.wpilog_write.specs.declared.item.LogItem.TheVariants.{Start, Value, SetMeta, Finish}
use Rattle.wpilog_write.specs.declared.item.LogType.{LogType}
use Rattle.wpilog_write.specs.declared.item.LogType.TheVariants as types
use Rattle.wpilog_write.specs.declared.item.LogValue.{LogValue}
use Rattle.wpilog_write.specs.declared.item.LogValue.TheVariants.{Boolean, Int64, Float, Double, Bytes, Booleans, Int64s, Floats, Doubles, Strings}
use Rattle.wpilog_write.specs.Log.{most_bytes, most_live, number, magic, Head, Fields, Entries, type_of, is_live}
use Rattle.wpilog_read.specs.declared.fault.LogKind.{LogKind}
use Rattle.wpilog_read.specs.declared.fault.LogKind.TheVariants.{BadMagic, BadVersion, TooLarge, SpareBit, NotLive, ControlShort, UnknownControl, ControlLong, BadText, IdZero, StartTwice, TooManyLive, Misfit}
use Rattle.wpilog_read.specs.declared.fault.Stop.{Stop}
use Rattle.wpilog_read.specs.declared.fault.Stop.TheVariants.{Wanting, Known}
use Rattle.wpilog_read.specs.declared.fault.ReadError.{ReadError}
use Rattle.wpilog_read.specs.declared.fault.ReadError.TheVariants as errors

-- ---- steps, each of which gives a value or stops

infixl 10 ◌>>=◌
abbrev pub ◌>>=◌ : {A B : Type 0} → Result A Stop → (A → Result B Stop) → Result B Stop
(Ok x) >>= f = f x
(Err stop) >>= f = Err stop

-- an error of the code is where reading stopped, or want of memory
abbrev pub Fails : {Y : Type 0} → ReadError → Result Y Stop → Type 0
Fails errors.Memory read = Unit {0}
Fails (errors.Stop stop) read = read ≡ Err stop

-- what a function of the code returned, seen by `view`, is what reading gives, unless memory ran out
abbrev pub Gives : {X Y : Type 0} → (X → Y) → Result X ReadError → Result Y Stop → Type 0
Gives view (Ok x) read = read ≡ Ok (view x)
Gives view (Err e) read = Fails e read

-- goes on only where the test does not hold
abbrev pub unless : Bool → LogKind → Result (Unit {0}) Stop
unless test kind = if test then Err (Known kind) else Ok tt

-- n bytes and those after them; `stop` says what a missing byte means
abbrev pub bytes_at : Stop → ℕ → List ℕ → Result (List ℕ × List ℕ) Stop
bytes_at stop n bytes = if nat_lt (length bytes) n then Err stop else Ok (take n bytes, drop n bytes)

unfoldable pub number_at : Stop → ℕ → List ℕ → Result (ℕ × List ℕ) Stop
number_at stop n bytes = do
  field ← bytes_at stop n bytes
  Ok (number field.0, field.1)

-- bytes after their length in four bytes
unfoldable pub string_at : Stop → List ℕ → Result (List ℕ × List ℕ) Stop
string_at stop bytes = do
  len ← number_at stop 4 bytes
  bytes_at stop len.0 len.1

-- ---- the extra header, and the bytes after it

unfoldable pub header_at : List ℕ → Result (List ℕ × List ℕ) Stop
header_at bytes = do
  agrees ← unless (not (starts_with nat_eq magic (take 6 bytes))) BadMagic
  begin ← bytes_at Wanting 8 bytes
  major ← unless (not (slice_index begin.0 7 == 1)) BadVersion
  len ← number_at Wanting 4 begin.1
  small ← unless (nat_lt most_bytes len.0) TooLarge
  bytes_at Wanting len.0 len.1

-- ---- a record by its fields, and the bytes after it

unfoldable pub head_at : List ℕ → Result (Head × List ℕ) Stop
head_at [] = Err Wanting
head_at (first ∷ bytes) = do
  clear ← unless (nat_le 128 first) SpareBit
  entry ← number_at Wanting (first % 4 + 1) bytes
  size ← number_at Wanting (first / 4 % 4 + 1) entry.1
  time ← number_at Wanting (first / 16 % 8 + 1) size.1
  Ok (record { entry = entry.0; size = size.0; time = time.0 }, time.1)

unfoldable pub record_at : Entries → List ℕ → Result (Fields × List ℕ) Stop
record_at live bytes = do
  head ← head_at bytes
  small ← unless (nat_lt most_bytes head.0.size) TooLarge
  known ← unless (not (head.0.entry == 0) && not (is_live live head.0.entry)) NotLive
  payload ← bytes_at Wanting head.0.size head.1
  Ok (record { entry = head.0.entry; time = head.0.time; payload = payload.0 }, payload.1)

-- ---- what a whole record says

-- the payload of a control record ends before its fields do
abbrev pub short : Stop
short = Known ControlShort

-- the payload is none of its entry's type
abbrev pub misfit : Stop
misfit = Known Misfit

unfoldable pub text_of : List ℕ → Result (List ℕ) Stop
text_of bytes = if is_utf8 bytes then Ok bytes else Err (Known BadText)

-- the fields of a Start, after its first byte
pub record StartFields : Type 0 where
  pub id : ℕ
  pub name : List ℕ
  pub typ : List ℕ
  pub meta : List ℕ

unfoldable pub start_fields : List ℕ → Result StartFields Stop
start_fields bytes = do
  id ← number_at short 4 bytes
  name ← string_at short id.1
  typ ← string_at short name.1
  meta ← string_at short typ.1
  ended ← unless (not (length meta.1 == 0)) ControlLong
  Ok (record { id = id.0; name = name.0; typ = typ.0; meta = meta.0 })

unfoldable pub start_of : Entries → ℕ → List ℕ → Result LogItem Stop
start_of live time bytes = do
  fields ← start_fields bytes
  name ← text_of fields.name
  typ ← text_of fields.typ
  meta ← text_of fields.meta
  nonzero ← unless (fields.id == 0) IdZero
  new ← unless (is_live live fields.id) StartTwice
  room ← unless (nat_le most_live (length live)) TooManyLive
  Ok (Start time fields.id name typ meta)

unfoldable pub finish_of : Entries → ℕ → List ℕ → Result LogItem Stop
finish_of live time bytes = do
  id ← number_at short 4 bytes
  ended ← unless (not (length id.1 == 0)) ControlLong
  known ← unless (not (is_live live id.0)) NotLive
  Ok (Finish time id.0)

unfoldable pub set_meta_of : Entries → ℕ → List ℕ → Result LogItem Stop
set_meta_of live time bytes = do
  id ← number_at short 4 bytes
  meta ← string_at short id.1
  ended ← unless (not (length meta.1 == 0)) ControlLong
  text ← text_of meta.0
  known ← unless (not (is_live live id.0)) NotLive
  Ok (SetMeta time id.0 text)

unfoldable pub control_of : Entries → ℕ → List ℕ → Result LogItem Stop
control_of live time [] = Err short
control_of live time (kind ∷ bytes) =
    if kind == 0 then start_of live time bytes
    else if kind == 1 then finish_of live time bytes
    else if kind == 2 then set_meta_of live time bytes
    else Err (Known UnknownControl)

-- ---- values

-- a payload of this length, read so
abbrev pub of_length : ℕ → LogValue → List ℕ → Result LogValue Stop
of_length n value payload = if length payload == n then Ok value else Err misfit

-- a payload of a whole count of elements, read so
abbrev pub of_elements : ℕ → LogValue → List ℕ → Result LogValue Stop
of_elements n value payload = if length payload % n == 0 then Ok value else Err misfit

unfoldable pub boolean_of : ℕ → Result Bool Stop
boolean_of b = if b == 0 then Ok false else if b == 1 then Ok true else Err misfit

unfoldable pub booleans_of : List ℕ → Result (List Bool) Stop
booleans_of [] = Ok []
booleans_of (b ∷ bytes) = do
  first ← boolean_of b
  rest ← booleans_of bytes
  Ok (first ∷ rest)

-- so many numbers of n bytes, one after another
abbrev pub numbers : ℕ → ℕ → List ℕ → List ℕ
numbers n zero bytes = []
numbers n (suc count) bytes = number (take n bytes) ∷ numbers n count (drop n bytes)

-- so many texts, each after its length, and the bytes after them
unfoldable pub strings_at : ℕ → List ℕ → Result (List (List ℕ) × List ℕ) Stop
strings_at zero bytes = Ok ([], bytes)
strings_at (suc count) bytes = do
  first ← string_at misfit bytes
  rest ← strings_at count first.1
  Ok (first.0 ∷ rest.0, rest.1)

unfoldable pub strings_of : List ℕ → Result (List (List ℕ)) Stop
strings_of payload = do
  count ← number_at misfit 4 payload
  texts ← strings_at count.0 count.1
  ended ← unless (not (length texts.1 == 0)) Misfit
  Ok texts.0

unfoldable pub one_boolean : List ℕ → Result LogValue Stop
one_boolean [] = Err misfit
one_boolean (b ∷ []) = boolean_of b >>= λ truth. Ok (Boolean truth)
one_boolean (b ∷ c ∷ bytes) = Err misfit

-- a value of this type
unfoldable pub typed_value : LogType → List ℕ → Result LogValue Stop
typed_value types.Boolean payload = one_boolean payload
typed_value types.Int64 payload = of_length 8 (Int64 (cast_signed w64 (number payload))) payload
typed_value types.Float payload = of_length 4 (Float (number payload)) payload
typed_value types.Double payload = of_length 8 (Double (number payload)) payload
typed_value types.Booleans payload = booleans_of payload >>= λ truths. Ok (Booleans truths)
typed_value types.Int64s payload =
    of_elements 8 (Int64s (map (cast_signed w64) (numbers 8 (length payload / 8) payload))) payload
typed_value types.Floats payload = of_elements 4 (Floats (numbers 4 (length payload / 4) payload)) payload
typed_value types.Doubles payload = of_elements 8 (Doubles (numbers 8 (length payload / 8) payload)) payload
typed_value types.Strings payload = strings_of payload >>= λ texts. Ok (Strings texts)
typed_value types.Other payload = Ok (Bytes payload)

unfoldable pub value_of : Entries → ℕ → ℕ → List ℕ → Result LogItem Stop
value_of live time id payload = with_type (type_of live id) where
  with_type : Option LogType → Result LogItem Stop
  with_type None = Err (Known NotLive)
  with_type (Some typ) = typed_value typ payload >>= λ value. Ok (Value time id value)

-- what a whole record says where these entries are live
unfoldable pub item_of : Entries → Fields → Result LogItem Stop
item_of live fields =
    if fields.entry == 0 then control_of live fields.time fields.payload
    else value_of live fields.time fields.entry fields.payload
