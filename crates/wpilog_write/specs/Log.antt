-- The grammar of a WPILOG data log: how its header and records are spelled, what a record says, and which may
-- follow which. The names in quotes are sections of the WPILib Data Log File Format Specification, Version 1.0.
-- A byte is a number.
use Rattle.std.specs.Prelude.{◌≡◌, ◌≢◌, ℕ, ◌+◌, ◌*◌, ◌/◌, ◌%◌, ◌<◌, ◌≤◌, Bool, true, false, List, [], ◌∷◌, ◌++◌, length, codes, unwrap_or, Option, Some, is_some, ℤ}
use Rattle.std.specs.Int.{w64, cast_signed}
use Rattle.std.specs.Str.{IsUtf8, bytes_eq}
use Rattle.std.specs.Ordering.{nat_cmp}
use Rattle.std.specs.Map.{lookup, remove_entry}
use Rattle.std.specs.BTreeMap.{insert_entry, is_at}
use Rattle.wpilog_write.specs.declared.item.LogItem.{LogItem}
use Rattle.wpilog_write.specs.declared.item.LogItem.TheVariants.{Start, Value, SetMeta, Finish}
use Rattle.wpilog_write.specs.declared.item.LogType.{LogType}
use Rattle.wpilog_write.specs.declared.item.LogType.TheVariants as types
use Rattle.wpilog_write.specs.declared.item.LogValue.{LogValue}
use Rattle.wpilog_write.specs.declared.item.LogValue.TheVariants.{Boolean, Int64, Float, Double, Bytes, Booleans, Int64s, Floats, Doubles, Strings}

-- ---- limits, which are this product's own

-- the most bytes of a payload, and of an extra header
abbrev pub most_bytes : ℕ
most_bytes = 16_777_216

-- the most entries that are live at a time
abbrev pub most_live : ℕ
most_live = 65_536

-- ---- "Design": numbers and texts

-- the number that bytes spell, the least byte first
abbrev pub number : List ℕ → ℕ
number [] = 0
number (b ∷ bs) = b + 256 * number bs

-- a number in so many bytes
pub record IsNumber (len : ℕ) (field : List ℕ) (n : ℕ) : Type 0 where
  pub len_is : length field ≡ len
  pub value : number field ≡ n

-- bytes after their length in four bytes, as a text is spelled
pub record IsString (bytes text : List ℕ) : Type 0 where
  pub len : List ℕ
  pub len_is : IsNumber 4 len (length text)
  pub whole : bytes ≡ len ++ text

-- ---- "Header"

-- `WPILOG`, any minor version, the major version 1, and the extra header after its length
abbrev pub magic : List ℕ
magic = codes "WPILOG"

pub record IsHeader (bytes extra : List ℕ) : Type 0 where
  pub minor : ℕ
  pub len : List ℕ
  pub len_is : IsNumber 4 len (length extra)
  pub within : length extra ≤ most_bytes
  pub whole : bytes ≡ magic ++ (minor ∷ 1 ∷ (len ++ extra))

-- ---- "Records"

-- the first byte of a record: bits 0 and 1 are the length of the entry id less 1, bits 2 and 3 that of the payload size,
-- bits 4 to 6 that of the timestamp, and bit 7 is clear
pub record IsBitfield (first entry_len size_len time_len : ℕ) : Type 0 where
  pub entry_is : entry_len ≡ first % 4 + 1
  pub size_is : size_len ≡ first / 4 % 4 + 1
  pub time_is : time_len ≡ first / 16 % 8 + 1
  pub clear : first < 128

-- what stands before a payload: the entry id, the payload's size and the timestamp
pub record Head : Type 0 where
  pub entry : ℕ
  pub size : ℕ
  pub time : ℕ

-- the head of a record, its three numbers of any length
pub record IsHead (bytes : List ℕ) (head : Head) : Type 0 where
  pub first : ℕ
  pub entry : List ℕ
  pub size : List ℕ
  pub time : List ℕ
  pub first_is : IsBitfield first (length entry) (length size) (length time)
  pub entry_is : number entry ≡ head.entry
  pub size_is : number size ≡ head.size
  pub time_is : number time ≡ head.time
  pub whole : bytes ≡ first ∷ (entry ++ (size ++ time))

-- what the fields of a record hold
pub record Fields : Type 0 where
  pub entry : ℕ
  pub time : ℕ
  pub payload : List ℕ

-- one whole record
pub record IsRecord (bytes : List ℕ) (fields : Fields) : Type 0 where
  pub head : List ℕ
  pub head_is : IsHead head (record { entry = fields.entry; size = length fields.payload; time = fields.time })
  pub whole : bytes ≡ head ++ fields.payload

-- ---- "Control Records"

-- "Start"
pub record IsStart (payload : List ℕ) (id : ℕ) (name typ meta : List ℕ) : Type 0 where
  pub id_at : List ℕ
  pub name_at : List ℕ
  pub typ_at : List ℕ
  pub meta_at : List ℕ
  pub id_is : IsNumber 4 id_at id
  pub name_is : IsString name_at name
  pub typ_is : IsString typ_at typ
  pub meta_is : IsString meta_at meta
  pub whole : payload ≡ 0 ∷ (id_at ++ (name_at ++ (typ_at ++ meta_at)))

-- "Finish"
pub record IsFinish (payload : List ℕ) (id : ℕ) : Type 0 where
  pub id_at : List ℕ
  pub id_is : IsNumber 4 id_at id
  pub whole : payload ≡ 1 ∷ id_at

-- "Set Metadata"
pub record IsSetMeta (payload : List ℕ) (id : ℕ) (meta : List ℕ) : Type 0 where
  pub id_at : List ℕ
  pub meta_at : List ℕ
  pub id_is : IsNumber 4 id_at id
  pub meta_is : IsString meta_at meta
  pub whole : payload ≡ 2 ∷ (id_at ++ meta_at)

-- ---- "Data Types"

-- the types that have a payload of their own, by their type strings
abbrev pub types_named : List (List ℕ × LogType)
types_named = (codes "boolean", types.Boolean) ∷ (codes "int64", types.Int64) ∷ (codes "float", types.Float)
    ∷ (codes "double", types.Double) ∷ (codes "boolean[]", types.Booleans) ∷ (codes "int64[]", types.Int64s)
    ∷ (codes "float[]", types.Floats) ∷ (codes "double[]", types.Doubles) ∷ (codes "string[]", types.Strings) ∷ []

-- the type that a type string names: `raw`, `string`, `json` and any other are bytes
abbrev pub type_named : List ℕ → LogType
type_named name = unwrap_or (lookup (bytes_eq name) types_named) types.Other

-- the type that a value is of
abbrev pub value_type : LogValue → LogType
value_type (Boolean b) = types.Boolean
value_type (Int64 n) = types.Int64
value_type (Float bits) = types.Float
value_type (Double bits) = types.Double
value_type (Bytes bytes) = types.Other
value_type (Booleans list) = types.Booleans
value_type (Int64s list) = types.Int64s
value_type (Floats list) = types.Floats
value_type (Doubles list) = types.Doubles
value_type (Strings list) = types.Strings

-- a truth value is one byte, 0 or 1
abbrev pub IsBoolean : List ℕ → Bool → Type 0
IsBoolean bytes false = bytes ≡ 0 ∷ []
IsBoolean bytes true = bytes ≡ 1 ∷ []

abbrev pub IsInt64 : List ℕ → ℤ → Type 0
IsInt64 bytes n = (length bytes ≡ 8) × (n ≡ cast_signed w64 (number bytes))

-- elements one after another
abbrev pub AreInRow : {T : Type 0} → (List ℕ → T → Type 0) → List ℕ → List T → Type 0
AreInRow spells bytes [] = bytes ≡ []
AreInRow spells bytes (x ∷ xs) = (first : List ℕ) × (rest : List ℕ) × (bytes ≡ first ++ rest)
    × spells first x × AreInRow spells rest xs

-- texts after their count in four bytes; nothing asks that they are UTF-8
pub record AreStrings (payload : List ℕ) (texts : List (List ℕ)) : Type 0 where
  pub count : List ℕ
  pub rest : List ℕ
  pub count_is : IsNumber 4 count (length texts)
  pub texts_are : AreInRow IsString rest texts
  pub whole : payload ≡ count ++ rest

-- the payload of a value
abbrev pub IsPayload : List ℕ → LogValue → Type 0
IsPayload payload (Boolean b) = IsBoolean payload b
IsPayload payload (Int64 n) = IsInt64 payload n
IsPayload payload (Float bits) = IsNumber 4 payload bits
IsPayload payload (Double bits) = IsNumber 8 payload bits
IsPayload payload (Bytes bytes) = payload ≡ bytes
IsPayload payload (Booleans list) = AreInRow IsBoolean payload list
IsPayload payload (Int64s list) = AreInRow IsInt64 payload list
IsPayload payload (Floats list) = AreInRow (IsNumber 4) payload list
IsPayload payload (Doubles list) = AreInRow (IsNumber 8) payload list
IsPayload payload (Strings texts) = AreStrings payload texts

-- ---- live entries: an entry is live from its Start to its Finish

-- the live entries with their types, by rising id
abbrev pub Entries : Type 0
Entries = List (ℕ × LogType)

abbrev pub type_of : Entries → ℕ → Option LogType
type_of live id = lookup (is_at (nat_cmp id)) live

abbrev pub is_live : Entries → ℕ → Bool
is_live live id = is_some (type_of live id)

-- the live entries after an item
abbrev pub live_after : Entries → LogItem → Entries
live_after live (Start time id name typ meta) = insert_entry nat_cmp live id (type_named typ)
live_after live (Value time id value) = live
live_after live (SetMeta time id meta) = live
live_after live (Finish time id) = remove_entry (is_at (nat_cmp id)) live

-- an item that may come where these entries are live
abbrev pub MayCome : Entries → LogItem → Type 0
MayCome live (Start time id name typ meta) = (id ≢ 0) × (is_live live id ≡ false) × (length live < most_live)
MayCome live (Value time id value) = type_of live id ≡ Some (value_type value)
MayCome live (SetMeta time id meta) = is_live live id ≡ true
MayCome live (Finish time id) = is_live live id ≡ true

-- these items may come one after another, the first where these entries are live
abbrev pub MayComeAll : Entries → List LogItem → Type 0
MayComeAll live [] = Unit {0}
MayComeAll live (item ∷ items) = MayCome live item × MayComeAll (live_after live item) items

-- each Start is of an id that isn't 0 and isn't live, and of less than the most live entries; all else is of a live
-- id, and of its type
abbrev pub Live : List LogItem → Type 0
Live items = MayComeAll [] items

-- ---- items

-- a record with these fields says this item, whatever bytes its texts are
abbrev pub Says : Fields → LogItem → Type 0
Says fields (Start time id name typ meta) = (fields.entry ≡ 0) × (fields.time ≡ time)
    × IsStart fields.payload id name typ meta
Says fields (Value time id value) = (fields.entry ≡ id) × (id ≢ 0) × (fields.time ≡ time)
    × IsPayload fields.payload value
Says fields (SetMeta time id meta) = (fields.entry ≡ 0) × (fields.time ≡ time)
    × IsSetMeta fields.payload id meta
Says fields (Finish time id) = (fields.entry ≡ 0) × (fields.time ≡ time)
    × IsFinish fields.payload id

-- the timestamp of an item
abbrev pub time_of : LogItem → ℕ
time_of (Start time id name typ meta) = time
time_of (Value time id value) = time
time_of (SetMeta time id meta) = time
time_of (Finish time id) = time

-- the name, the type string and the metadata of an item are UTF-8; nothing is asked of a value
abbrev pub HasTexts : LogItem → Type 0
HasTexts (Start time id name typ meta) = IsUtf8 name × IsUtf8 typ × IsUtf8 meta
HasTexts (Value time id value) = Unit {0}
HasTexts (SetMeta time id meta) = IsUtf8 meta
HasTexts (Finish time id) = Unit {0}

-- a lawful record: of an item that may come, with a payload within its limit
pub record IsItem (live : Entries) (bytes : List ℕ) (item : LogItem) : Type 0 where
  pub fields : Fields
  pub is_record : IsRecord bytes fields
  pub within : length fields.payload ≤ most_bytes
  pub says : Says fields item
  pub texts : HasTexts item
  pub may_come : MayCome live item

-- lawful records one after another, the first where these entries are live
abbrev pub AreItems : Entries → List ℕ → List LogItem → Type 0
AreItems live bytes [] = bytes ≡ []
AreItems live bytes (item ∷ items) = (unit : List ℕ) × (rest : List ℕ) × (bytes ≡ unit ++ rest)
    × IsItem live unit item × AreItems (live_after live item) rest items

-- ---- logs

-- a log with this extra header and these items
pub record Log (extra : List ℕ) (items : List LogItem) (bytes : List ℕ) : Type 0 where
  pub header : List ℕ
  pub records : List ℕ
  pub header_is : IsHeader header extra
  pub items_are : AreItems [] records items
  pub whole : bytes ≡ header ++ records
