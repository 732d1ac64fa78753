-- What bytes mean as a log, by the grammar alone: its extra header, its items with their offsets, and its fault.
use Rattle.std.specs.Prelude.{◌≡◌, ◌≢◌, ◌⊎◌, ℕ, ◌+◌, ◌<◌, ◌≤◌, true, false, List, [], ◌∷◌, ◌++◌, length, take, Option, None, Some}
use Rattle.wpilog_write.specs.declared.item.LogItem.{LogItem}
use Rattle.wpilog_write.specs.declared.item.LogItem.TheVariants.{Start, SetMeta, Finish}
use Rattle.wpilog_write.specs.declared.item.LogType.{LogType}
use Rattle.wpilog_write.specs.declared.item.LogValue.{LogValue}
use Rattle.wpilog_write.specs.Log.{most_bytes, most_live, IsNumber, magic, IsHeader, Head, IsHead, Fields, IsRecord, value_type, IsPayload, Entries, type_of, is_live, live_after, Says, HasTexts, IsItem}
use Rattle.wpilog_read.specs.declared.item_at.ItemAt.{ItemAt}
use Rattle.wpilog_read.specs.declared.fault.LogFault.{LogFault}
use Rattle.wpilog_read.specs.declared.fault.LogKind.{LogKind}
use Rattle.wpilog_read.specs.declared.fault.LogKind.TheVariants.{BadMagic, BadVersion, TooLarge, SpareBit, NotLive, ControlShort, UnknownControl, ControlLong, BadText, IdZero, StartTwice, TooManyLive, Misfit, Truncated}

-- these bytes are lawful records, the first at this offset and where these entries are live; they say these items,
-- and `live_at_end` are the entries that are live after them
abbrev pub AreItemsAt : ℕ → Entries → List ℕ → List ItemAt → Entries → Type 0
AreItemsAt at live bytes [] live_at_end = (bytes ≡ []) × (live_at_end ≡ live)
AreItemsAt at live bytes (x ∷ xs) live_at_end = (unit : List ℕ) × (rest : List ℕ) × (bytes ≡ unit ++ rest)
    × (x.at ≡ at) × IsItem live unit x.item
    × AreItemsAt (at + length unit) (live_after live x.item) rest xs live_at_end

-- a whole log: a header with this extra header and these items, and the entries that are live at its end
pub record IsLog (bytes extra : List ℕ) (items : List ItemAt) (live_at_end : Entries) : Type 0 where
  pub header : List ℕ
  pub records : List ℕ
  pub header_is : IsHeader header extra
  pub whole : bytes ≡ header ++ records
  pub items_are : AreItemsAt (length header) [] records items live_at_end

-- ---- faults of the header

-- the kind of a fault that is known of a header, by the bytes that are there: they don't begin as `WPILOG` does, the
-- major version isn't 1, or the extra header is too large
abbrev pub IsHeaderKnown : LogKind → List ℕ → Type 0
IsHeaderKnown BadMagic bytes = (more : List ℕ) → magic ≢ take (length magic) bytes ++ more
IsHeaderKnown BadVersion bytes = (minor : ℕ) × (major : ℕ) × (after : List ℕ)
    × (bytes ≡ magic ++ (minor ∷ major ∷ after)) × (major ≢ 1)
IsHeaderKnown TooLarge bytes = (minor : ℕ) × (len : List ℕ) × (after : List ℕ) × (n : ℕ)
    × (bytes ≡ magic ++ (minor ∷ 1 ∷ (len ++ after))) × IsNumber 4 len n × (most_bytes < n)
IsHeaderKnown kind bytes = ⊥

-- no header begins these bytes, and no fault of it is known
pub record IsHeaderWanting (bytes : List ℕ) : Type 0 where
  pub unknown : (kind : LogKind) → ¬ IsHeaderKnown kind bytes
  pub none : (header after extra : List ℕ) → bytes ≡ header ++ after → ¬ IsHeader header extra

-- the kind of a fault of the header
abbrev pub IsHeaderKind : LogKind → List ℕ → Type 0
IsHeaderKind Truncated bytes = IsHeaderWanting bytes
IsHeaderKind kind bytes = IsHeaderKnown kind bytes

-- where such a fault is
abbrev pub header_offset : LogKind → ℕ
header_offset BadVersion = 6
header_offset TooLarge = 8
header_offset kind = 0

-- ---- faults of a record

-- known from the first byte: its spare bit is set
abbrev pub IsFirstKind : LogKind → List ℕ → Type 0
IsFirstKind SpareBit rest = (first : ℕ) × (after : List ℕ) × (rest ≡ first ∷ after) × (128 ≤ first)
IsFirstKind kind rest = ⊥

-- known from the head: the payload is too large, or of an entry that isn't live
abbrev pub IsHeadKind : LogKind → Entries → Head → Type 0
IsHeadKind TooLarge live head = most_bytes < head.size
IsHeadKind NotLive live head = (head.size ≤ most_bytes) × (head.entry ≢ 0) × (is_live live head.entry ≡ false)
IsHeadKind kind live head = ⊥

-- the payload of a control record begins with a byte that isn't 0, 1 or 2
abbrev pub IsUnknown : List ℕ → Type 0
IsUnknown payload = (first : ℕ) × (after : List ℕ) × (payload ≡ first ∷ after) × (2 < first)

-- a control record with this payload says this item, whatever bytes its texts are
abbrev pub Controls : Fields → List ℕ → LogItem → Type 0
Controls fields payload item = Says (record fields { payload = payload }) item

-- an item that may not come where these entries are live, of its causes the first
abbrev pub Breaks : LogKind → Entries → LogItem → Type 0
Breaks IdZero live (Start time id name typ meta) = id ≡ 0
Breaks StartTwice live (Start time id name typ meta) = (id ≢ 0) × (is_live live id ≡ true)
Breaks TooManyLive live (Start time id name typ meta) = (id ≢ 0) × (is_live live id ≡ false)
    × (most_live ≤ length live)
Breaks NotLive live (SetMeta time id meta) = is_live live id ≡ false
Breaks NotLive live (Finish time id) = is_live live id ≡ false
Breaks kind live item = ⊥

-- known from a whole record whose head isn't at fault
abbrev pub IsWholeKind : LogKind → Entries → Fields → Type 0
-- no front of the payload has all fields
IsWholeKind ControlShort live fields = (fields.entry ≡ 0) × ¬ IsUnknown fields.payload
    × ((front after : List ℕ) (item : LogItem) → fields.payload ≡ front ++ after → ¬ Controls fields front item)
IsWholeKind UnknownControl live fields = (fields.entry ≡ 0) × IsUnknown fields.payload
-- bytes follow the fields
IsWholeKind ControlLong live fields = (fields.entry ≡ 0) × (front : List ℕ) × (after : List ℕ) × (item : LogItem)
    × (fields.payload ≡ front ++ after) × (after ≢ []) × Controls fields front item
IsWholeKind BadText live fields = (item : LogItem) × Says fields item × ¬ HasTexts item
-- the payload is none of its entry's type
IsWholeKind Misfit live fields = (fields.entry ≢ 0) × (typ : LogType) × (type_of live fields.entry ≡ Some typ)
    × ((value : LogValue) → value_type value ≡ typ → ¬ IsPayload fields.payload value)
IsWholeKind kind live fields = (item : LogItem) × Says fields item × HasTexts item × Breaks kind live item

-- the first bytes are the head of a record
pub record HasHead (rest : List ℕ) (head : Head) : Type 0 where
  pub front : List ℕ
  pub after : List ℕ
  pub is : IsHead front head
  pub parts : rest ≡ front ++ after

-- the first bytes are a whole record, whose head isn't at fault
pub record HasRecord (live : Entries) (rest : List ℕ) (fields : Fields) : Type 0 where
  pub unit : List ℕ
  pub after : List ℕ
  pub is : IsRecord unit fields
  pub parts : rest ≡ unit ++ after
  pub within : length fields.payload ≤ most_bytes
  pub known : (fields.entry ≡ 0) ⊎ (is_live live fields.entry ≡ true)

-- the kind of a fault that is known where these entries are live, by the bytes that are left
abbrev pub IsKnown : LogKind → Entries → List ℕ → Type 0
IsKnown kind live rest = IsFirstKind kind rest
    ⊎ ((head : Head) × HasHead rest head × IsHeadKind kind live head)
    ⊎ ((fields : Fields) × HasRecord live rest fields × IsWholeKind kind live fields)

-- bytes are left, no whole record begins them, and no fault is known
pub record IsRecordWanting (live : Entries) (rest : List ℕ) : Type 0 where
  pub some : rest ≢ []
  pub unknown : (kind : LogKind) → ¬ IsKnown kind live rest
  pub none : (unit after : List ℕ) (fields : Fields) → rest ≡ unit ++ after → ¬ IsRecord unit fields

-- the kind of a fault after lawful records
abbrev pub IsRecordKind : LogKind → Entries → List ℕ → Type 0
IsRecordKind Truncated live rest = IsRecordWanting live rest
IsRecordKind kind live rest = IsKnown kind live rest

-- ---- whole logs

-- the header is at fault
pub record IsHeaderFault (bytes : List ℕ) (items : List ItemAt) (fault : LogFault) : Type 0 where
  pub no_items : items ≡ []
  pub offset : fault.at ≡ header_offset fault.kind
  pub kind : IsHeaderKind fault.kind bytes

-- after a prefix that is a whole log of these items the next record is at fault
pub record IsRecordFault (bytes extra : List ℕ) (items : List ItemAt) (fault : LogFault) : Type 0 where
  pub prefix : List ℕ
  pub rest : List ℕ
  pub live : Entries
  pub whole : bytes ≡ prefix ++ rest
  pub log : IsLog prefix extra items live
  pub offset : fault.at ≡ length prefix
  pub kind : IsRecordKind fault.kind live rest

-- these bytes mean this extra header, where the header is whole and lawful, these items, and then this fault or none
abbrev pub Means : List ℕ → Option (List ℕ) → List ItemAt → Option LogFault → Type 0
Means bytes (Some extra) items None = (live_at_end : Entries) × IsLog bytes extra items live_at_end
Means bytes (Some extra) items (Some fault) = IsRecordFault bytes extra items fault
Means bytes None items None = ⊥
Means bytes None items (Some fault) = IsHeaderFault bytes items fault
