-- The state of a reader, its steps, and whole runs of them.
use Rattle.std.specs.Prelude.{◌≡◌, ℕ, ◌+◌, ◌-◌, ◌&&◌, Bool, List, [], ◌∷◌, ◌++◌, length, Option, Some, None, is_some, Result, Ok, Err, ◌==◌, if◌then◌else◌}
use Rattle.wpilog_write.specs.Log.{Entries, live_after}
use Rattle.wpilog_read.specs.declared.fault.LogKind.{LogKind}
use Rattle.wpilog_read.specs.declared.fault.LogKind.TheVariants.{Truncated}
use Rattle.wpilog_read.specs.declared.fault.LogFault.{LogFault}
use Rattle.wpilog_read.specs.declared.fault.NextFault.{NextFault}
use Rattle.wpilog_read.specs.declared.fault.NextFault.TheVariants.{Log, Memory}
use Rattle.wpilog_read.specs.declared.fault.Stop.{Stop}
use Rattle.wpilog_read.specs.declared.fault.Stop.TheVariants.{Wanting, Known}
use Rattle.wpilog_read.specs.declared.item_at.ItemAt.{ItemAt}
use Rattle.wpilog_read.specs.Meaning.{header_offset}
use Rattle.wpilog_read.specs.Reading.{◌>>=◌, header_at, record_at, item_of}

-- where a reader stands: the extra header where the header was read, which entries are live, the offset of the bytes
-- that are not read yet, these bytes, and the fault
pub record Reading : Type 0 where
  pub extra : Option (List ℕ)
  pub live : Entries
  pub at : ℕ
  pub rest : List ℕ
  pub fault : Option LogFault

-- the header was read
abbrev pub begun : Reading → Bool
begun r = is_some r.extra

abbrev pub start : List ℕ → Reading
start bytes = record { extra = None; live = []; at = 0; rest = bytes; fault = None }

-- more bytes have come
abbrev pub fed : Reading → List ℕ → Reading
fed r piece = if is_some r.fault then r else record r { rest = r.rest ++ piece }

-- ---- steps

-- where a reader stands that goes on to these bytes, which end where its own do
abbrev pub passed : Reading → List ℕ → Reading
passed r rest = record r { at = r.at + (length r.rest - length rest); rest = rest }

-- after the header
unfoldable pub after_header : Reading → Result Reading Stop
after_header r =
    if begun r then Ok r
    else (header_at r.rest >>= λ header. Ok (record (passed r header.1) { extra = Some header.0 }))

-- a record's item, and where the reader stands after it
unfoldable pub record_next : Reading → Result (ItemAt × Reading) Stop
record_next r = do
  fields ← record_at r.live r.rest
  item ← item_of r.live fields.0
  Ok (record { at = r.at; item = item }, record (passed r fields.1) { live = live_after r.live item })

-- the next item, and where the reader stands after it
unfoldable pub next_of : Reading → Result (ItemAt × Reading) Stop
next_of r = after_header r >>= record_next

-- where the reader stands with the header read, if it is whole
abbrev pub settled : Result Reading Stop → Reading → Reading
settled (Ok s) r = s
settled (Err stop) r = r

unfoldable pub settle : Reading → Reading
settle r = settled (after_header r) r

-- where a fault of this kind is: in the header by its kind, and else at the first byte of its record
abbrev pub offset_of : Reading → LogKind → ℕ
offset_of r kind = if begun r then r.at else header_offset kind

-- a fault where the reader stands
abbrev pub at_offset : Reading → LogKind → LogFault
at_offset r kind = record { at = offset_of r kind; kind = kind }

abbrev pub broken : LogFault → Reading → Reading
broken fault r = record r { fault = Some fault }

-- `next` failed so: with a fault that is known now and kept, or for want of memory, where the header may have been
-- taken
abbrev pub EndsBy : NextFault → Result (ItemAt × Reading) Stop → Reading → Reading → Type 0
EndsBy (Log fault) next old new = (next ≡ Err (Known fault.kind)) × (fault.at ≡ offset_of (settle old) fault.kind)
    × (new ≡ broken fault (settle old))
EndsBy Memory next old new = settle new ≡ settle old

-- what is wanting where a log ends here
abbrev pub ending : Reading → Option LogFault
ending r = if begun r && length r.rest == 0 then None else Some (at_offset r Truncated)

-- the most bytes that are left where no unit is whole and no fault is known: all but the last byte of the longest
-- record, or of the longest header
abbrev pub most_left : Reading → ℕ
most_left r = if begun r then 16_777_232 else 16_777_227

-- ---- runs

-- these items follow one after another, from one state of a reader to another; two states count as one where
-- they differ only in whether the header was taken
abbrev pub Reads : Reading → List ItemAt → Reading → Type 0
Reads r [] s = settle s ≡ settle r
Reads r (x ∷ xs) s = (m : Reading) × (next_of r ≡ Ok (x, m)) × Reads m xs s

-- no item follows, and this is the fault
abbrev pub Ends : Result (ItemAt × Reading) Stop → Reading → Option LogFault → Type 0
Ends (Ok x) s fault = ⊥
Ends (Err Wanting) s fault = fault ≡ ending s
Ends (Err (Known kind)) s fault = fault ≡ Some (at_offset s kind)

-- the bytes read as this extra header, these items, and then this fault or none
pub record IsReading (bytes : List ℕ) (extra : Option (List ℕ)) (items : List ItemAt) (fault : Option LogFault) : Type 0 where
  pub last : Reading
  pub reads : Reads (start bytes) items last
  pub extra_is : extra ≡ (settle last).extra
  pub ends : Ends (next_of last) (settle last) fault

-- ---- a reader in the midst of a run

-- a reader that was fed these bytes and gave these items stands so, by its fault
abbrev pub StandsBy : Option LogFault → List ℕ → List ItemAt → Reading → Type 0
StandsBy None bytes items r = Reads (start bytes) items r
StandsBy (Some fault) bytes items r = (s : Reading) × Reads (start bytes) items s × (next_of s ≡ Err (Known fault.kind))
    × (fault ≡ at_offset (settle s) fault.kind) × (r.extra ≡ (settle s).extra)

abbrev pub Stands : List ℕ → List ItemAt → Reading → Type 0
Stands bytes items r = StandsBy r.fault bytes items r

-- the items that a call of `next` gave
abbrev pub given : Result (Option ItemAt) NextFault → List ItemAt
given (Ok (Some x)) = x ∷ []
given (Ok None) = []
given (Err e) = []

-- no item follows from the bytes that have come
abbrev pub IsEndedBy : Option LogFault → Reading → Type 0
IsEndedBy None r = (next_of r ≡ Err Wanting) × (settle r ≡ r)
IsEndedBy (Some fault) r = Unit {0}

abbrev pub IsEnded : Reading → Type 0
IsEnded r = IsEndedBy r.fault r
