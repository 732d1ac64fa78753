-- What is written is lawful, and nothing lawful has fewer bytes.
use Rattle.std.proofs.Common.{◌≡◌, ◌≢◌, ℕ, ◌+◌, ◌^◌, ◌≤◌, ◌<◌, List, [], ◌∷◌, ◌++◌, length, take, All, Option, None, Some, flat_map, fold, refl, sym, ap, subst, ◌∙◌, arith, append-nil}
use Rattle.std.specs.Int.{w32, to_le_bytes}
use Rattle.std.specs.Io.KnownBytes.{Appends}
use Rattle.std.proofs.KnownBytes.{Appends-trans}
use Rattle.std.proofs.Math.Seq.{take-append-add}
use Rattle.std.proofs.lemmas.List.{length-append, flat_map_more}
use Rattle.std.proofs.lemmas.List.Elements.{All-nil, All-head, All-tail, All-push}
use Rattle.wpilog_write.specs.declared.item.LogItem.{LogItem}
use Rattle.wpilog_write.specs.declared.item.LogItem.TheVariants.{Start, Value, SetMeta, Finish}
use Rattle.wpilog_write.specs.declared.refused.WriteRefused.{WriteRefused}
use Rattle.wpilog_write.specs.Log.{most_bytes, IsHeader, Entries, type_of, live_after, MayCome, MayComeAll, Live, HasTexts, IsItem, AreItems, Log, time_of}
use Rattle.wpilog_write.specs.Written.{least, header_of, payload_of, entry_of, record_of, record_with, log_of, IsCut}
use Rattle.wpilog_write.specs.Writer.{too_large, refusal}
use Rattle.wpilog_write.specs.Fits.{AreBytes, FitsTypes, IsWithin, HasWritten}
use Rattle.wpilog_write.proofs.Records.{with-is, with-length, record-long, bytes-front, bytes-behind}
use Rattle.wpilog_write.proofs.Payloads.{four-is, item-says, says-length, says-entry, says-time}
use Rattle.wpilog_write.proofs.Live.{small-within, taken-may, may-taken, AreNamed, named-zero, named-after, may-named}

-- ---- records

-- the numbers in a record fit
entry-fits : (item : LogItem) → FitsTypes item → entry_of item < 2 ^ 32
entry-fits (Start time id name typ meta) fits = omega arith
entry-fits (Value time id value) fits = fits.1
entry-fits (SetMeta time id meta) fits = omega arith
entry-fits (Finish time id) fits = omega arith

time-fits : (item : LogItem) → FitsTypes item → time_of item < 2 ^ 64
time-fits (Start time id name typ meta) fits = fits.0
time-fits (Value time id value) fits = fits.0
time-fits (SetMeta time id meta) fits = fits.0
time-fits (Finish time id) fits = fits.0

-- and the texts
texts-fit : (item : LogItem) → FitsTypes item → HasTexts item
texts-fit (Start time id name typ meta) fits = (fits.2, fits.3, fits.4)
texts-fit (Value time id value) fits = tt
texts-fit (SetMeta time id meta) fits = fits.2
texts-fit (Finish time id) fits = tt

-- the record of an item that may come is a lawful one
may-lawful : (live : Entries) (item : LogItem) → FitsTypes item → type_of live 0 ≡ None → MayCome live item
    → IsWithin item → IsItem live (record_of item) item
may-lawful live item fits zero may within =
    let short : length (payload_of item) < 2 ^ 32 = omega (arith, within) in
    record {
      fields = record { entry = entry_of item; time = time_of item; payload = payload_of item };
      is_record = with-is (entry_of item) (time_of item) (payload_of item) (entry-fits item fits) short
          (time-fits item fits);
      within = within;
      says = item-says item _ fits (may-named live item zero may) short refl refl refl;
      texts = texts-fit item fits;
      may_come = may;
    }

pub taken-lawful : (live : Entries) (item : LogItem) → FitsTypes item → type_of live 0 ≡ None
    → refusal live item ≡ None → IsItem live (record_of item) item
taken-lawful live item fits zero taken = let both = taken-may live item taken in
    may-lawful live item fits zero both.0 both.1

-- what has a lawful record isn't refused
pub lawful-taken : (live : Entries) (bytes : List ℕ) (item : LogItem) → IsItem live bytes item
    → refusal live item ≡ None
lawful-taken live bytes item is = may-taken live item is.may_come
    (subst (λ (n : ℕ). n ≤ most_bytes) (says-length is.fields item is.says) is.within)

pub refused-unlawful : (live : Entries) (bytes : List ℕ) (item : LogItem) (why : WriteRefused)
    → refusal live item ≡ Some why → IsItem live bytes item → ⊥
refused-unlawful live bytes item why refused is =
    let both : Some why ≡ None = sym refused ∙ lawful-taken live bytes item is in cc

-- how long a record is, by the length of its payload alone
same-length : (entry time : ℕ) (a b : List ℕ) → length a ≡ length b
    → length (record_with entry time a) ≡ length (record_with entry time b)
same-length entry time a b same = with-length entry time a
    ∙ ap (λ (n : ℕ). 1 + least entry + least n + least time + n) same ∙ sym (with-length entry time b)

-- no lawful record has fewer bytes
pub record-fewest : (live : Entries) (bytes : List ℕ) (item : LogItem) → AreBytes bytes → IsItem live bytes item
    → length (record_of item) ≤ length bytes
record-fewest live bytes item are is =
    let fields = is.fields in
    let entry : fields.entry ≡ entry_of item = says-entry fields item is.says in
    let time : fields.time ≡ time_of item = says-time fields item is.says in
    let long : length (record_with fields.entry fields.time fields.payload) ≤ length bytes =
    record-long bytes fields are is.is_record in
    let here : length (record_with (entry_of item) (time_of item) fields.payload) ≤ length bytes =
    subst (λ (w : ℕ). length (record_with (entry_of item) w fields.payload) ≤ length bytes) time
    (subst (λ (w : ℕ). length (record_with w fields.time fields.payload) ≤ length bytes) entry long) in
    subst (λ (n : ℕ). n ≤ length bytes)
    (same-length (entry_of item) (time_of item) fields.payload (payload_of item) (says-length fields item is.says)) here

-- ---- logs

-- the header
header-is : (extra : List ℕ) → length extra ≤ most_bytes → IsHeader (header_of extra) extra
header-is extra within = record {
  minor = 0;
  len = to_le_bytes w32 (length extra);
  len_is = four-is (length extra) (omega (arith, within));
  within = within;
  whole = refl;
}

-- items that may come one after another
items-are : (live : Entries) (items : List LogItem) → AreNamed live → MayComeAll live items → All IsWithin items
    → All FitsTypes items → AreItems live (flat_map record_of items) items
items-are live [] named may within fits = refl
items-are live (item ∷ items) named may within fits = (
  record_of item,
  flat_map record_of items,
  refl,
  may-lawful live item (All-head FitsTypes item items fits) (named-zero live named) may.0
      (All-head IsWithin item items within),
  items-are (live_after live item) items (named-after live item named may.0) may.1 (All-tail IsWithin item items within)
      (All-tail FitsTypes item items fits),
)

pub log-lawful : (extra : List ℕ) (items : List LogItem) → length extra ≤ most_bytes → Live items
    → All IsWithin items → All FitsTypes items → Log extra items (log_of extra items)
log-lawful extra items short may within fits = record {
  header = header_of extra;
  records = flat_map record_of items;
  header_is = header-is extra short;
  items_are = items-are [] items (All-nil (λ id. id ≢ 0)) may within fits;
  whole = refl;
}

-- no records of these items have fewer bytes
items-fewest : (live : Entries) (bytes : List ℕ) (items : List LogItem) → AreBytes bytes → AreItems live bytes items
    → length (flat_map record_of items) ≤ length bytes
items-fewest live bytes [] are is = omega arith
items-fewest live bytes (item ∷ items) are (unit, rest, parts, here, after) =
    let all : AreBytes (unit ++ rest) = subst AreBytes parts are in
    let one : length (record_of item) ≤ length unit = record-fewest live unit item (bytes-front unit rest all) here in
    let others : length (flat_map record_of items) ≤ length rest =
    items-fewest (live_after live item) rest items (bytes-behind unit rest all) after in
    omega (
      arith,
      ap length parts,
      length-append unit rest,
      length-append (record_of item) (flat_map record_of items),
      one,
      others,
    )

-- how long a header is
header-length : (bytes extra : List ℕ) → IsHeader bytes extra → length bytes ≡ 12 + length extra
header-length bytes extra is = omega (arith, ap length is.whole, length-append is.len extra, is.len_is.len_is)

pub log-fewest : (extra bytes : List ℕ) (items : List LogItem) → AreBytes bytes → Log extra items bytes
    → length (log_of extra items) ≤ length bytes
log-fewest extra bytes items are log =
    let all : AreBytes (log.header ++ log.records) = subst AreBytes log.whole are in
    let records : length (flat_map record_of items) ≤ length log.records =
    items-fewest [] log.records items (bytes-behind log.header log.records all) log.items_are in
    let header : length log.header ≡ length (header_of extra) = header-length log.header extra log.header_is
    ∙ sym (header-length (header_of extra) extra (header-is extra log.header_is.within)) in
    omega (
      arith,
      ap length log.whole,
      length-append log.header log.records,
      length-append (header_of extra) (flat_map record_of items),
      records,
      header,
    )

-- ---- a log, item after item

-- one more item may come
may-more : (live : Entries) (items : List LogItem) (item : LogItem) → MayComeAll live items
    → MayCome (fold live_after live items) item → MayComeAll live (items ++ item ∷ [])
may-more live [] item may here = (here, tt)
may-more live (first ∷ items) item may here = (may.0, may-more (live_after live first) items item may.1 here)

-- what is live after it
live-more : (live : Entries) (items : List LogItem) (item : LogItem)
    → fold live_after live (items ++ item ∷ []) ≡ live_after (fold live_after live items) item
live-more live [] item = refl
live-more live (first ∷ items) item = live-more (live_after live first) items item

-- its record follows
log-more : (extra : List ℕ) (items : List LogItem) (item : LogItem)
    → log_of extra items ++ record_of item ≡ log_of extra (items ++ item ∷ [])
log-more extra items item = flat_map_more record_of (header_of extra) items item

-- the header alone
pub written-begun : (before now : Option (List ℕ)) (extra : List ℕ) → too_large extra ≡ None
    → Appends before now (header_of extra) → HasWritten before now extra [] []
written-begun before now extra small taken = record {
  extra_within = small-within extra small;
  within = All-nil IsWithin;
  fit = All-nil FitsTypes;
  may_come = tt;
  live_is = refl;
  taken = subst (λ (w : List ℕ). Appends before now w) (sym (append-nil (header_of extra))) taken;
}

-- one more item
pub written-more : (before now then : Option (List ℕ)) (extra : List ℕ) (items : List LogItem) (live : Entries)
    (item : LogItem) → HasWritten before now extra items live → FitsTypes item → refusal live item ≡ None
    → Appends now then (record_of item)
    → HasWritten before then extra (items ++ item ∷ []) (live_after live item)
written-more before now then extra items live item was fits free taken =
    let both = taken-may live item free in
    record {
      extra_within = was.extra_within;
      within = All-push IsWithin items item was.within both.1;
      fit = All-push FitsTypes items item was.fit fits;
      may_come = may-more [] items item was.may_come
          (subst (λ (w : Entries). MayCome w item) was.live_is both.0);
      live_is = ap (λ (w : Entries). live_after w item) was.live_is ∙ sym (live-more [] items item);
      taken = subst (λ (w : List ℕ). Appends before then w) (log-more extra items item)
          (Appends-trans before now then (log_of extra items) (record_of item) was.taken taken);
    }

-- a write that failed
pub written-cut : (before now then : Option (List ℕ)) (extra : List ℕ) (items : List LogItem) (live : Entries)
    (item : LogItem) → HasWritten before now extra items live → IsCut (record_of item) now then
    → (cut : IsCut (log_of extra (items ++ item ∷ [])) before then) × (length (log_of extra items) ≤ cut.count)
written-cut before now then extra items live item was cut =
    let log = log_of extra items in
    let whole : log ++ record_of item ≡ log_of extra (items ++ item ∷ []) = log-more extra items item in
    let short : cut.count < length (record_of item) = cut.short in (
      record {
        count = length log + cut.count;
        short = subst (λ (w : List ℕ). length log + cut.count < length w) whole
            (omega (arith, length-append log (record_of item), short));
        taken = subst (λ (w : List ℕ). Appends before then (take (length log + cut.count) w)) whole
            (subst (λ (w : List ℕ). Appends before then w) (sym (take-append-add log (record_of item) cut.count))
            (Appends-trans before now then log (take cut.count (record_of item)) was.taken cut.taken));
      },
      omega arith,
    )
