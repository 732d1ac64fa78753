-- The bytes that a reader keeps, from the offset that it stands at.
use Rattle.std.proofs.Common.{◌≡◌, ℕ, ◌+◌, ◌-◌, ◌≤◌, ◌<◌, false, List, ◌++◌, length, drop, Option, Some, Ok, refl, ap, ◌∙◌, arith}
use Rattle.std.proofs.lemmas.List.{drop_at, drop-drop, length-append, length-drop}
use Rattle.wpilog_write.specs.declared.item.LogItem.{LogItem}
use Rattle.wpilog_write.specs.Log.{Fields, Entries, live_after}
use Rattle.wpilog_read.specs.declared.fault.LogFault.{LogFault}
use Rattle.wpilog_read.specs.Reading.{header_at, record_at, item_of}
use Rattle.wpilog_read.specs.Run.{Reading, begun, passed, after_header, record_next}
use Rattle.wpilog_read.proofs.Headers.{header_at-takes}
use Rattle.wpilog_read.proofs.Records.{record_at-after}

-- what follows a prefix, by its length
pub after-is : (bytes prefix rest : List ℕ) → bytes ≡ prefix ++ rest → drop (length bytes - length rest) bytes ≡ rest
after-is bytes prefix rest parts =
    let len : length bytes ≡ length prefix + length rest = ap length parts ∙ length-append prefix rest in
    let at : length prefix ≡ length bytes - length rest = omega arith in
    ap (drop (length bytes - length rest)) parts ∙ drop_at prefix rest (length bytes - length rest) at

-- a reader that goes on until so many bytes are left, from the code's fields
pub passed-is : (all : List ℕ) (extra : Option (List ℕ)) (live : Entries) (fault : Option LogFault)
    (taken at left total : ℕ) → total ≡ length all → taken ≤ length all → left ≤ length (drop taken all)
    → record {
      extra = extra;
      live = live;
      at = at + (total - taken - left);
      rest = drop (taken + (total - taken - left)) all;
      fault = fault;
    } ≡ passed (record { extra = extra; live = live; at = at; rest = drop taken all; fault = fault })
    (drop (length (drop taken all) - left) (drop taken all))
passed-is all extra live fault taken at left total total_is within enough =
    let len : length (drop taken all) ≡ length all - taken = length-drop taken all in
    let count : length (drop taken all) - left ≡ length all - taken - left = omega arith in
    let rest : drop (length (drop taken all) - left) (drop taken all) ≡ drop (taken + (length all - taken - left)) all =
    ap (λ (n : ℕ). drop n (drop taken all)) count ∙ drop-drop (length all - taken - left) taken all in
    let there : length (drop (taken + (length all - taken - left)) all) ≡ left =
    length-drop (taken + (length all - taken - left)) all ∙ omega arith in
    let far : length (drop taken all) - length (drop (taken + (length all - taken - left)) all) ≡ length all - taken - left = omega arith in
    rw (total_is, rest, far) refl

-- where a reader goes on to, by the bytes that are left
pub record Goes (r s : Reading) (after : List ℕ) : Type 0 where
  pub is : s ≡ passed r after
  pub end : s.at + length after ≡ r.at + length r.rest
  pub forward : r.at ≤ s.at

pub goes : (r s : Reading) (prefix after : List ℕ) (left : ℕ) → r.rest ≡ prefix ++ after → left ≡ length after
    → s ≡ passed r (drop (length r.rest - left) r.rest) → Goes r s after
goes r s prefix after left parts left_is is =
    let rest : drop (length r.rest - left) r.rest ≡ after = rw left_is (after-is r.rest prefix after parts) in
    let there : s ≡ passed r after = is ∙ ap (λ (w : List ℕ). passed r w) rest in
    let len : length r.rest ≡ length prefix + length after = ap length parts ∙ length-append prefix after in
    let at : s.at ≡ r.at + (length r.rest - length after) = ap (λ (w : Reading). w.at) there in
    record { is = there; end = omega arith; forward = omega arith }

-- after the header
pub header-parts : (bytes : List ℕ) (extra after : List ℕ) → header_at bytes ≡ Ok (extra, after)
    → (prefix : List ℕ) × (bytes ≡ prefix ++ after)
header-parts bytes extra after read = let t = header_at-takes bytes (extra, after) read in (t.0, t.2)

pub header-opens : (r s : Reading) (extra after : List ℕ) → begun r ≡ false → header_at r.rest ≡ Ok (extra, after)
    → s ≡ passed r after → after_header r ≡ Ok (record s { extra = Some extra })
unfolding after_header
header-opens r s extra after closed read is = rw (closed, read, is) refl

-- after a record, where these entries are live then
pub record-reads : (r s : Reading) (live : Entries) (fields : Fields) (after : List ℕ) (item : LogItem)
    → record_at r.live r.rest ≡ Ok (fields, after) → item_of r.live fields ≡ Ok item
    → live ≡ live_after r.live item
    → s ≡ passed (record r { live = live }) (drop (length r.rest - length after) r.rest)
    → record_next r ≡ Ok (record { at = r.at; item = item }, s)
unfolding record_next
record-reads r s live fields after item read says noted is =
    let t = record_at-after r.live r.rest (fields, after) read in
    let rest : drop (length r.rest - length after) r.rest ≡ after = after-is r.rest t.prefix after t.parts in
    let there : s ≡ passed (record r { live = live_after r.live item }) after = is
    ∙ ap (λ (w : List ℕ). passed (record r { live = live }) w) rest
    ∙ ap (λ (w : Entries). passed (record r { live = w }) after) noted in
    rw (read, says, there) refl

-- and it took some bytes
pub record-shorter : (r s : Reading) (live : Entries) (fields : Fields) (after : List ℕ)
    → record_at r.live r.rest ≡ Ok (fields, after)
    → s ≡ passed (record r { live = live }) (drop (length r.rest - length after) r.rest)
    → length s.rest < length r.rest
record-shorter r s live fields after read is =
    let t = record_at-after r.live r.rest (fields, after) read in
    let rest : s.rest ≡ after = ap (λ (w : Reading). w.rest) is ∙ after-is r.rest t.prefix after t.parts in
    omega (arith, ap length rest, ap length t.parts, length-append t.prefix after, t.some)
