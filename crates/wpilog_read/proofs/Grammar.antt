-- Whole readings against the grammar: what is read is what the bytes mean, and each byte string means exactly one thing.
use Rattle.std.proofs.Common.{◌≡◌, ℕ, zero, suc, ◌+◌, ◌-◌, ◌<◌, ◌≤◌, true, false, ◌⊎◌, inl, inr, List, [], ◌∷◌, ◌++◌, length, take, drop, Option, None, Some, Result, Ok, Err, refl, sym, ap, subst, ◌∙◌, append_assoc, append-nil, arith}
use Rattle.std.specs.Prelude.{is_some}
use Rattle.std.proofs.lemmas.List.{length-append, length-take, take-append-drop, take_at}
use Rattle.wpilog_write.specs.Log.{IsHeader, Entries, live_after}
use Rattle.wpilog_read.specs.declared.item_at.ItemAt.{ItemAt}
use Rattle.wpilog_read.specs.declared.fault.LogFault.{LogFault}
use Rattle.wpilog_read.specs.declared.fault.LogKind.{LogKind}
use Rattle.wpilog_read.specs.declared.fault.LogKind.TheVariants.{BadMagic, BadVersion, TooLarge, SpareBit, NotLive, ControlShort, UnknownControl, ControlLong, BadText, IdZero, StartTwice, TooManyLive, Misfit, Truncated}
use Rattle.wpilog_read.specs.declared.fault.Stop.{Stop}
use Rattle.wpilog_read.specs.declared.fault.Stop.TheVariants.{Wanting, Known}
use Rattle.wpilog_read.specs.Meaning.{AreItemsAt, IsLog, IsHeaderKnown, IsHeaderWanting, IsHeaderKind, IsRecordKind, IsHeaderFault, Means}
use Rattle.wpilog_read.specs.Reading.{header_at}
use Rattle.wpilog_read.specs.Run.{Reading, begun, start, after_header, next_of, settle, at_offset, ending, Reads, Ends, IsReading, Stands}
use Rattle.wpilog_read.proofs.Steps.{parts_then, ok_is, err_is, ok_no_err}
use Rattle.wpilog_read.proofs.Headers.{header_at-takes, header_at-again, header_at-known, header-known, header_at-wanting, header-wanting}
use Rattle.wpilog_read.proofs.Stable.{record-forward}
use Rattle.wpilog_read.proofs.Runs.{settle-ok, settle-err, next-settle, begun-opened, next-closed, Reads-opened, Reads-closed, IsLast, Ends-last, one-reading, Stands-begins}
use Rattle.wpilog_read.proofs.Units.{next-record, next-takes, next-again, known-next, left-wanting, LeftBy, ends-left, left-ends}

-- ---- the header

-- where reading stops for a fault of this kind
abbrev pub stop_of : LogKind → Stop
stop_of Truncated = Wanting
stop_of kind = Known kind

-- a fault that is known of a header is of its kind
known-kind : (kind : LogKind) (bytes : List ℕ) → IsHeaderKnown kind bytes → IsHeaderKind kind bytes
known-kind BadMagic bytes h = h
known-kind BadVersion bytes h = h
known-kind TooLarge bytes h = h
known-kind SpareBit bytes h = h
known-kind NotLive bytes h = h
known-kind ControlShort bytes h = h
known-kind UnknownControl bytes h = h
known-kind ControlLong bytes h = h
known-kind BadText bytes h = h
known-kind IdZero bytes h = h
known-kind StartTwice bytes h = h
known-kind TooManyLive bytes h = h
known-kind Misfit bytes h = h
known-kind Truncated bytes h = absurd h

-- a header at fault is not read
header-stops : (kind : LogKind) (bytes : List ℕ) → IsHeaderKind kind bytes → header_at bytes ≡ Err (stop_of kind)
header-stops Truncated bytes h = header-wanting bytes h
header-stops BadMagic bytes h = header-known bytes BadMagic h
header-stops BadVersion bytes h = header-known bytes BadVersion h
header-stops TooLarge bytes h = header-known bytes TooLarge h
header-stops SpareBit bytes h = header-known bytes SpareBit h
header-stops NotLive bytes h = header-known bytes NotLive h
header-stops ControlShort bytes h = header-known bytes ControlShort h
header-stops UnknownControl bytes h = header-known bytes UnknownControl h
header-stops ControlLong bytes h = header-known bytes ControlLong h
header-stops BadText bytes h = header-known bytes BadText h
header-stops IdZero bytes h = header-known bytes IdZero h
header-stops StartTwice bytes h = header-known bytes StartTwice h
header-stops TooManyLive bytes h = header-known bytes TooManyLive h
header-stops Misfit bytes h = header-known bytes Misfit h

-- a reader whose header is at fault
closed-at : (r : Reading) (stop : Stop) → begun r ≡ false → header_at r.rest ≡ Err stop → after_header r ≡ Err stop
unfolding after_header
closed-at r stop off e = rw (off, e) refl

-- the same by the kind
pub header-closed : (kind : LogKind) (bytes : List ℕ) → IsHeaderKind kind bytes
    → after_header (start bytes) ≡ Err (stop_of kind)
header-closed kind bytes h = closed-at (start bytes) (stop_of kind) refl (header-stops kind bytes h)

-- the header is there, or at fault
record HasHeader (bytes : List ℕ) : Type 0 where
  header : List ℕ
  records : List ℕ
  extra : List ℕ
  is : IsHeader header extra
  parts : bytes ≡ header ++ records

header-or : (bytes : List ℕ) → HasHeader bytes ⊎ ((kind : LogKind) × IsHeaderKind kind bytes)
header-or bytes = by_read (header_at bytes) refl where
  by_read : (read : Result (List ℕ × List ℕ) Stop) → header_at bytes ≡ read
      → HasHeader bytes ⊎ ((kind : LogKind) × IsHeaderKind kind bytes)
  by_read (Ok x) e =
      let t = header_at-takes bytes x e in
      inl (record { header = t.0; records = x.1; extra = x.0; is = t.1; parts = t.2 })
  by_read (Err Wanting) e = inr (Truncated, header_at-wanting bytes e)
  by_read (Err (Known kind)) e = inr (kind, known-kind kind bytes (header_at-known bytes kind e))

-- a reader that stands after the header of a log
abbrev pub opened : List ℕ → ℕ → Entries → List ℕ → Reading
opened extra at live rest = record { extra = Some extra; live = live; at = at; rest = rest; fault = None }

-- where a reader goes on after a header
pub header-after : (r : Reading) (header records extra : List ℕ) → begun r ≡ false → r.rest ≡ header ++ records
    → IsHeader header extra
    → after_header r ≡ Ok (record r { extra = Some extra; at = r.at + length header; rest = records })
unfolding after_header
header-after r header records extra off parts is =
    let read : header_at r.rest ≡ Ok (extra, records) = ap header_at parts ∙ header_at-again header records extra is in
    let len : length r.rest ≡ length header + length records = ap length parts ∙ length-append header records in
    let far : length r.rest - length records ≡ length header = omega arith in
    rw (off, read, far) refl

-- the header of a log is read
pub header-opens : (header records extra : List ℕ) → IsHeader header extra
    → after_header (start (header ++ records)) ≡ Ok (opened extra (length header) [] records)
header-opens header records extra is =
    let here : 0 + length header ≡ length header = omega arith in
    subst (λ (n : ℕ). after_header (start (header ++ records)) ≡ Ok (opened extra n [] records)) here
    (header-after (start (header ++ records)) header records extra refl refl is)

-- ---- the next item, where the header is not read yet

-- where the header is, the next item is the one after it
pub next-after : (r : Reading) (header rest extra : List ℕ) → begun r ≡ false → r.rest ≡ header ++ rest
    → IsHeader header extra
    → next_of r ≡ next_of (record r { extra = Some extra; at = r.at + length header; rest = rest })
unfolding next_of
next-after r header rest extra off parts is =
    rw (
      header-after r header rest extra off parts is,
      begun-opened (record r {
        extra = Some extra;
        at = r.at + length header;
        rest = rest;
      }) refl,
    ) refl

-- where a fault of it is known, it is answered
pub next-wrong_header : (r : Reading) (kind : LogKind) → begun r ≡ false → IsHeaderKnown kind r.rest
    → next_of r ≡ Err (Known kind)
next-wrong_header r kind off h = next-closed r (Known kind) (closed-at r (Known kind) off (header-known r.rest kind h))

-- where bytes are wanting, nothing is read
pub next-wanting_header : (r : Reading) → begun r ≡ false → IsHeaderWanting r.rest → next_of r ≡ Err Wanting
next-wanting_header r off h = next-closed r Wanting (closed-at r Wanting off (header-wanting r.rest h))

-- ---- a header at fault

-- the fault of a header that is not read
closed-fault : (kind : LogKind) (bytes : List ℕ) (fault : Option LogFault)
    → Ends (Err (stop_of kind)) (start bytes) fault → fault ≡ Some (at_offset (start bytes) kind)
closed-fault Truncated bytes fault ends = ends
closed-fault BadMagic bytes fault ends = ends
closed-fault BadVersion bytes fault ends = ends
closed-fault TooLarge bytes fault ends = ends
closed-fault SpareBit bytes fault ends = ends
closed-fault NotLive bytes fault ends = ends
closed-fault ControlShort bytes fault ends = ends
closed-fault UnknownControl bytes fault ends = ends
closed-fault ControlLong bytes fault ends = ends
closed-fault BadText bytes fault ends = ends
closed-fault IdZero bytes fault ends = ends
closed-fault StartTwice bytes fault ends = ends
closed-fault TooManyLive bytes fault ends = ends
closed-fault Misfit bytes fault ends = ends

-- such a header ends reading with it
closed-ends : (kind : LogKind) (bytes : List ℕ) → Ends (Err (stop_of kind)) (start bytes)
    (Some (at_offset (start bytes) kind))
closed-ends Truncated bytes = refl
closed-ends BadMagic bytes = refl
closed-ends BadVersion bytes = refl
closed-ends TooLarge bytes = refl
closed-ends SpareBit bytes = refl
closed-ends NotLive bytes = refl
closed-ends ControlShort bytes = refl
closed-ends UnknownControl bytes = refl
closed-ends ControlLong bytes = refl
closed-ends BadText bytes = refl
closed-ends IdZero bytes = refl
closed-ends StartTwice bytes = refl
closed-ends TooManyLive bytes = refl
closed-ends Misfit bytes = refl

-- a header that is not read gives nothing
closed-nothing : (items : List ItemAt) (bytes : List ℕ) (s : Reading) (stop : Stop)
    → after_header (start bytes) ≡ Err stop → Reads (start bytes) items s → (items ≡ []) × (settle s ≡ start bytes)
closed-nothing [] bytes s stop e reads = (refl, reads ∙ settle-err (start bytes) stop e)
closed-nothing (x ∷ xs) bytes s stop e reads = absurd (ok_no_err (x, reads.0) stop
    (sym reads.1 ∙ next-closed (start bytes) stop e))

-- ---- runs after the header

-- after the header nothing is left to settle
settle-begun : (r : Reading) → begun r ≡ true → settle r ≡ r
settle-begun r on = settle-ok r r (begun-opened r on)

-- what was read between two states is lawful records
record Covers (r s : Reading) (items : List ItemAt) : Type 0 where
  prefix : List ℕ
  items_are : AreItemsAt r.at r.live prefix items s.live
  parts : r.rest ≡ prefix ++ s.rest
  offset : s.at ≡ r.at + length prefix
  extra : s.extra ≡ r.extra

-- the header stays after
next-extra : (r m : Reading) (x : ItemAt) → begun r ≡ true → next_of r ≡ Ok (x, m) → m.extra ≡ r.extra
next-extra r m x on e = (record-forward r (x, m) (sym (next-record r on) ∙ e)).extra

next-begun : (r m : Reading) (x : ItemAt) → begun r ≡ true → next_of r ≡ Ok (x, m) → begun m ≡ true
next-begun r m x on e = ap is_some (next-extra r m x on e) ∙ on

-- what was read is lawful records
reads-cover : (items : List ItemAt) (r s : Reading) → begun r ≡ true → Reads r items s → Covers r (settle s) items
reads-cover [] r s on reads =
    let same : settle s ≡ r = reads ∙ settle-begun r on in
    subst (λ (w : Reading). Covers r w []) (sym same) (record {
      prefix = [];
      items_are = (refl, refl);
      parts = refl;
      offset = omega arith;
      extra = refl;
    })
reads-cover (x ∷ xs) r s on reads =
    let m : Reading = reads.0 in
    let t = next-takes r m x on reads.1 in
    let c = reads-cover xs m s (next-begun r m x on reads.1) reads.2 in
    let there : AreItemsAt (r.at + length t.unit) (live_after r.live x.item) c.prefix xs (settle s).live =
    subst (λ (w : Entries). AreItemsAt (r.at + length t.unit) w c.prefix xs (settle s).live) t.live
    (subst (λ (n : ℕ). AreItemsAt n m.live c.prefix xs (settle s).live) t.offset c.items_are) in
    record {
      prefix = t.unit ++ c.prefix;
      items_are = (t.unit, c.prefix, refl, t.at, t.is, there);
      parts = parts_then t.unit t.parts c.parts ∙ sym (append_assoc t.unit c.prefix (settle s).rest);
      offset = let p : (settle s).at ≡ m.at + length c.prefix = c.offset in let q : m.at ≡ r.at + length t.unit =
          t.offset in omega (arith, length-append t.unit c.prefix);
      extra = c.extra ∙ next-extra r m x on reads.1;
    }

-- lawful records are read, whatever follows
cover-reads : (items : List ItemAt) (extra : List ℕ) (at : ℕ) (live behind : Entries) (bytes rest : List ℕ)
    → AreItemsAt at live bytes items behind → Reads (opened extra at live (bytes ++ rest)) items
    (opened extra (at + length bytes) behind rest)
cover-reads [] extra at live behind bytes rest is =
    let offset : at + length bytes ≡ at = omega (arith, ap length is.0) in
    rw (offset, is.1, is.0) refl
cover-reads (x ∷ xs) extra at live behind bytes rest is =
    let unit : List ℕ = is.0 in
    let others : List ℕ = is.1 in
    let parts : bytes ++ rest ≡ unit ++ (others ++ rest) = ap (λ (w : List ℕ). w ++ rest) is.2
    ∙ append_assoc unit others rest in
    let r : Reading = opened extra at live (bytes ++ rest) in
    let m : Reading = opened extra (at + length unit) (live_after live x.item) (others ++ rest) in
    let next : next_of r ≡ Ok (
      record { at = at; item = x.item },
      m,
    ) = next-again r unit (others ++ rest) x.item refl parts is.4 in
    let here : next_of r ≡ Ok (x, m) = next ∙ ap (λ (n : ℕ). Ok (record { at = n; item = x.item }, m)) (sym is.3) in
    let offset : at + length unit + length others ≡ at + length bytes =
    omega (arith, ap length is.2, length-append unit others) in (
      m,
      here,
      subst (λ (n : ℕ). Reads m xs (opened extra n behind rest)) offset
          (cover-reads xs extra (at + length unit) (live_after live x.item) behind others rest is.5),
    )

-- ---- what is read is what the bytes mean

-- a reading that stops at the header
closed-means : (kind : LogKind) (bytes : List ℕ) (extra : Option (List ℕ)) (items : List ItemAt)
    (fault : Option LogFault) → IsHeaderKind kind bytes → IsReading bytes extra items fault
    → Means bytes extra items fault
closed-means kind bytes extra items fault is reading =
    let s = reading.last in
    let closed : after_header (start bytes) ≡ Err (stop_of kind) = header-closed kind bytes is in
    let n = closed-nothing items bytes s (stop_of kind) closed reading.reads in
    let none : extra ≡ None = reading.extra_is ∙ ap (λ (w : Reading). w.extra) n.1 in
    let next : next_of s ≡ Err (stop_of kind) = sym (next-settle s) ∙ ap next_of n.1
    ∙ next-closed (start bytes) (stop_of kind) closed in
    let state : Ends (next_of s) (start bytes) fault = subst (λ (w : Reading). Ends (next_of s) w fault) n.1
    reading.ends in
    let ends : Ends (Err (stop_of kind)) (start bytes) fault =
    subst (λ (w : Result (ItemAt × Reading) Stop). Ends w (start bytes) fault) next state in
    subst (λ (w : Option (List ℕ)). Means bytes w items fault) (sym none)
    (subst (λ (w : Option LogFault). Means bytes None items w) (sym (closed-fault kind bytes fault ends)) (record {
      no_items = n.0;
      offset = refl;
      kind = is;
    }))

-- a reading that stops after a log, by what is left
left-means : (bytes prefix extra : List ℕ) (items : List ItemAt) (fault : Option LogFault) (s : Reading)
    → bytes ≡ prefix ++ s.rest → length prefix ≡ s.at → IsLog prefix extra items s.live → LeftBy fault s
    → Means bytes (Some extra) items fault
left-means bytes prefix extra items None s parts offset log none =
    let all : prefix ≡ bytes = sym (append-nil prefix) ∙ ap (λ (w : List ℕ). prefix ++ w) (sym none) ∙ sym parts in
    (s.live, subst (λ (w : List ℕ). IsLog w extra items s.live) all log)
left-means bytes prefix extra items (Some fault) s parts offset log left =
    record {
      prefix = prefix;
      rest = s.rest;
      live = s.live;
      whole = parts;
      log = log;
      offset = left.0 ∙ sym offset;
      kind = left.1;
    }

-- a reading after the header
opened-means : (bytes : List ℕ) (h : HasHeader bytes) (extra : Option (List ℕ)) (items : List ItemAt)
    (fault : Option LogFault) → IsReading bytes extra items fault → Means bytes extra items fault
opened-means bytes h extra items fault reading =
    let s : Reading = reading.last in
    let begin : Reading = opened h.extra (length h.header) [] h.records in
    let opens : after_header (start bytes) ≡ Ok begin = ap (λ (w : List ℕ). after_header (start w)) h.parts
    ∙ header-opens h.header h.records h.extra h.is in
    let reads = Reads-opened items (start bytes) begin s opens reading.reads in
    let c = reads-cover items begin s refl reads in
    let some : extra ≡ Some h.extra = reading.extra_is ∙ c.extra in
    let ends : Ends (next_of (settle s)) (settle s) fault = subst
    (λ (w : Result (ItemAt × Reading) Stop). Ends w (settle s) fault) (sym (next-settle s)) reading.ends in
    let parts : bytes ≡ (h.header ++ c.prefix) ++ (settle s).rest = parts_then h.header h.parts c.parts
    ∙ sym (append_assoc h.header c.prefix (settle s).rest) in
    let offset : length (h.header ++ c.prefix) ≡ (settle s).at = omega
    (arith, c.offset, length-append h.header c.prefix) in
    subst (λ (w : Option (List ℕ)). Means bytes w items fault) (sym some)
    (left-means bytes (h.header ++ c.prefix) h.extra items fault (settle s) parts offset (record {
      header = h.header;
      records = c.prefix;
      header_is = h.is;
      whole = refl;
      items_are = c.items_are;
    }) (ends-left fault (settle s) (ap is_some c.extra) ends))

-- what is read is what the bytes mean
pub reading-means : (bytes : List ℕ) (extra : Option (List ℕ)) (items : List ItemAt) (fault : Option LogFault)
    → IsReading bytes extra items fault → Means bytes extra items fault
reading-means bytes extra items fault reading = elim (header-or bytes) [
  | inl h ↦ opened-means bytes h extra items fault reading
  | inr h ↦ closed-means h.0 bytes extra items fault h.1 reading
]

-- ---- what the bytes mean is read

-- after a whole log a reader has read its items
log-reads : (prefix rest extra : List ℕ) (items : List ItemAt) (live : Entries) → IsLog prefix extra items live
    → Reads (start (prefix ++ rest)) items (opened extra (length prefix) live rest)
log-reads prefix rest extra items live log =
    let header : List ℕ = log.header in
    let records : List ℕ = log.records in
    let begin : Reading = opened extra (length header) [] (records ++ rest) in
    let parts : prefix ++ rest ≡ header ++ (records ++ rest) = ap (λ (w : List ℕ). w ++ rest) log.whole
    ∙ append_assoc header records rest in
    let opens : after_header (start (prefix ++ rest)) ≡ Ok begin =
    ap (λ (w : List ℕ). after_header (start w)) parts ∙ header-opens header (records ++ rest) extra log.header_is in
    let offset : length header + length records ≡ length prefix =
    omega (arith, ap length log.whole, length-append header records) in
    let reads : Reads begin items (opened extra (length prefix) live rest) =
    subst (λ (n : ℕ). Reads begin items (opened extra n live rest)) offset
    (cover-reads items extra (length header) [] live records rest log.items_are) in
    Reads-closed items (start (prefix ++ rest)) begin (opened extra (length prefix) live rest) opens reads

-- a log is read, and then the fault of what follows
log-reading : (prefix rest extra : List ℕ) (items : List ItemAt) (live : Entries) (fault : Option LogFault)
    → IsLog prefix extra items live → LeftBy fault (opened extra (length prefix) live rest)
    → IsReading (prefix ++ rest) (Some extra) items fault
log-reading prefix rest extra items live fault log left =
    let s : Reading = opened extra (length prefix) live rest in
    let same : settle s ≡ s = settle-begun s refl in
    record {
      last = s;
      reads = log-reads prefix rest extra items live log;
      extra_is = ap (λ (w : Reading). w.extra) (sym same);
      ends = subst (λ (w : Reading). Ends (next_of s) w fault) (sym same) (left-ends fault s refl left);
    }

-- a header at fault is read as its fault
closed-reading : (bytes : List ℕ) (items : List ItemAt) (fault : LogFault) → IsHeaderFault bytes items fault
    → IsReading bytes None items (Some fault)
closed-reading bytes items fault h =
    let stop : Stop = stop_of fault.kind in
    let closed : after_header (start bytes) ≡ Err stop = header-closed fault.kind bytes h.kind in
    let next : next_of (start bytes) ≡ Err stop = next-closed (start bytes) stop closed in
    let same : settle (start bytes) ≡ start bytes = settle-err (start bytes) stop closed in
    let fault_is : at_offset (start bytes) fault.kind ≡ fault = ap (λ (n : ℕ). record {
      at = n;
      kind = fault.kind;
    }) (sym h.offset) in
    let ends : Ends (Err stop) (start bytes) (Some fault) =
    subst (λ (f : LogFault). Ends (Err stop) (start bytes) (Some f)) fault_is (closed-ends fault.kind bytes) in
    let none : Reads (start bytes) items (start bytes) =
    subst (λ (xs : List ItemAt). Reads (start bytes) xs (start bytes)) (sym h.no_items) refl in
    record {
      last = start bytes;
      reads = none;
      extra_is = ap (λ (w : Reading). w.extra) (sym same);
      ends = subst (λ (w : Reading). Ends (next_of (start bytes)) w (Some fault)) (sym same)
          (subst (λ (w : Result (ItemAt × Reading) Stop). Ends w (start bytes) (Some fault)) (sym next) ends);
    }

-- what the bytes mean is read
pub means-reading : (bytes : List ℕ) (extra : Option (List ℕ)) (items : List ItemAt) (fault : Option LogFault)
    → Means bytes extra items fault → IsReading bytes extra items fault
means-reading bytes (Some extra) items None means =
    subst (λ (w : List ℕ). IsReading w (Some extra) items None) (append-nil bytes)
    (log-reading bytes [] extra items means.0 None means.1 refl)
means-reading bytes (Some extra) items (Some fault) h =
    subst (λ (w : List ℕ). IsReading w (Some extra) items (Some fault)) (sym h.whole)
    (log-reading h.prefix h.rest extra items h.live (Some fault) h.log (h.offset, h.kind))
means-reading bytes None items None means = absurd means
means-reading bytes None items (Some fault) h = closed-reading bytes items fault h

-- ---- each byte string means exactly one thing

-- bytes have one meaning
pub means-one : (bytes : List ℕ) (extra other_extra : Option (List ℕ)) (items others : List ItemAt)
    (fault other : Option LogFault) → Means bytes extra items fault → Means bytes other_extra others other
    → (extra ≡ other_extra) × (items ≡ others) × (fault ≡ other)
means-one bytes extra other_extra items others fault other a b =
    one-reading bytes extra other_extra items others fault other
    (means-reading bytes extra items fault a) (means-reading bytes other_extra others other b)

-- what a reader gave so far begins what the bytes mean
pub items-begin : (bytes : List ℕ) (items others : List ItemAt) (r : Reading) (extra : Option (List ℕ))
    (fault : Option LogFault) → Stands bytes items r → Means bytes extra others fault
    → (more : List ItemAt) × (others ≡ items ++ more)
items-begin bytes items others r extra fault stands means =
    Stands-begins bytes items others r extra fault stands (means-reading bytes extra others fault means)

-- a reader that stands so
abbrev standing : Entries → List ℕ → Reading
standing live rest = opened [] 0 live rest

-- where a record is at fault, the next item stops
kind-stops : (kind : LogKind) (live : Entries) (rest : List ℕ) → IsRecordKind kind live rest
    → next_of (standing live rest) ≡ Err (stop_of kind)
kind-stops Truncated live rest h = left-wanting (standing live rest) refl h
kind-stops BadMagic live rest h = known-next (standing live rest) BadMagic refl h
kind-stops BadVersion live rest h = known-next (standing live rest) BadVersion refl h
kind-stops TooLarge live rest h = known-next (standing live rest) TooLarge refl h
kind-stops SpareBit live rest h = known-next (standing live rest) SpareBit refl h
kind-stops NotLive live rest h = known-next (standing live rest) NotLive refl h
kind-stops ControlShort live rest h = known-next (standing live rest) ControlShort refl h
kind-stops UnknownControl live rest h = known-next (standing live rest) UnknownControl refl h
kind-stops ControlLong live rest h = known-next (standing live rest) ControlLong refl h
kind-stops BadText live rest h = known-next (standing live rest) BadText refl h
kind-stops IdZero live rest h = known-next (standing live rest) IdZero refl h
kind-stops StartTwice live rest h = known-next (standing live rest) StartTwice refl h
kind-stops TooManyLive live rest h = known-next (standing live rest) TooManyLive refl h
kind-stops Misfit live rest h = known-next (standing live rest) Misfit refl h

-- the kind for which reading stops
stop-kind : (kind other : LogKind) → stop_of kind ≡ stop_of other → kind ≡ other
stop-kind kind other e = sym (kind-back kind) ∙ ap back e ∙ kind-back other where
  back : Stop → LogKind
  back Wanting = Truncated
  back (Known kind) = kind

  kind-back : (kind : LogKind) → back (stop_of kind) ≡ kind
  kind-back Truncated = refl
  kind-back BadMagic = refl
  kind-back BadVersion = refl
  kind-back TooLarge = refl
  kind-back SpareBit = refl
  kind-back NotLive = refl
  kind-back ControlShort = refl
  kind-back UnknownControl = refl
  kind-back ControlLong = refl
  kind-back BadText = refl
  kind-back IdZero = refl
  kind-back StartTwice = refl
  kind-back TooManyLive = refl
  kind-back Misfit = refl

-- at most one kind of fault holds
pub kind-one : (kind other : LogKind) (live : Entries) (rest : List ℕ) → IsRecordKind kind live rest
    → IsRecordKind other live rest → kind ≡ other
kind-one kind other live rest a b = stop-kind kind other (err_is {A = ItemAt × Reading} (stop_of kind) (stop_of other)
    (sym (kind-stops kind live rest a) ∙ kind-stops other live rest b))

-- a run to where no item follows
record Run (r : Reading) : Type 0 where
  items : List ItemAt
  last : Reading
  reads : Reads r items last
  ended : IsLast last

-- such a run, by runs of what is left after the next item
run-by : (r : Reading) → begun r ≡ true → ((m : Reading) → begun m ≡ true → length m.rest < length r.rest → Run m)
    → Run r
run-by r on others = by_next (next_of r) refl where
  by_next : (next : Result (ItemAt × Reading) Stop) → next_of r ≡ next → Run r
  by_next (Err stop) e = record { items = []; last = r; reads = refl; ended = λ y is. ok_no_err y stop (sym is ∙ e) }
  by_next (Ok (x, m)) e =
      let run = others m (next-begun r m x on e) (record-forward r (x, m) (sym (next-record r on) ∙ e)).shorter in
      record { items = x ∷ run.items; last = run.last; reads = (m, e, run.reads); ended = run.ended }

-- such a run there always is
run-of : (most : ℕ) (r : Reading) → begun r ≡ true → length r.rest ≤ most → Run r
run-of zero r on short = run-by r on (λ m open_too less. absurd (omega (arith, less)))
run-of (suc most) r on short = run-by r on (λ m open_too less. run-of most m open_too (omega (arith, less)))

-- a fault, or none, where no item follows
ends-some : (next : Result (ItemAt × Reading) Stop) (s : Reading) → ((y : ItemAt × Reading) → next ≡ Ok y → ⊥)
    → (fault : Option LogFault) × Ends next s fault
ends-some (Ok y) s last = absurd (last y refl)
ends-some (Err Wanting) s last = (ending s, refl)
ends-some (Err (Known kind)) s last = (Some (at_offset s kind), refl)

-- bytes have a meaning
pub means-some : (bytes : List ℕ)
    → (extra : Option (List ℕ)) × (items : List ItemAt) × (fault : Option LogFault) × Means bytes extra items fault
means-some bytes = elim (header-or bytes) [
  | inl h ↦
      let begin : Reading = opened h.extra (length h.header) [] h.records in
      let run = run-of (length h.records) begin refl (omega arith) in
      let opens : after_header (start bytes) ≡ Ok begin = ap (λ (w : List ℕ). after_header (start w)) h.parts
      ∙ header-opens h.header h.records h.extra h.is in
      let ends = ends-some (next_of run.last) (settle run.last) run.ended in (
        (settle run.last).extra,
        run.items,
        ends.0,
        reading-means bytes (settle run.last).extra run.items ends.0 (record {
          last = run.last;
          reads = Reads-closed run.items (start bytes) begin run.last opens run.reads;
          extra_is = refl;
          ends = ends.1;
        }),
      )
  | inr h ↦ (
    None,
    [],
    Some (at_offset (start bytes) h.0),
    record { no_items = refl; offset = refl; kind = h.1 },
  )
]

-- ---- a fault stands at the end of the longest prefix that is a log

-- a run to where no item follows goes at least as far as any other
reads-far : (xs ys : List ItemAt) (r s t : Reading) → begun r ≡ true → Reads r xs s → Reads r ys t → IsLast t
    → (settle s).at ≤ (settle t).at
reads-far [] ys r s t on a b last =
    let here : (settle s).at ≡ r.at = ap (λ (w : Reading). w.at) (a ∙ settle-begun r on) in
    let there : (settle t).at ≡ r.at + length (reads-cover ys r t on b).prefix = (reads-cover ys r t on b).offset in
    omega arith
reads-far (x ∷ xs) [] r s t on a b last = absurd (last (x, a.0)
    (sym (next-settle t) ∙ ap next_of b ∙ next-settle r ∙ a.1))
reads-far (x ∷ xs) (y ∷ ys) r s t on a b last =
    let same : (x, a.0) ≡ (y, b.0) = ok_is (x, a.0) (y, b.0) (sym a.1 ∙ b.1) in
    let state : a.0 ≡ b.0 = ap (λ (w : ItemAt × Reading). w.1) same in
    reads-far xs ys b.0 s t (next-begun r b.0 y on b.1) (subst (λ (w : Reading). Reads w xs s) state a.2) b.2 last

-- no log is a longer prefix than the one before the fault
pub fault-farthest : (bytes extra other : List ℕ) (items others : List ItemAt) (fault : LogFault) (n : ℕ)
    (live : Entries) → Means bytes (Some extra) items (Some fault) → n ≤ length bytes
    → IsLog (take n bytes) other others live → n ≤ fault.at
fault-farthest bytes extra other items others fault n live h le log =
    let whole : bytes ≡ take n bytes ++ drop n bytes = sym (take-append-drop n bytes) in
    let prefix : Reading = opened other (length (take n bytes)) live (drop n bytes) in
    let records : List ℕ = log.records ++ drop n bytes in
    let begin : Reading = opened other (length log.header) [] records in
    let opens : after_header (start bytes) ≡ Ok begin = ap (λ (w : List ℕ). after_header (start w))
    (whole ∙ ap (λ (w : List ℕ). w ++ drop n bytes) log.whole ∙ append_assoc log.header log.records (drop n bytes))
    ∙ header-opens log.header records other log.header_is in
    let reads : Reads (start bytes) others prefix = subst (λ (w : List ℕ). Reads (start w) others prefix) (sym whole)
    (log-reads (take n bytes) (drop n bytes) other others live log) in
    let last : Reading = opened extra (length h.prefix) h.live h.rest in
    let ends : Ends (next_of last) last (Some fault) = left-ends (Some fault) last refl (h.offset, h.kind) in
    let run : Reads (start bytes) items last = subst (λ (w : List ℕ). Reads (start w) items last) (sym h.whole)
    (log-reads h.prefix h.rest extra items h.live h.log) in
    let far = reads-far others items begin prefix last refl
    (Reads-opened others (start bytes) begin prefix opens reads)
    (Reads-opened items (start bytes) begin last opens run) (Ends-last (next_of last) last (Some fault) ends) in
    omega (
      arith,
      far,
      ap (λ (w : Reading). w.at) (settle-begun prefix refl),
      ap (λ (w : Reading). w.at) (settle-begun last refl),
      h.offset,
      length-take n bytes,
    )

-- ---- in the midst of a log

-- what was read so far is a whole log of the items
pub reads-prefix : (bytes extra : List ℕ) (items : List ItemAt) (r : Reading) → r.extra ≡ Some extra
    → Reads (start bytes) items r → (bytes ≡ take r.at bytes ++ r.rest) × IsLog (take r.at bytes) extra items r.live
reads-prefix bytes extra items r some reads = by_header (header-or bytes) where
  same : settle r ≡ r
  same = settle-begun r (ap is_some some)

  by_header : HasHeader bytes ⊎ ((kind : LogKind) × IsHeaderKind kind bytes)
      → (bytes ≡ take r.at bytes ++ r.rest) × IsLog (take r.at bytes) extra items r.live
  by_header (inl h) =
      let begin : Reading = opened h.extra (length h.header) [] h.records in
      let opens : after_header (start bytes) ≡ Ok begin = ap (λ (w : List ℕ). after_header (start w)) h.parts
      ∙ header-opens h.header h.records h.extra h.is in
      let c : Covers begin r items = subst (λ (w : Reading). Covers begin w items) same
      (reads-cover items begin r refl (Reads-opened items (start bytes) begin r opens reads)) in
      let parts : bytes ≡ (h.header ++ c.prefix) ++ r.rest = parts_then h.header h.parts c.parts
      ∙ sym (append_assoc h.header c.prefix r.rest) in
      let offset : length (h.header ++ c.prefix) ≡ r.at = omega (arith, c.offset, length-append h.header c.prefix) in
      let prefix : take r.at bytes ≡ h.header ++ c.prefix = ap (take r.at) parts
      ∙ take_at (h.header ++ c.prefix) r.rest r.at offset in
      let held : Some h.extra ≡ Some extra = sym c.extra ∙ some in
      let extra_is : h.extra ≡ extra = cc in (
        parts ∙ ap (λ (w : List ℕ). w ++ r.rest) (sym prefix),
        subst (λ (w : List ℕ). IsLog (take r.at bytes) w items r.live) extra_is (record {
          header = h.header;
          records = c.prefix;
          header_is = h.is;
          whole = prefix;
          items_are = c.items_are;
        }),
      )
  by_header (inr h) =
      let n = closed-nothing items bytes r (stop_of h.0) (header-closed h.0 bytes h.1) reads in
      let none : None ≡ Some extra = sym (ap (λ (w : Reading). w.extra) (sym same ∙ n.1)) ∙ some in
      absurd cc
