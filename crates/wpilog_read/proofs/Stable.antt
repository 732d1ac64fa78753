-- What is known of a prefix stays known, whatever bytes come after.
use Rattle.std.proofs.Common.{◌≡◌, ℕ, zero, suc, ◌+◌, ◌-◌, ◌≤◌, ◌<◌, true, inl, inr, List, [], ◌∷◌, ◌++◌, length, take, Option, None, Some, Ok, Err, refl, ap, subst, ◌∙◌, append_assoc, arith}
use Rattle.std.proofs.lemmas.List.{length-append}
use Rattle.wpilog_write.specs.declared.item.LogItem.{LogItem}
use Rattle.wpilog_write.specs.Log.{magic, Head, Fields, Entries, live_after}
use Rattle.wpilog_read.specs.declared.fault.LogFault.{LogFault}
use Rattle.wpilog_read.specs.declared.fault.LogKind.{LogKind}
use Rattle.wpilog_read.specs.declared.fault.LogKind.TheVariants.{BadMagic, BadVersion, TooLarge, SpareBit, NotLive, ControlShort, UnknownControl, ControlLong, BadText, IdZero, StartTwice, TooManyLive, Misfit, Truncated}
use Rattle.wpilog_read.specs.declared.fault.Stop.TheVariants.{Known}
use Rattle.wpilog_read.specs.declared.item_at.ItemAt.{ItemAt}
use Rattle.wpilog_read.specs.Meaning.{IsHeaderKnown, IsFirstKind, HasHead}
use Rattle.wpilog_read.specs.Reading.{◌>>=◌, header_at, record_at, item_of}
use Rattle.wpilog_read.specs.Run.{Reading, begun, after_header, record_next, next_of}
use Rattle.wpilog_read.proofs.Steps.{done, ok_is, ok_no_err, bind_ok, bind_err}
use Rattle.wpilog_read.proofs.Headers.{header_at-takes, header_at-again, header_at-known, header-known}
use Rattle.wpilog_read.proofs.Records.{record_at-takes, record_at-again, record_at-known, head-known, record_at-after}

-- a reader that more bytes have come to, after those that are not read yet
abbrev pub more : Reading → List ℕ → Reading
more r piece = record r { rest = r.rest ++ piece }

-- ---- the header

-- the first bytes of more of them
take-more : (n : ℕ) (xs ys : List ℕ) → take n (xs ++ ys) ≡ take n xs ++ take (n - length xs) ys
take-more zero xs ys = let none : 0 - length xs ≡ 0 = omega arith in rw none refl
take-more (suc n) [] ys = let all : suc n - 0 ≡ suc n = omega arith in rw all refl
take-more (suc n) (x ∷ xs) ys =
    let less : suc n - suc (length xs) ≡ n - length xs = omega arith in
    rw less (ap (λ (w : List ℕ). x ∷ w) (take-more n xs ys))

-- a fault that is known of a header stays known
known-more : (kind : LogKind) (bytes piece : List ℕ) → IsHeaderKnown kind bytes → IsHeaderKnown kind (bytes ++ piece)
known-more BadMagic bytes piece h = λ others is.
    h (take (6 - length bytes) piece ++ others) (is ∙ ap (λ (w : List ℕ). w ++ others) (take-more 6 bytes piece)
    ∙ append_assoc (take 6 bytes) (take (6 - length bytes) piece) others)
known-more BadVersion bytes piece h = (h.0, h.1, h.2 ++ piece, ap (λ (w : List ℕ). w ++ piece) h.3, h.4)
known-more TooLarge bytes piece h = (
  h.0,
  h.1,
  h.2 ++ piece,
  h.3,
  ap (λ (w : List ℕ). w ++ piece) h.4 ∙ ap (λ (w : List ℕ). magic ++ (h.0 ∷ 1 ∷ w)) (append_assoc h.1 h.2 piece),
  h.5,
  h.6,
)
known-more SpareBit bytes piece h = absurd h
known-more NotLive bytes piece h = absurd h
known-more ControlShort bytes piece h = absurd h
known-more UnknownControl bytes piece h = absurd h
known-more ControlLong bytes piece h = absurd h
known-more BadText bytes piece h = absurd h
known-more IdZero bytes piece h = absurd h
known-more StartTwice bytes piece h = absurd h
known-more TooManyLive bytes piece h = absurd h
known-more Misfit bytes piece h = absurd h
known-more Truncated bytes piece h = absurd h

-- a header that is read is read where more bytes come
header_at-more : (bytes piece : List ℕ) (x : List ℕ × List ℕ) → header_at bytes ≡ Ok x
    → header_at (bytes ++ piece) ≡ Ok (x.0, x.1 ++ piece)
header_at-more bytes piece x e =
    let t = header_at-takes bytes x e in
    let parts : bytes ++ piece ≡ t.0 ++ (x.1 ++ piece) = ap (λ (w : List ℕ). w ++ piece) t.2
    ∙ append_assoc t.0 x.1 piece in
    ap header_at parts ∙ header_at-again t.0 (x.1 ++ piece) x.0 t.1

-- how far a reader goes does not depend on what comes after
same-far : (a b piece : List ℕ) → length (a ++ piece) - length (b ++ piece) ≡ length a - length b
same-far a b piece = omega (arith, length-append a piece, length-append b piece)

-- a reader before the header
abbrev before : Entries → ℕ → List ℕ → Option LogFault → Reading
before live at rest fault = record { extra = None; live = live; at = at; rest = rest; fault = fault }

-- after it
abbrev behind : List ℕ → Entries → ℕ → List ℕ → Option LogFault → Reading
behind extra live at rest fault = record { extra = Some extra; live = live; at = at; rest = rest; fault = fault }

-- after a header that was read of these bytes
abbrev opened_to : Entries → ℕ → List ℕ → Option LogFault → List ℕ × List ℕ → Reading
opened_to live at rest fault x = behind x.0 live (at + (length rest - length x.1)) x.1 fault

-- the same by the fields
header-more_at : (extra : Option (List ℕ)) (live : Entries) (at : ℕ) (rest : List ℕ) (fault : Option LogFault)
    (h : Reading) (piece : List ℕ)
    → after_header (record { extra = extra; live = live; at = at; rest = rest; fault = fault }) ≡ Ok h
    → after_header (record { extra = extra; live = live; at = at; rest = rest ++ piece; fault = fault })
    ≡ Ok (more h piece)
unfolding after_header
header-more_at (Some extra) live at rest fault h piece e = ap (λ (w : Reading). done (more w piece))
    (ok_is (behind extra live at rest fault) h e)
header-more_at None live at rest fault h piece e =
    let a = bind_ok (header_at rest) (λ x. Ok (opened_to live at rest fault x)) h e in
    rw (header_at-more rest piece a.0 a.1, same-far rest a.0.1 piece)
    (ap (λ (w : Reading). done (more w piece)) (ok_is (opened_to live at rest fault a.0) h a.2))

pub header-more : (r h : Reading) (piece : List ℕ) → after_header r ≡ Ok h
    → after_header (more r piece) ≡ Ok (more h piece)
header-more r h piece e = header-more_at r.extra r.live r.at r.rest r.fault h piece e

-- a header that is wrong stays wrong, by the fields
header-wrong_at : (extra : Option (List ℕ)) (live : Entries) (at : ℕ) (rest : List ℕ) (fault : Option LogFault)
    (kind : LogKind) (piece : List ℕ)
    → after_header (record { extra = extra; live = live; at = at; rest = rest; fault = fault }) ≡ Err (Known kind)
    → after_header (record { extra = extra; live = live; at = at; rest = rest ++ piece; fault = fault })
    ≡ Err (Known kind)
unfolding after_header
header-wrong_at (Some extra) live at rest fault kind piece e = absurd (ok_no_err (behind extra live at rest fault)
    (Known kind) e)
header-wrong_at None live at rest fault kind piece e =
    elim (bind_err (header_at rest) (λ x. Ok (opened_to live at rest fault x)) (Known kind) e) [
      | inl h ↦ rw (header-known (rest ++ piece) kind (known-more kind rest piece (header_at-known rest kind h))) refl
      | inr a ↦ absurd (ok_no_err (opened_to live at rest fault a.0) (Known kind) a.2)
    ]

pub header-wrong : (r : Reading) (kind : LogKind) (piece : List ℕ) → after_header r ≡ Err (Known kind)
    → after_header (more r piece) ≡ Err (Known kind)
header-wrong r kind piece e = header-wrong_at r.extra r.live r.at r.rest r.fault kind piece e

-- a reader that has the header after it
pub record Opened (r h : Reading) : Type 0 where
  pub again : after_header h ≡ Ok h
  pub begun : begun h ≡ true
  pub live : h.live ≡ r.live
  pub fault : h.fault ≡ r.fault
  pub shorter : length h.rest ≤ length r.rest

-- a header that is read is after the reader, by the fields
opened_at : (extra : Option (List ℕ)) (live : Entries) (at : ℕ) (rest : List ℕ) (fault : Option LogFault) (h : Reading)
    → after_header (record { extra = extra; live = live; at = at; rest = rest; fault = fault }) ≡ Ok h
    → Opened (record { extra = extra; live = live; at = at; rest = rest; fault = fault }) h
unfolding after_header
opened_at (Some extra) live at rest fault h e =
    subst (λ (w : Reading). Opened (behind extra live at rest fault) w) (ok_is (behind extra live at rest fault) h e)
    (record { again = refl; begun = refl; live = refl; fault = refl; shorter = omega arith })
opened_at None live at rest fault h e =
    let a = bind_ok (header_at rest) (λ x. Ok (opened_to live at rest fault x)) h e in
    let t = header_at-takes rest a.0 a.1 in
    let len : length rest ≡ length t.0 + length a.0.1 = ap length t.2 ∙ length-append t.0 a.0.1 in
    subst (λ (w : Reading). Opened (before live at rest fault) w) (ok_is (opened_to live at rest fault a.0) h a.2)
    (record { again = refl; begun = refl; live = refl; fault = refl; shorter = omega arith })

pub header-again : (r h : Reading) → after_header r ≡ Ok h → Opened r h
header-again r h e = opened_at r.extra r.live r.at r.rest r.fault h e

-- ---- records

-- where a reader stands after a record with this item, and what it gives
abbrev pub step : Reading → Fields × List ℕ → LogItem → ItemAt × Reading
step r fields item = (
  record { at = r.at; item = item },
  record r { live = live_after r.live item; at = r.at + (length r.rest - length fields.1); rest = fields.1 },
)

-- what a step read
pub record Step (r : Reading) (y : ItemAt × Reading) : Type 0 where
  pub fields : Fields × List ℕ
  pub item : LogItem
  pub read : record_at r.live r.rest ≡ Ok fields
  pub says : item_of r.live fields.0 ≡ Ok item
  pub is : step r fields item ≡ y

-- an item that is read comes of a step
pub step-of : (r : Reading) (y : ItemAt × Reading) → record_next r ≡ Ok y → Step r y
unfolding record_next
step-of r y e =
    let a = bind_ok (record_at r.live r.rest) (λ fields. item_of r.live fields.0 >>= λ item. Ok (step r fields item)) y
    e in
    let b = bind_ok (item_of r.live a.0.0) (λ item. Ok (step r a.0 item)) y a.2 in
    record { fields = a.0; item = b.0; read = a.1; says = b.1; is = ok_is (step r a.0 b.0) y b.2 }

-- a record that is read is read where more bytes come
record_at-more : (live : Entries) (bytes piece : List ℕ) (x : Fields × List ℕ) → record_at live bytes ≡ Ok x
    → record_at live (bytes ++ piece) ≡ Ok (x.0, x.1 ++ piece)
record_at-more live bytes piece x e =
    let t = record_at-takes live bytes x e in
    let parts : bytes ++ piece ≡ t.prefix ++ (x.1 ++ piece) = ap (λ (w : List ℕ). w ++ piece) t.parts
    ∙ append_assoc t.prefix x.1 piece in
    ap (record_at live) parts ∙ record_at-again live t.prefix (x.1 ++ piece) x.0 t.is t.within t.known

-- a fault that is known of a first byte stays known
first-more : (kind : LogKind) (bytes piece : List ℕ) → IsFirstKind kind bytes → IsFirstKind kind (bytes ++ piece)
first-more SpareBit bytes piece h = (h.0, h.1 ++ piece, ap (λ (w : List ℕ). w ++ piece) h.2, h.3)
first-more BadMagic bytes piece h = absurd h
first-more BadVersion bytes piece h = absurd h
first-more TooLarge bytes piece h = absurd h
first-more NotLive bytes piece h = absurd h
first-more ControlShort bytes piece h = absurd h
first-more UnknownControl bytes piece h = absurd h
first-more ControlLong bytes piece h = absurd h
first-more BadText bytes piece h = absurd h
first-more IdZero bytes piece h = absurd h
first-more StartTwice bytes piece h = absurd h
first-more TooManyLive bytes piece h = absurd h
first-more Misfit bytes piece h = absurd h
first-more Truncated bytes piece h = absurd h

-- a head stays one
head-more : (bytes piece : List ℕ) (head : Head) → HasHead bytes head → HasHead (bytes ++ piece) head
head-more bytes piece head h = record {
  front = h.front;
  after = h.after ++ piece;
  is = h.is;
  parts = ap (λ (w : List ℕ). w ++ piece) h.parts ∙ append_assoc h.front h.after piece;
}

-- where no record is read for a fault, none is however the bytes go on
record_at-wrong : (live : Entries) (bytes piece : List ℕ) (kind : LogKind) → record_at live bytes ≡ Err (Known kind)
    → record_at live (bytes ++ piece) ≡ Err (Known kind)
record_at-wrong live bytes piece kind e = head-known live (bytes ++ piece) kind
    (elim (record_at-known live bytes kind e) [
      | inl h ↦ inl (first-more kind bytes piece h)
      | inr h ↦ inr (h.0, head-more bytes piece h.0 h.1, h.2)
    ])

-- an item that is read is read where more bytes come
record-more : (r : Reading) (piece : List ℕ) (y : ItemAt × Reading) → record_next r ≡ Ok y
    → record_next (more r piece) ≡ Ok (y.0, more y.1 piece)
unfolding record_next
record-more r piece y e =
    let s = step-of r y e in
    let here : record_next (more r piece) ≡ Ok ((step r s.fields s.item).0, more (step r s.fields s.item).1 piece) =
    rw (record_at-more r.live r.rest piece s.fields s.read, s.says, same-far r.rest s.fields.1 piece) refl in
    here ∙ ap (λ (w : ItemAt × Reading). done (w.0, more w.1 piece)) s.is

-- a fault of a record stays known
record-wrong : (r : Reading) (piece : List ℕ) (kind : LogKind) → record_next r ≡ Err (Known kind)
    → record_next (more r piece) ≡ Err (Known kind)
unfolding record_next
record-wrong r piece kind e = elim (bind_err (record_at r.live r.rest)
    (λ fields. item_of r.live fields.0 >>= λ item. Ok (step r fields item)) (Known kind) e) [
      | inl h ↦ rw (record_at-wrong r.live r.rest piece kind h) refl
      | inr a ↦ elim (bind_err (item_of r.live a.0.0) (λ item. Ok (step r a.0 item)) (Known kind) a.2) [
        | inl h ↦ rw (record_at-more r.live r.rest piece a.0 a.1, h) refl
        | inr b ↦ absurd (ok_no_err (step r a.0 b.0) (Known kind) b.2)
      ]
    ]

-- a reader that has an item after it
pub record Forward (r m : Reading) : Type 0 where
  pub shorter : length m.rest < length r.rest
  pub extra : m.extra ≡ r.extra
  pub fault : m.fault ≡ r.fault

pub record-forward : (r : Reading) (y : ItemAt × Reading) → record_next r ≡ Ok y → Forward r y.1
record-forward r y e =
    let s = step-of r y e in
    let b = record_at-after r.live r.rest s.fields s.read in
    let len : length r.rest ≡ length b.prefix + length s.fields.1 = ap length b.parts
    ∙ length-append b.prefix s.fields.1 in
    let some : 0 < length b.prefix = b.some in
    subst (λ (w : ItemAt × Reading). Forward r w.1) s.is (record { shorter = omega arith; extra = refl; fault = refl })

-- ---- any unit

-- an item that is read is read where more bytes come
pub next-more : (r : Reading) (piece : List ℕ) (y : ItemAt × Reading) → next_of r ≡ Ok y
    → next_of (more r piece) ≡ Ok (y.0, more y.1 piece)
unfolding next_of
next-more r piece y e =
    let a = bind_ok (after_header r) record_next y e in
    rw (header-more r a.0 piece a.1) (record-more a.0 piece y a.2)

-- a fault that is known stays known
pub next-wrong : (r : Reading) (piece : List ℕ) (kind : LogKind) → next_of r ≡ Err (Known kind)
    → next_of (more r piece) ≡ Err (Known kind)
unfolding next_of
next-wrong r piece kind e = elim (bind_err (after_header r) record_next (Known kind) e) [
  | inl h ↦ rw (header-wrong r kind piece h) refl
  | inr a ↦ rw (header-more r a.0 piece a.1) (record-wrong a.0 piece kind a.2)
]

-- the fault of a reader stays as it gives an item
pub next-fault : (r : Reading) (y : ItemAt × Reading) → next_of r ≡ Ok y → y.1.fault ≡ r.fault
unfolding next_of
next-fault r y e =
    let a = bind_ok (after_header r) record_next y e in
    (record-forward a.0 y a.2).fault ∙ (header-again r a.0 a.1).fault
