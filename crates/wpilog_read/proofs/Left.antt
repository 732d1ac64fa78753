-- How many bytes are left where a unit is not whole and no fault is known.
use Rattle.std.proofs.Common.{◌≡◌, ℕ, ◌+◌, ◌/◌, ◌%◌, ◌≤◌, ◌<◌, Bool, true, false, not, inl, inr, List, [], ◌∷◌, ◌++◌, length, take, drop, Option, None, Some, Result, Ok, Err, IfOk, refl, sym, ap, subst, ◌∙◌, arith, ltb, eqb, nat_eq, nat_lt}
use Rattle.std.specs.Prelude.{nat_le, slice_index, is_some, IfNone, if◌then◌else◌}
use Rattle.std.specs.List.{starts_with}
use Rattle.std.proofs.lemmas.Bool.{ltb-true, ltb-false}
use Rattle.std.proofs.lemmas.List.{length-append}
use Rattle.wpilog_write.specs.declared.item.LogItem.{LogItem}
use Rattle.wpilog_write.specs.Log.{most_bytes, number, magic, Head, IsHead, Fields, Entries}
use Rattle.wpilog_read.specs.declared.item_at.ItemAt.{ItemAt}
use Rattle.wpilog_read.specs.declared.fault.LogKind.{LogKind}
use Rattle.wpilog_read.specs.declared.fault.LogKind.TheVariants.{BadMagic, BadVersion, TooLarge, SpareBit, NotLive}
use Rattle.wpilog_read.specs.declared.fault.NextFault.{NextFault}
use Rattle.wpilog_read.specs.declared.fault.Stop.{Stop}
use Rattle.wpilog_read.specs.declared.fault.Stop.TheVariants.{Wanting, Known}
use Rattle.wpilog_read.specs.Reading.{◌>>=◌, unless, bytes_at, number_at, header_at, head_at, record_at, item_of}
use Rattle.wpilog_read.specs.Run.{Reading, begun, passed, after_header, record_next, next_of, settle, most_left}
use Rattle.wpilog_read.proofs.Steps.{err_is, ok_no_err, bind_err, unless_ok, unless_err, bytes_at-takes, number_at-takes}
use Rattle.wpilog_read.proofs.Records.{is_missing, head_at-takes, record_at-takes}
use Rattle.wpilog_read.proofs.Says.{item_of-outcome}
use Rattle.wpilog_read.proofs.Stable.{step}
use Rattle.wpilog_read.proofs.Runs.{begun-opened, next-opened, next-closed, next-settle, settle-ok, settle-settle, Steps}

-- bytes are wanting where there are too few
bytes_at-short : (stop other : Stop) (n : ℕ) (bytes : List ℕ) → bytes_at stop n bytes ≡ Err other → length bytes < n
bytes_at-short stop other n bytes e = by_test (ltb (length bytes) n) refl where
  by_test : (test : Bool) → ltb (length bytes) n ≡ test → length bytes < n
  by_test true is = ltb-true _ _ is
  by_test false is = let no = rw is at e in absurd (ok_no_err (take n bytes, drop n bytes) other no)

number_at-short : (stop other : Stop) (n : ℕ) (bytes : List ℕ) → number_at stop n bytes ≡ Err other → length bytes < n
unfolding number_at
number_at-short stop other n bytes e =
    elim (bind_err (bytes_at stop n bytes) (λ field. Ok (number field.0, field.1)) other e) [
      | inl h ↦ bytes_at-short stop other n bytes h
      | inr a ↦ absurd (ok_no_err (number a.0.0, a.0.1) other a.2)
    ]

-- a test does not want bytes
unless-knows : (test : Bool) (kind : LogKind) → unless test kind ≡ Err Wanting → ⊥
unless-knows test kind e = let same : Wanting ≡ Known kind = (unless_err test kind Wanting e).1 in cc

-- what a number leaves
number_at-left : (stop : Stop) (n : ℕ) (bytes : List ℕ) (x : ℕ × List ℕ) → number_at stop n bytes ≡ Ok x
    → length bytes ≡ n + length x.1
number_at-left stop n bytes x e =
    let t = number_at-takes stop n bytes x e in
    ap length t.parts ∙ length-append t.field x.1 ∙ ap (λ (w : ℕ). w + length x.1) t.len

-- ---- heads

-- a head of these values
abbrev made : ℕ → ℕ → ℕ → Head
made entry size time = record { entry = entry; size = size; time = time }

-- what follows the payload size
abbrev from_time : ℕ → ℕ → ℕ → List ℕ → Result (Head × List ℕ) Stop
from_time first entry size rest = number_at Wanting (first / 16 % 8 + 1) rest >>= λ time.
    Ok (made entry size time.0, time.1)

-- what follows the entry id
abbrev from_size : ℕ → ℕ → List ℕ → Result (Head × List ℕ) Stop
from_size first entry rest = number_at Wanting (first / 4 % 4 + 1) rest >>= λ size. from_time first entry size.0 size.1

-- what follows the first byte
abbrev from_entry : ℕ → List ℕ → Result (Head × List ℕ) Stop
from_entry first rest = number_at Wanting (first % 4 + 1) rest >>= λ entry. from_size first entry.0 entry.1

-- a head has 17 bytes at most
head-short : (bytes : List ℕ) → head_at bytes ≡ Err Wanting → length bytes < 17
unfolding head_at
head-short [] e = omega arith
head-short (first ∷ bytes) e =
    elim (bind_err (unless (nat_le 128 first) SpareBit) (λ clear. from_entry first bytes) Wanting e) [
      | inl h ↦ absurd (unless-knows (nat_le 128 first) SpareBit h)
      | inr z ↦ entry z.2
    ]
  where
    time : (entry size : ℕ) (rest : List ℕ) → from_time first entry size rest ≡ Err Wanting → length rest < 8
    time entry size rest e = elim (bind_err (number_at Wanting (first / 16 % 8 + 1) rest) (λ time.
        Ok (made entry size time.0, time.1)) Wanting e) [
          | inl h ↦ omega (arith, number_at-short Wanting Wanting (first / 16 % 8 + 1) rest h)
          | inr t ↦ absurd (ok_no_err (made entry size t.0.0, t.0.1) Wanting t.2)
        ]

    size : (entry : ℕ) (rest : List ℕ) → from_size first entry rest ≡ Err Wanting → length rest < 12
    size entry rest e = elim (bind_err (number_at Wanting (first / 4 % 4 + 1) rest) (λ size.
        from_time first entry size.0 size.1) Wanting e) [
          | inl h ↦ omega (arith, number_at-short Wanting Wanting (first / 4 % 4 + 1) rest h)
          | inr s ↦ omega (
            arith,
            number_at-left Wanting (first / 4 % 4 + 1) rest s.0 s.1,
            time entry s.0.0 s.0.1 s.2,
          )
        ]

    entry : from_entry first bytes ≡ Err Wanting → length (first ∷ bytes) < 17
    entry e = elim (bind_err (number_at Wanting (first % 4 + 1) bytes) (λ entry. from_size first entry.0 entry.1)
        Wanting e) [
          | inl h ↦ omega (arith, number_at-short Wanting Wanting (first % 4 + 1) bytes h)
          | inr n ↦ omega (arith, number_at-left Wanting (first % 4 + 1) bytes n.0 n.1, size n.0.0 n.0.1 n.2)
        ]

head-within : (bytes : List ℕ) (head : Head) → IsHead bytes head → length bytes ≤ 17
head-within bytes head h =
    omega (
      arith,
      ap length h.whole,
      length-append h.entry (h.size ++ h.time),
      length-append h.size h.time,
      h.first_is.entry_is,
      h.first_is.size_is,
      h.first_is.time_is,
    )

-- ---- records

-- fields of these values
abbrev with_payload : Head → List ℕ → Fields
with_payload head payload = record { entry = head.entry; time = head.time; payload = payload }

-- what follows the tests of a head: the payload
abbrev from_payload : Head → List ℕ → Result (Fields × List ℕ) Stop
from_payload head rest = bytes_at Wanting head.size rest >>= λ payload.
    Ok (with_payload head payload.0, payload.1)

-- what follows the test of its size
abbrev from_known : Entries → Head → List ℕ → Result (Fields × List ℕ) Stop
from_known live head rest = unless (is_missing live head.entry) NotLive >>= λ known. from_payload head rest

-- what follows a head
abbrev from_head : Entries → Head × List ℕ → Result (Fields × List ℕ) Stop
from_head live head = unless (nat_lt most_bytes head.0.size) TooLarge >>= λ small. from_known live head.0 head.1

record-short : (live : Entries) (bytes : List ℕ) → record_at live bytes ≡ Err Wanting → length bytes ≤ 16_777_232
unfolding record_at
record-short live bytes e = elim (bind_err (head_at bytes) (from_head live) Wanting e) [
  | inl h ↦ omega (arith, head-short bytes h)
  | inr a ↦
      let t = head_at-takes bytes a.0 a.1 in
      omega (
        arith,
        ap length t.2,
        length-append t.0 a.0.1,
        head-within t.0 a.0.0 t.1,
        payload a.0.0 a.0.1 a.2,
      )
]
  where
    payload : (head : Head) (rest : List ℕ) → from_head live (head, rest) ≡ Err Wanting → length rest < 16_777_216
    payload head rest e = elim (bind_err (unless (nat_lt most_bytes head.size) TooLarge) (λ small.
        from_known live head rest) Wanting e) [
          | inl h ↦ absurd (unless-knows (nat_lt most_bytes head.size) TooLarge h)
          | inr b ↦
              let small : head.size ≤ most_bytes = ltb-false _ _ (unless_ok (nat_lt most_bytes head.size) TooLarge b.0 b.1)
              in
              elim (bind_err (unless (is_missing live head.entry) NotLive) (λ known. from_payload head rest) Wanting b.2) [
                | inl h ↦ absurd (unless-knows (is_missing live head.entry) NotLive h)
                | inr c ↦ elim (bind_err (bytes_at Wanting head.size rest) (λ payload.
                    Ok (with_payload head payload.0, payload.1)) Wanting c.2) [
                      | inl h ↦ omega (arith, small, bytes_at-short Wanting Wanting head.size rest h)
                      | inr d ↦ absurd (ok_no_err (with_payload head d.0.0, d.0.1) Wanting d.2)
                    ]
              ]
        ]

-- ---- headers

-- what follows the length of the extra header
abbrev from_len : ℕ × List ℕ → Result (List ℕ × List ℕ) Stop
from_len len = unless (nat_lt most_bytes len.0) TooLarge >>= λ small. bytes_at Wanting len.0 len.1

-- what follows the first eight bytes
abbrev from_version : List ℕ × List ℕ → Result (List ℕ × List ℕ) Stop
from_version begin = unless (not (eqb (slice_index begin.0 7) 1)) BadVersion >>= λ major.
    number_at Wanting 4 begin.1 >>= from_len

header-short : (bytes : List ℕ) → header_at bytes ≡ Err Wanting → length bytes ≤ 16_777_227
unfolding header_at
header-short bytes e = elim (bind_err (unless (not (starts_with nat_eq magic (take 6 bytes))) BadMagic) (λ agrees.
    bytes_at Wanting 8 bytes >>= from_version) Wanting e) [
      | inl h ↦ absurd (unless-knows (not (starts_with nat_eq magic (take 6 bytes))) BadMagic h)
      | inr a ↦ elim (bind_err (bytes_at Wanting 8 bytes) from_version Wanting a.2) [
        | inl h ↦ omega (arith, bytes_at-short Wanting Wanting 8 bytes h)
        | inr b ↦
            let t = bytes_at-takes Wanting 8 bytes b.0 b.1 in
            omega (arith, ap length t.parts, length-append b.0.0 b.0.1, t.len, version b.0 b.2)
      ]
    ]
  where
    extra : (len : ℕ × List ℕ) → from_len len ≡ Err Wanting → length len.1 < 16_777_216
    extra len e = elim (bind_err (unless (nat_lt most_bytes len.0) TooLarge) (λ small. bytes_at Wanting len.0 len.1)
        Wanting e) [
          | inl h ↦ absurd (unless-knows (nat_lt most_bytes len.0) TooLarge h)
          | inr b ↦
              let small : len.0 ≤ most_bytes = ltb-false _ _ (unless_ok (nat_lt most_bytes len.0) TooLarge b.0 b.1) in
              omega (arith, small, bytes_at-short Wanting Wanting len.0 len.1 b.2)
        ]

    version : (begin : List ℕ × List ℕ) → from_version begin ≡ Err Wanting → length begin.1 < 16_777_220
    version begin e = elim (bind_err (unless (not (eqb (slice_index begin.0 7) 1)) BadVersion) (λ major.
        number_at Wanting 4 begin.1 >>= from_len) Wanting e) [
          | inl h ↦ absurd (unless-knows (not (eqb (slice_index begin.0 7) 1)) BadVersion h)
          | inr c ↦ elim (bind_err (number_at Wanting 4 begin.1) from_len Wanting c.2) [
            | inl h ↦ omega (arith, number_at-short Wanting Wanting 4 begin.1 h)
            | inr d ↦ omega (arith, number_at-left Wanting 4 begin.1 d.0 d.1, extra d.0 d.2)
          ]
        ]

-- ---- a reader

-- where a record is not whole
left-record : (r : Reading) → record_next r ≡ Err Wanting → length r.rest ≤ 16_777_232
unfolding record_next
left-record r e = elim (bind_err (record_at r.live r.rest) (λ fields. item_of r.live fields.0 >>= λ item.
    Ok (step r fields item)) Wanting e) [
      | inl h ↦ record-short r.live r.rest h
      | inr a ↦ elim (bind_err (item_of r.live a.0.0) (λ item. Ok (step r a.0 item)) Wanting a.2) [
        | inl h ↦ absurd (says a.0 a.1 h)
        | inr b ↦ absurd (ok_no_err (step r a.0 b.0) Wanting b.2)
      ]
    ]
  where
    says : (fields : Fields × List ℕ) → record_at r.live r.rest ≡ Ok fields → item_of r.live fields.0 ≡ Err Wanting → ⊥
    says fields read e = elim (item_of-outcome r.live fields.0 (record_at-takes r.live r.rest fields read).known) [
      | inl o ↦ ok_no_err o.0 Wanting (sym o.1 ∙ e)
      | inr o ↦ let same : Known o.0 ≡ Wanting = err_is {A = LogItem} (Known o.0) Wanting (sym o.1 ∙ e) in cc
    ]

-- where the header was not taken
left-header : (r : Reading) → r.extra ≡ None → next_of r ≡ Err Wanting → settle r ≡ r → length r.rest ≤ 16_777_227
unfolding after_header
left-header r none e same = by_read (header_at r.rest) refl where
  by_read : (read : Result (List ℕ × List ℕ) Stop) → header_at r.rest ≡ read → length r.rest ≤ 16_777_227
  by_read (Ok x) is =
      let h : Reading = record (passed r x.1) { extra = Some x.0 } in
      let opened : after_header r ≡ Ok h = rw (none, is) refl in
      let some : Some x.0 ≡ None = ap (λ (w : Reading). w.extra) (sym (settle-ok r h opened) ∙ same) ∙ none in
      absurd cc
  by_read (Err stop) is =
      let closed : after_header r ≡ Err stop = rw (none, is) refl in
      let wanting : stop ≡ Wanting = err_is {A = ItemAt × Reading} stop Wanting (sym (next-closed r stop closed) ∙ e) in
      header-short r.rest (subst (λ (w : Stop). header_at r.rest ≡ Err w) wanting is)

-- by whether the header was taken
most-by : (r : Reading) (taken : Bool) → begun r ≡ taken
    → length r.rest ≤ (if taken then 16_777_232 else 16_777_227) → length r.rest ≤ most_left r
most-by r taken is most =
    subst (λ (w : Bool). length r.rest ≤ (if w then 16_777_232 else 16_777_227)) (sym is) most

-- where no unit is whole, and the header was taken if it is
left-within : (r : Reading) → next_of r ≡ Err Wanting → settle r ≡ r → length r.rest ≤ most_left r
left-within r e same = by_extra r.extra refl where
  by_extra : (extra : Option (List ℕ)) → r.extra ≡ extra → length r.rest ≤ most_left r
  by_extra None is = most-by r false (ap is_some is) (left-header r is e same)
  by_extra (Some extra) is =
      let on : begun r ≡ true = ap is_some is in
      most-by r true on (left-record r (sym (next-opened r (begun-opened r on)) ∙ e))

-- what is kept after a step that answered `None`
pub Steps-left : (r m : Reading) (result : Result (Option ItemAt) NextFault) → Steps r m result
    → IfOk result (λ o. IfNone o (length m.rest ≤ most_left m))
Steps-left r m (Ok (Some x)) s = tt
Steps-left r m (Ok None) s = subst (λ (w : Reading). length w.rest ≤ most_left w) (sym s.none.1)
    (left-within (settle r) (next-settle r ∙ s.none.0) (settle-settle r))
Steps-left r m (Err e) s = tt
