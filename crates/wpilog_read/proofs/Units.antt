-- One step of reading against the grammar: after the header an item is read exactly where a lawful record comes next,
-- and a fault is answered exactly where it is known.
use Rattle.std.proofs.Common.{◌≡◌, ◌≢◌, ℕ, ◌+◌, ◌-◌, ◌≤◌, Bool, true, false, ◌⊎◌, inl, inr, List, [], ◌∷◌, ◌++◌, length, Option, None, Some, Result, Ok, Err, refl, sym, ap, subst, ◌∙◌, append_assoc, arith, eqb, nat_lt}
use Rattle.std.specs.Prelude.{is_some}
use Rattle.std.proofs.lemmas.Bool.{ne_eqb, ltb-true, ltb-false}
use Rattle.std.proofs.lemmas.List.{length-append}
use Rattle.wpilog_write.specs.declared.item.LogItem.{LogItem}
use Rattle.wpilog_write.specs.declared.item.LogItem.TheVariants.{Start, Value, SetMeta, Finish}
use Rattle.wpilog_write.specs.Log.{most_bytes, Fields, IsRecord, Entries, is_live, live_after, MayCome, Says, IsItem}
use Rattle.wpilog_read.specs.declared.item_at.ItemAt.{ItemAt}
use Rattle.wpilog_read.specs.declared.fault.LogFault.{LogFault}
use Rattle.wpilog_read.specs.declared.fault.LogKind.{LogKind}
use Rattle.wpilog_read.specs.declared.fault.LogKind.TheVariants.{BadMagic, BadVersion, TooLarge, SpareBit, NotLive, ControlShort, UnknownControl, ControlLong, BadText, IdZero, StartTwice, TooManyLive, Misfit, Truncated}
use Rattle.wpilog_read.specs.declared.fault.Stop.{Stop}
use Rattle.wpilog_read.specs.declared.fault.Stop.TheVariants.{Wanting, Known}
use Rattle.wpilog_read.specs.Meaning.{HasHead, HasRecord, IsKnown, IsRecordWanting, IsRecordKind}
use Rattle.wpilog_read.specs.Reading.{◌>>=◌, head_at, record_at, item_of}
use Rattle.wpilog_read.specs.Run.{Reading, begun, record_next, next_of, at_offset, ending, Ends}
use Rattle.wpilog_read.proofs.Steps.{ok_is, err_is, ok_no_err, bind_err}
use Rattle.wpilog_read.proofs.Records.{is_missing, missing-true, missing-false, record_at-takes, record_at-again, record_at-known, head-known}
use Rattle.wpilog_read.proofs.Says.{IsSaid, item_of-outcome, item_of-again, whole-known}
use Rattle.wpilog_read.proofs.Stable.{step, step-of}
use Rattle.wpilog_read.proofs.Runs.{begun-opened, next-opened}

-- after the header a unit is a record
pub next-record : (r : Reading) → begun r ≡ true → next_of r ≡ record_next r
next-record r is = next-opened r (begun-opened r is)

-- ---- items

-- a lawful record was taken from the prefix
pub record TakesUnit (r : Reading) (x : ItemAt) (m : Reading) : Type 0 where
  pub unit : List ℕ
  pub parts : r.rest ≡ unit ++ m.rest
  pub is : IsItem r.live unit x.item
  pub at : x.at ≡ r.at
  pub offset : m.at ≡ r.at + length unit
  pub live : m.live ≡ live_after r.live x.item

-- what a record says that is read
said-of : (live : Entries) (fields : Fields) (item : LogItem) → (fields.entry ≡ 0) ⊎ (is_live live fields.entry ≡ true)
    → item_of live fields ≡ Ok item → IsSaid live fields item
said-of live fields item known e = elim (item_of-outcome live fields known) [
  | inl h ↦ subst (λ (w : LogItem). IsSaid live fields w) (ok_is h.0 item (sym h.1 ∙ e)) h.2
  | inr h ↦ absurd (ok_no_err item (Known h.0) (sym e ∙ h.1))
]

-- an item that is read is a lawful record
pub next-takes : (r m : Reading) (x : ItemAt) → begun r ≡ true → next_of r ≡ Ok (x, m) → TakesUnit r x m
next-takes r m x on e =
    let s = step-of r (x, m) (sym (next-record r on) ∙ e) in
    let t = record_at-takes r.live r.rest s.fields s.read in
    let i = said-of r.live s.fields.0 s.item t.known s.says in
    let len : length r.rest ≡ length t.prefix + length s.fields.1 = ap length t.parts
    ∙ length-append t.prefix s.fields.1 in
    let far : length r.rest - length s.fields.1 ≡ length t.prefix = omega arith in
    subst (λ (w : ItemAt × Reading). TakesUnit r w.0 w.1) s.is (record {
      unit = t.prefix;
      parts = t.parts;
      is = record {
        fields = s.fields.0;
        is_record = t.is;
        within = t.within;
        says = i.says;
        texts = i.texts;
        may_come = i.may_come;
      };
      at = refl;
      offset = ap (λ (n : ℕ). r.at + n) far;
      live = refl;
    })

-- the entry of an item that may come may have a record
entry-known : (live : Entries) (fields : Fields) (item : LogItem) → Says fields item → MayCome live item
    → (fields.entry ≡ 0) ⊎ (is_live live fields.entry ≡ true)
entry-known live fields (Start time id name typ meta) says may = inl says.0
entry-known live fields (Value time id value) says may = inr (rw says.0 (ap is_some may))
entry-known live fields (SetMeta time id meta) says may = inl says.0
entry-known live fields (Finish time id) says may = inl says.0

-- a lawful record is read
pub next-again : (r : Reading) (unit rest : List ℕ) (item : LogItem) → begun r ≡ true → r.rest ≡ unit ++ rest
    → IsItem r.live unit item
    → next_of r ≡ Ok (
      record { at = r.at; item = item },
      record r { live = live_after r.live item; at = r.at + length unit; rest = rest },
    )
unfolding record_next
next-again r unit rest item on parts is =
    let known = entry-known r.live is.fields item is.says is.may_come in
    let read : record_at r.live r.rest ≡ Ok (is.fields, rest) = ap (record_at r.live) parts
    ∙ record_at-again r.live unit rest is.fields is.is_record is.within known in
    let says : item_of r.live is.fields ≡ Ok item = item_of-again r.live is.fields item (record {
      says = is.says;
      texts = is.texts;
      may_come = is.may_come;
    }) in
    let len : length r.rest ≡ length unit + length rest = ap length parts ∙ length-append unit rest in
    let far : length r.rest - length rest ≡ length unit = omega arith in
    next-record r on ∙ rw (read, says, far) refl

-- ---- faults

-- a step stopped at its record, or at what a whole record says
record Refused (r : Reading) (stop : Stop) : Type 0 where
  fields : Fields × List ℕ
  read : record_at r.live r.rest ≡ Ok fields
  says : item_of r.live fields.0 ≡ Err stop

-- why a step stopped
refused : (r : Reading) (stop : Stop) → begun r ≡ true → next_of r ≡ Err stop
    → (record_at r.live r.rest ≡ Err stop) ⊎ Refused r stop
unfolding record_next
refused r stop on e = elim (bind_err (record_at r.live r.rest) (λ x. item_of r.live x.0 >>= λ item. Ok (step r x item))
    stop (sym (next-record r on) ∙ e)) [
      | inl h ↦ inl h
      | inr a ↦ elim (bind_err (item_of r.live a.0.0) (λ item. Ok (step r a.0 item)) stop a.2) [
        | inl h ↦ inr (record { fields = a.0; read = a.1; says = h })
        | inr b ↦ absurd (ok_no_err (step r a.0 b.0) stop b.2)
      ]
    ]

-- a fault that is answered is known
pub next-known : (r : Reading) (kind : LogKind) → begun r ≡ true → next_of r ≡ Err (Known kind)
    → IsKnown kind r.live r.rest
next-known r kind on e = elim (refused r (Known kind) on e) [
  | inl h ↦ elim (record_at-known r.live r.rest kind h) [ inl first ↦ inl first | inr head ↦ inr (inl head) ]
  | inr h ↦
      let t = record_at-takes r.live r.rest h.fields h.read in
      elim (item_of-outcome r.live h.fields.0 t.known) [
        | inl o ↦ absurd (ok_no_err o.0 (Known kind) (sym o.1 ∙ h.says))
        | inr o ↦
            let stops : Known o.0 ≡ Known kind = err_is {A = LogItem} (Known o.0) (Known kind) (sym o.1 ∙ h.says) in
            let same : o.0 ≡ kind = cc in
            subst (λ (k : LogKind). IsKnown k r.live r.rest) same (inr (inr (
              h.fields.0,
              record {
                unit = t.prefix;
                after = h.fields.1;
                is = t.is;
                parts = t.parts;
                within = t.within;
                known = t.known;
              },
              o.2,
            )))
      ]
]

-- a fault that is known is answered
pub known-next : (r : Reading) (kind : LogKind) → begun r ≡ true → IsKnown kind r.live r.rest
    → next_of r ≡ Err (Known kind)
unfolding record_next
known-next r kind on (inl first) = next-record r on ∙ rw (head-known r.live r.rest kind (inl first)) refl
known-next r kind on (inr (inl head)) = next-record r on ∙ rw (head-known r.live r.rest kind (inr head)) refl
known-next r kind on (inr (inr h)) =
    let fields : Fields = h.0 in
    let has : HasRecord r.live r.rest fields = h.1 in
    let read : record_at r.live r.rest ≡ Ok (fields, has.after) = ap (record_at r.live) has.parts
    ∙ record_at-again r.live has.unit has.after fields has.is has.within has.known in
    next-record r on ∙ rw (read, whole-known kind r.live fields h.2) refl

-- ---- where bytes are wanting

-- where a whole record is, they are not
whole-none : (r : Reading) (unit after : List ℕ) (fields : Fields) → begun r ≡ true → r.rest ≡ unit ++ after
    → IsRecord unit fields → next_of r ≢ Err Wanting
unfolding record_next
whole-none r unit after fields on parts is e = by_size (nat_lt most_bytes (length fields.payload)) refl where
  head : HasHead r.rest (record { entry = fields.entry; size = length fields.payload; time = fields.time })
  head = record {
    front = is.head;
    after = fields.payload ++ after;
    is = is.head_is;
    parts = parts ∙ ap (λ (w : List ℕ). w ++ after) is.whole ∙ append_assoc is.head fields.payload after;
  }

  other : (kind : LogKind) → next_of r ≡ Err (Known kind) → ⊥
  other kind known = let same : Known kind ≡ Wanting = err_is {A = ItemAt × Reading} (Known kind) Wanting
      (sym known ∙ e) in cc

  by_entry : (test : Bool) → is_missing r.live fields.entry ≡ test → length fields.payload ≤ most_bytes → ⊥
  by_entry true missing small =
      let m = missing-true r.live fields.entry missing in
      other NotLive (known-next r NotLive on (inr (inl (_, head, (small, m.0, m.1)))))
  by_entry false live small =
      let known = missing-false r.live fields.entry live in
      let read : record_at r.live r.rest ≡ Ok (fields, after) = ap (record_at r.live) parts
      ∙ record_at-again r.live unit after fields is small known in
      elim (item_of-outcome r.live fields known) [
        | inl o ↦ ok_no_err (step r (fields, after) o.0) Wanting
            (sym (next-record r on ∙ rw (read, o.1) refl) ∙ e)
        | inr o ↦ other o.0 (next-record r on ∙ rw (read, o.1) refl)
      ]

  by_size : (test : Bool) → nat_lt most_bytes (length fields.payload) ≡ test → ⊥
  by_size true large = other TooLarge (known-next r TooLarge on (inr (inl (_, head, ltb-true _ _ large))))
  by_size false small = by_entry (is_missing r.live fields.entry) refl (ltb-false _ _ small)

-- what is left where they are wanting
pub wanting-left : (r : Reading) → begun r ≡ true → next_of r ≡ Err Wanting → r.rest ≢ []
    → IsRecordWanting r.live r.rest
wanting-left r on e some = record {
  some = some;
  unknown = λ kind known. let same : Known kind ≡ Wanting = err_is {A = ItemAt × Reading} (Known kind) Wanting
      (sym (known-next r kind on known) ∙ e) in cc;
  none = λ unit after fields parts is. whole-none r unit after fields on parts is e;
}

-- the same, or nothing is left
pub wanting-or : (r : Reading) → begun r ≡ true → next_of r ≡ Err Wanting
    → (r.rest ≡ []) ⊎ IsRecordWanting r.live r.rest
wanting-or r on e = by_rest r.rest refl where
  by_rest : (rest : List ℕ) → r.rest ≡ rest → (r.rest ≡ []) ⊎ IsRecordWanting r.live r.rest
  by_rest [] is = inl is
  by_rest (first ∷ others) is = inr (wanting-left r on e (λ none. let no : first ∷ others ≡ [] = sym is ∙ none in cc))

-- and the other way round
pub left-wanting : (r : Reading) → begun r ≡ true → IsRecordWanting r.live r.rest → next_of r ≡ Err Wanting
left-wanting r on h = by_next (next_of r) refl where
  by_next : (next : Result (ItemAt × Reading) Stop) → next_of r ≡ next → next ≡ Err Wanting
  by_next (Ok (x, m)) e =
      let t = next-takes r m x on e in
      absurd (h.none t.unit m.rest t.is.fields t.parts t.is.is_record)
  by_next (Err Wanting) e = refl
  by_next (Err (Known kind)) e = absurd (h.unknown kind (next-known r kind on e))

-- nothing is read of no bytes
nothing-wanting : (r : Reading) → begun r ≡ true → r.rest ≡ [] → next_of r ≡ Err Wanting
unfolding record_next record_at head_at
nothing-wanting r on none = next-record r on ∙ rw none refl

-- ---- where no item follows

-- a fault that is known is of its kind
known-kind : (kind : LogKind) (live : Entries) (rest : List ℕ) → IsKnown kind live rest → IsRecordKind kind live rest
known-kind BadMagic live rest h = h
known-kind BadVersion live rest h = h
known-kind TooLarge live rest h = h
known-kind SpareBit live rest h = h
known-kind NotLive live rest h = h
known-kind ControlShort live rest h = h
known-kind UnknownControl live rest h = h
known-kind ControlLong live rest h = h
known-kind BadText live rest h = h
known-kind IdZero live rest h = h
known-kind StartTwice live rest h = h
known-kind TooManyLive live rest h = h
known-kind Misfit live rest h = h
known-kind Truncated live rest (inl h) = absurd h
known-kind Truncated live rest (inr (inl h)) = absurd h.2
known-kind Truncated live rest (inr (inr h)) = absurd h.2.3

-- what is left where no item follows: nothing, or a record at fault
abbrev pub LeftBy : Option LogFault → Reading → Type 0
LeftBy None r = r.rest ≡ []
LeftBy (Some fault) r = (fault.at ≡ r.at) × IsRecordKind fault.kind r.live r.rest

-- a fault after the header is where the reader stands
offset-on : (r : Reading) (kind : LogKind) → begun r ≡ true → (at_offset r kind).at ≡ r.at
offset-on r kind on = rw on refl

-- something is left
some-left : (bytes : List ℕ) → bytes ≢ [] → eqb (length bytes) 0 ≡ false
some-left [] some = absurd (some refl)
some-left (first ∷ bytes) some = ne_eqb (length (first ∷ bytes)) 0 (omega arith)

-- what is left where bytes are wanting
ending-left : (fault : Option LogFault) (r : Reading) → begun r ≡ true → next_of r ≡ Err Wanting → fault ≡ ending r
    → LeftBy fault r
ending-left fault r on wanting e = by_rest r.rest refl where
  by_rest : (rest : List ℕ) → r.rest ≡ rest → LeftBy fault r
  by_rest [] is = let ended : ending r ≡ None = rw (on, is) refl in subst (λ (f : Option LogFault). LeftBy f r)
      (sym (e ∙ ended)) is
  by_rest (first ∷ others) is =
      let left : r.rest ≢ [] = λ none. let no : first ∷ others ≡ [] = sym is ∙ none in cc in
      let ended : ending r ≡ Some (at_offset r Truncated) = rw (on, some-left r.rest left) refl in
      subst (λ (f : Option LogFault). LeftBy f r) (sym (e ∙ ended))
      (offset-on r Truncated on, wanting-left r on wanting left)

-- the fault where no item follows is that of what is left
pub ends-left : (fault : Option LogFault) (r : Reading) → begun r ≡ true → Ends (next_of r) r fault → LeftBy fault r
ends-left fault r on ends = by_next (next_of r) refl ends where
  by_next : (next : Result (ItemAt × Reading) Stop) → next_of r ≡ next → Ends next r fault → LeftBy fault r
  by_next (Ok x) e ends = absurd ends
  by_next (Err Wanting) e ends = ending-left fault r on e ends
  by_next (Err (Known kind)) e ends = subst (λ (f : Option LogFault). LeftBy f r) (sym ends)
      (offset-on r kind on, known-kind kind r.live r.rest (next-known r kind on e))

-- a record at fault ends reading with its fault
kind-ends : (kind : LogKind) (r : Reading) → begun r ≡ true → IsRecordKind kind r.live r.rest
    → Ends (next_of r) r (Some (at_offset r kind))
kind-ends Truncated r on left = rw (left-wanting r on left) (rw (on, some-left r.rest left.some) refl)
kind-ends BadMagic r on left = rw (known-next r BadMagic on left) refl
kind-ends BadVersion r on left = rw (known-next r BadVersion on left) refl
kind-ends TooLarge r on left = rw (known-next r TooLarge on left) refl
kind-ends SpareBit r on left = rw (known-next r SpareBit on left) refl
kind-ends NotLive r on left = rw (known-next r NotLive on left) refl
kind-ends ControlShort r on left = rw (known-next r ControlShort on left) refl
kind-ends UnknownControl r on left = rw (known-next r UnknownControl on left) refl
kind-ends ControlLong r on left = rw (known-next r ControlLong on left) refl
kind-ends BadText r on left = rw (known-next r BadText on left) refl
kind-ends IdZero r on left = rw (known-next r IdZero on left) refl
kind-ends StartTwice r on left = rw (known-next r StartTwice on left) refl
kind-ends TooManyLive r on left = rw (known-next r TooManyLive on left) refl
kind-ends Misfit r on left = rw (known-next r Misfit on left) refl

-- what is left ends reading with its fault
pub left-ends : (fault : Option LogFault) (r : Reading) → begun r ≡ true → LeftBy fault r → Ends (next_of r) r fault
left-ends None r on none = rw (nothing-wanting r on none) (rw (on, none) refl)
left-ends (Some fault) r on left =
    let at : fault.at ≡ (at_offset r fault.kind).at = left.0 ∙ sym (offset-on r fault.kind on) in
    let same : fault ≡ at_offset r fault.kind = ap (λ (at : ℕ). record { at = at; kind = fault.kind }) at in
    subst (λ (f : LogFault). Ends (next_of r) r (Some f)) (sym same) (kind-ends fault.kind r on left.1)
