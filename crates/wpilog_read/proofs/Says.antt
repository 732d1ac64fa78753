-- What a record says against the grammar: each whole record is of an item that may come, or has a fault.
use Rattle.std.proofs.Common.{◌≡◌, ◌≢◌, ℕ, Bool, true, false, not, cond, ◌⊎◌, inl, inr, List, [], ◌∷◌, ◌++◌, length, Option, None, Some, Result, Ok, Err, refl, sym, ap, subst, ◌∙◌, append-nil, eqb}
use Rattle.std.specs.Prelude.{is_some, nat_le}
use Rattle.std.specs.Str.{IsUtf8, is_utf8}
use Rattle.std.proofs.lemmas.Bool.{eqb-true, eqb-false, ne_eqb, eq-eqb, leb-true, leb-false, le-leb, lt-leb}
use Rattle.std.proofs.lemmas.Str.{IsUtf8-from_is_utf8, is_utf8-from_IsUtf8}
use Rattle.wpilog_write.specs.declared.item.LogItem.{LogItem}
use Rattle.wpilog_write.specs.declared.item.LogItem.TheVariants.{Start, Value, SetMeta, Finish}
use Rattle.wpilog_write.specs.declared.item.LogType.{LogType}
use Rattle.wpilog_write.specs.declared.item.LogValue.{LogValue}
use Rattle.wpilog_write.specs.Log.{most_live, Fields, Entries, type_of, is_live, value_type, MayCome, Says, HasTexts}
use Rattle.wpilog_read.specs.declared.fault.LogKind.{LogKind}
use Rattle.wpilog_read.specs.declared.fault.LogKind.TheVariants.{BadMagic, BadVersion, TooLarge, SpareBit, NotLive, ControlShort, UnknownControl, ControlLong, BadText, IdZero, StartTwice, TooManyLive, Misfit, Truncated}
use Rattle.wpilog_read.specs.declared.fault.Stop.{Stop}
use Rattle.wpilog_read.specs.declared.fault.Stop.TheVariants.{Known}
use Rattle.wpilog_read.specs.Meaning.{IsUnknown, Breaks, IsWholeKind}
use Rattle.wpilog_read.specs.Reading.{◌>>=◌, short, misfit, unless, control_of, typed_value, value_of, item_of}
use Rattle.wpilog_read.proofs.Steps.{failed, err_is, ok_no_err}
use Rattle.wpilog_read.proofs.Texts.{text_of-text, text_of-other}
use Rattle.wpilog_read.proofs.Controls.{of, Spells, checks, HasFront, whole-read, long-read, unknown-read, shape}
use Rattle.wpilog_read.proofs.Values.{typed_value-takes, typed_value-again, typed_value-stops}

-- ---- texts

-- bytes are text or not
is_text : (bytes : List ℕ) → IsUtf8 bytes ⊎ ¬ IsUtf8 bytes
is_text bytes = by_test (is_utf8 bytes) refl where
  by_test : (test : Bool) → is_utf8 bytes ≡ test → IsUtf8 bytes ⊎ ¬ IsUtf8 bytes
  by_test true e = inl (IsUtf8-from_is_utf8 bytes e)
  by_test false e = inr (λ h. let yes : true ≡ false = sym (is_utf8-from_IsUtf8 bytes h) ∙ e in cc)

-- the tests of live entries
abbrev rules : Entries → LogItem → Result LogItem Stop
rules live (Start time id name typ meta) = unless (eqb id 0) IdZero >>= λ nonzero.
    unless (is_live live id) StartTwice >>= λ new.
    unless (nat_le most_live (length live)) TooManyLive >>= λ room. Ok (Start time id name typ meta)
rules live (Value time id value) = Ok (Value time id value)
rules live (SetMeta time id meta) = unless (not (is_live live id)) NotLive >>= λ known. Ok (SetMeta time id meta)
rules live (Finish time id) = unless (not (is_live live id)) NotLive >>= λ known. Ok (Finish time id)

-- an item whose texts are text
texts-pass : (live : Entries) (item : LogItem) → HasTexts item → checks live item ≡ rules live item
texts-pass live (Start time id name typ meta) h =
    rw (text_of-text name name h.0 refl, text_of-text typ typ h.1 refl, text_of-text meta meta h.2 refl) refl
texts-pass live (Value time id value) h = refl
texts-pass live (SetMeta time id meta) h = rw (text_of-text meta meta h refl) refl
texts-pass live (Finish time id) h = refl

-- another
texts-stop : (live : Entries) (item : LogItem) → ¬ HasTexts item → checks live item ≡ Err (Known BadText)
texts-stop live (Start time id name typ meta) h = elim (is_text name) [
  | inr n ↦ rw (text_of-other name n) refl
  | inl n ↦ elim (is_text typ) [
    | inr t ↦ rw (text_of-text name name n refl, text_of-other typ t) refl
    | inl t ↦ elim (is_text meta) [
      | inr m ↦ rw (text_of-text name name n refl, text_of-text typ typ t refl, text_of-other meta m) refl
      | inl m ↦ absurd (h (n, t, m))
    ]
  ]
]
texts-stop live (Value time id value) h = absurd (h tt)
texts-stop live (SetMeta time id meta) h = rw (text_of-other meta h) refl
texts-stop live (Finish time id) h = absurd (h tt)

-- an item's texts are text or not
has_texts : (item : LogItem) → HasTexts item ⊎ ¬ HasTexts item
has_texts (Start time id name typ meta) = elim (is_text name) [
  | inr n ↦ inr (λ h. n h.0)
  | inl n ↦ elim (is_text typ) [
    | inr t ↦ inr (λ h. t h.1)
    | inl t ↦ elim (is_text meta) [ inr m ↦ inr (λ h. m h.2) | inl m ↦ inl (n, t, m) ]
  ]
]
has_texts (Value time id value) = inl tt
has_texts (SetMeta time id meta) = is_text meta
has_texts (Finish time id) = inl tt

-- ---- live entries

-- an item may come, or breaks a rule
abbrev Judged : Entries → LogItem → Type 0
Judged live item = ((rules live item ≡ Ok item) × MayCome live item)
    ⊎ ((kind : LogKind) × (rules live item ≡ Err (Known kind)) × Breaks kind live item)

judged : (live : Entries) (time : ℕ) (payload : List ℕ) (item : LogItem) → Spells time payload item → Judged live item
judged live time payload (Start t id name typ meta) h = by_zero (eqb id 0) refl where
  by_room : (test : Bool) → nat_le most_live (length live) ≡ test → eqb id 0 ≡ false → is_live live id ≡ false
      → Judged live (Start t id name typ meta)
  by_room true full zero new = inr (
    TooManyLive,
    rw (zero, new, full) refl,
    (eqb-false id 0 zero, new, leb-true _ _ full),
  )
  by_room false room zero new = inl (rw (zero, new, room) refl, (eqb-false id 0 zero, new, leb-false _ _ room))

  by_live : (test : Bool) → is_live live id ≡ test → eqb id 0 ≡ false → Judged live (Start t id name typ meta)
  by_live true live_is zero = inr (StartTwice, rw (zero, live_is) refl, (eqb-false id 0 zero, live_is))
  by_live false new zero = by_room (nat_le most_live (length live)) refl zero new

  by_zero : (test : Bool) → eqb id 0 ≡ test → Judged live (Start t id name typ meta)
  by_zero true zero = inr (IdZero, rw zero refl, eqb-true id 0 zero)
  by_zero false zero = by_live (is_live live id) refl zero
judged live time payload (Value t id value) h = absurd (h.1 (sym h.0))
judged live time payload (SetMeta t id meta) h = by_live (is_live live id) refl where
  by_live : (test : Bool) → is_live live id ≡ test → Judged live (SetMeta t id meta)
  by_live true live_is = inl (rw live_is refl, live_is)
  by_live false missing = inr (NotLive, rw missing refl, missing)
judged live time payload (Finish t id) h = by_live (is_live live id) refl where
  by_live : (test : Bool) → is_live live id ≡ test → Judged live (Finish t id)
  by_live true live_is = inl (rw live_is refl, live_is)
  by_live false missing = inr (NotLive, rw missing refl, missing)

-- an item that may come passes the tests
rules-pass : (live : Entries) (item : LogItem) → MayCome live item → rules live item ≡ Ok item
rules-pass live (Start time id name typ meta) h =
    let nonzero : eqb id 0 ≡ false = ne_eqb id 0 h.0 in
    let room : nat_le most_live (length live) ≡ false = lt-leb _ _ h.2 in
    rw (nonzero, h.1, room) refl
rules-pass live (Value time id value) h = refl
rules-pass live (SetMeta time id meta) h = rw h refl
rules-pass live (Finish time id) h = rw h refl

-- one that breaks a rule stops there
starts-stop : (kind : LogKind) (live : Entries) (time id : ℕ) (name typ meta : List ℕ)
    → Breaks kind live (Start time id name typ meta) → rules live (Start time id name typ meta) ≡ Err (Known kind)
starts-stop BadMagic live time id name typ meta h = absurd h
starts-stop BadVersion live time id name typ meta h = absurd h
starts-stop TooLarge live time id name typ meta h = absurd h
starts-stop SpareBit live time id name typ meta h = absurd h
starts-stop NotLive live time id name typ meta h = absurd h
starts-stop ControlShort live time id name typ meta h = absurd h
starts-stop UnknownControl live time id name typ meta h = absurd h
starts-stop ControlLong live time id name typ meta h = absurd h
starts-stop BadText live time id name typ meta h = absurd h
starts-stop IdZero live time id name typ meta h = let zero : eqb id 0 ≡ true = eq-eqb id 0 h in rw zero refl
starts-stop StartTwice live time id name typ meta h = let zero : eqb id 0 ≡ false = ne_eqb id 0 h.0 in
    rw (zero, h.1) refl
starts-stop TooManyLive live time id name typ meta h =
    let zero : eqb id 0 ≡ false = ne_eqb id 0 h.0 in
    let full : nat_le most_live (length live) ≡ true = le-leb _ _ h.2 in
    rw (zero, h.1, full) refl
starts-stop Misfit live time id name typ meta h = absurd h
starts-stop Truncated live time id name typ meta h = absurd h

-- of a missing entry, the only rule that a Set Metadata and a Finish can break
only-missing : (kind : LogKind) (live : Entries) (time id : ℕ) (meta : List ℕ)
    → Breaks kind live (SetMeta time id meta) ⊎ Breaks kind live (Finish time id)
    → (kind ≡ NotLive) × (is_live live id ≡ false)
only-missing BadMagic live time id meta h = elim h [ inl never ↦ absurd never | inr never ↦ absurd never ]
only-missing BadVersion live time id meta h = elim h [ inl never ↦ absurd never | inr never ↦ absurd never ]
only-missing TooLarge live time id meta h = elim h [ inl never ↦ absurd never | inr never ↦ absurd never ]
only-missing SpareBit live time id meta h = elim h [ inl never ↦ absurd never | inr never ↦ absurd never ]
only-missing NotLive live time id meta h = elim h [ inl is ↦ (refl, is) | inr is ↦ (refl, is) ]
only-missing ControlShort live time id meta h = elim h [ inl never ↦ absurd never | inr never ↦ absurd never ]
only-missing UnknownControl live time id meta h = elim h [ inl never ↦ absurd never | inr never ↦ absurd never ]
only-missing ControlLong live time id meta h = elim h [ inl never ↦ absurd never | inr never ↦ absurd never ]
only-missing BadText live time id meta h = elim h [ inl never ↦ absurd never | inr never ↦ absurd never ]
only-missing IdZero live time id meta h = elim h [ inl never ↦ absurd never | inr never ↦ absurd never ]
only-missing StartTwice live time id meta h = elim h [ inl never ↦ absurd never | inr never ↦ absurd never ]
only-missing TooManyLive live time id meta h = elim h [ inl never ↦ absurd never | inr never ↦ absurd never ]
only-missing Misfit live time id meta h = elim h [ inl never ↦ absurd never | inr never ↦ absurd never ]
only-missing Truncated live time id meta h = elim h [ inl never ↦ absurd never | inr never ↦ absurd never ]

-- a Value breaks none
values-break : (kind : LogKind) (live : Entries) (time id : ℕ) (value : LogValue)
    → ¬ Breaks kind live (Value time id value)
values-break BadMagic live time id value h = h
values-break BadVersion live time id value h = h
values-break TooLarge live time id value h = h
values-break SpareBit live time id value h = h
values-break NotLive live time id value h = h
values-break ControlShort live time id value h = h
values-break UnknownControl live time id value h = h
values-break ControlLong live time id value h = h
values-break BadText live time id value h = h
values-break IdZero live time id value h = h
values-break StartTwice live time id value h = h
values-break TooManyLive live time id value h = h
values-break Misfit live time id value h = h
values-break Truncated live time id value h = h

rules-stop : (kind : LogKind) (live : Entries) (item : LogItem) → Breaks kind live item
    → rules live item ≡ Err (Known kind)
rules-stop kind live (Start time id name typ meta) h = starts-stop kind live time id name typ meta h
rules-stop kind live (Value time id value) h = absurd (values-break kind live time id value h)
rules-stop kind live (SetMeta time id meta) h =
    let only = only-missing kind live time id meta (inl h) in
    rw only.1 (ap (λ (k : LogKind). failed (Known k)) (sym only.0))
rules-stop kind live (Finish time id) h =
    let only = only-missing kind live time id [] (inr h) in
    rw only.1 (ap (λ (k : LogKind). failed (Known k)) (sym only.0))

-- ---- control records

-- a record says an item that may come
pub record IsSaid (live : Entries) (fields : Fields) (item : LogItem) : Type 0 where
  pub says : Says fields item
  pub texts : HasTexts item
  pub may_come : MayCome live item

-- what is read of a record, and what that is by the grammar
abbrev Outcome : Entries → Fields → Result LogItem Stop → Type 0
Outcome live fields read = ((item : LogItem) × (read ≡ Ok item) × IsSaid live fields item)
    ⊎ ((kind : LogKind) × (read ≡ Err (Known kind)) × IsWholeKind kind live fields)

-- a rule that an item breaks is a kind of fault
rule-kind : (kind : LogKind) (live : Entries) (fields : Fields) (item : LogItem) → Says fields item → HasTexts item
    → Breaks kind live item → IsWholeKind kind live fields
rule-kind BadMagic live fields item says texts h = (item, says, texts, h)
rule-kind BadVersion live fields item says texts h = (item, says, texts, h)
rule-kind TooLarge live fields item says texts h = (item, says, texts, h)
rule-kind SpareBit live fields item says texts h = (item, says, texts, h)
rule-kind NotLive live fields item says texts h = (item, says, texts, h)
rule-kind ControlShort live fields item says texts h = absurd h
rule-kind UnknownControl live fields item says texts h = absurd h
rule-kind ControlLong live fields item says texts h = absurd h
rule-kind BadText live fields item says texts h = absurd h
rule-kind IdZero live fields item says texts h = (item, says, texts, h)
rule-kind StartTwice live fields item says texts h = (item, says, texts, h)
rule-kind TooManyLive live fields item says texts h = (item, says, texts, h)
rule-kind Misfit live fields item says texts h = absurd h
rule-kind Truncated live fields item says texts h = (item, says, texts, h)

-- a payload that is the fields of an item
whole-outcome : (live : Entries) (time : ℕ) (payload : List ℕ) (item : LogItem) → Spells time payload item
    → Outcome live (of 0 time payload) (control_of live time payload)
whole-outcome live time payload item is = elim (has_texts item) [
  | inr bad ↦ inr (BadText, read ∙ texts-stop live item bad, (item, is, bad))
  | inl texts ↦ elim (judged live time payload item is) [
    | inl may ↦ inl (
      item,
      read ∙ texts-pass live item texts ∙ may.0,
      record { says = is; texts = texts; may_come = may.1 },
    )
    | inr broken ↦ inr (
      broken.0,
      read ∙ texts-pass live item texts ∙ broken.1,
      rule-kind broken.0 live (of 0 time payload) item is texts broken.2,
    )
  ]
] where
  read : control_of live time payload ≡ checks live item
  read = whole-read live time payload item is

-- the fields of an item are never too short
front-long : (live : Entries) (time : ℕ) (payload front after : List ℕ) (item : LogItem) → payload ≡ front ++ after
    → Spells time front item → control_of live time payload ≢ Err short
front-long live time payload front [] item parts is e =
    let same : front ≡ payload = sym (append-nil front) ∙ sym parts in
    let whole : Spells time payload item = subst (λ (w : List ℕ). Spells time w item) same is in
    let read = whole-read live time payload item whole in
    elim (has_texts item) [
      | inr bad ↦ let no : failed {A = LogItem} (Known BadText) ≡ failed short = sym (read ∙ texts-stop live item bad)
          ∙ e in cc
      | inl texts ↦ elim (judged live time payload item whole) [
        | inl may ↦ ok_no_err item short (sym (read ∙ texts-pass live item texts ∙ may.0) ∙ e)
        | inr broken ↦
            let same : Known broken.0 ≡ short = err_is {A = LogItem} (Known broken.0) short
            (sym (read ∙ texts-pass live item texts ∙ broken.1) ∙ e) in
            let kind : broken.0 ≡ ControlShort = cc in
            subst (λ (k : LogKind). Breaks k live item) kind broken.2
      ]
    ]
front-long live time payload front (b ∷ after) item parts is e =
    let no : failed {A = LogItem} (Known ControlLong) ≡ failed short =
    sym (long-read live time payload front (b ∷ after) item parts (λ none. cc) is) ∙ e in
    cc

control-outcome : (live : Entries) (time : ℕ) (payload : List ℕ)
    → Outcome live (of 0 time payload) (control_of live time payload)
control-outcome live time payload = elim (shape live time payload) [
  | inl unknown ↦ inr (UnknownControl, unknown-read live time payload unknown, (refl, unknown))
  | inr known ↦ elim known [
    | inl h ↦ by_after h.after h h.parts
    | inr h ↦ inr (
      ControlShort,
      h.read,
      (refl, h.known, λ front after item parts is. front-long live time payload front after item parts is h.read),
    )
  ]
] where
  by_after : (after : List ℕ) (h : HasFront time payload) → payload ≡ h.front ++ after
      → Outcome live (of 0 time payload) (control_of live time payload)
  by_after [] h parts = whole-outcome live time payload h.item
      (subst (λ (w : List ℕ). Spells time w h.item) (sym (append-nil h.front) ∙ sym parts) h.is)
  by_after (b ∷ after) h parts = inr (
    ControlLong,
    long-read live time payload h.front (b ∷ after) h.item parts (λ none. cc) h.is,
    (refl, h.front, b ∷ after, h.item, parts, (λ none. cc), h.is),
  )

-- ---- values

value-outcome : (live : Entries) (time id : ℕ) (payload : List ℕ) → id ≢ 0 → is_live live id ≡ true
    → Outcome live (of id time payload) (value_of live time id payload)
unfolding value_of
value-outcome live time id payload nonzero known = by_type (type_of live id) refl known where
  by_value : (typ : LogType) → type_of live id ≡ Some typ → (read : Result LogValue Stop)
      → typed_value typ payload ≡ read → Outcome live (of id time payload) (value_of live time id payload)
  by_value typ is (Ok value) e =
      let t = typed_value-takes typ payload value e in
      inl (
        Value time id value,
        rw (is, e) refl,
        record {
          says = (refl, nonzero, refl, t.1);
          texts = tt;
          may_come = is ∙ ap (λ (w : LogType). Some w) (sym t.0);
        },
      )
  by_value typ is (Err stop) e =
      let only : stop ≡ misfit = typed_value-stops typ payload stop e in
      inr (
        Misfit,
        rw (is, e, only) refl,
        (
          nonzero,
          typ,
          is,
          λ value same h. ok_no_err value stop (sym (typed_value-again typ payload value same h) ∙ e),
        ),
      )

  by_type : (o : Option LogType) → type_of live id ≡ o → is_some o ≡ true
      → Outcome live (of id time payload) (value_of live time id payload)
  by_type None is some = absurd cc
  by_type (Some typ) is some = by_value typ is (typed_value typ payload) refl

-- ---- items

-- what is read of a record whose head isn't at fault
pub item_of-outcome : (live : Entries) (fields : Fields) → (fields.entry ≡ 0) ⊎ (is_live live fields.entry ≡ true)
    → Outcome live fields (item_of live fields)
unfolding item_of
item_of-outcome live fields known = by_entry (eqb fields.entry 0) refl where
  by_entry : (test : Bool) → eqb fields.entry 0 ≡ test → Outcome live fields
      (cond test (control_of live fields.time fields.payload) (value_of live fields.time fields.entry fields.payload))
  by_entry true is = subst (λ (n : ℕ). Outcome live (of n fields.time fields.payload)
      (control_of live fields.time fields.payload)) (sym (eqb-true fields.entry 0 is))
      (control-outcome live fields.time fields.payload)
  by_entry false is =
      let nonzero = eqb-false fields.entry 0 is in
      elim known [
        | inl zero ↦ absurd (nonzero zero)
        | inr live_is ↦ value-outcome live fields.time fields.entry fields.payload nonzero live_is
      ]

-- ---- what is said is read

-- a record of entry 0 is read as a control record
item-control : (live : Entries) (fields : Fields) → fields.entry ≡ 0
    → item_of live fields ≡ control_of live fields.time fields.payload
unfolding item_of
item-control live fields zero = rw zero refl

-- a control record that says an item
said-control : (live : Entries) (fields : Fields) (item : LogItem) → fields.entry ≡ 0 → Says fields item
    → item_of live fields ≡ checks live item
said-control live fields item zero says = item-control live fields zero
    ∙ whole-read live fields.time fields.payload item
    (subst (λ (n : ℕ). Says (of n fields.time fields.payload) item) zero says)

-- a record that says a value
value-again : (live : Entries) (fields : Fields) (time id : ℕ) (value : LogValue)
    → IsSaid live fields (Value time id value) → item_of live fields ≡ Ok (Value time id value)
unfolding item_of value_of
value-again live fields time id value h =
    let other : eqb id 0 ≡ false = ne_eqb id 0 h.says.1 in
    rw (h.says.0, h.says.2, other, h.may_come, typed_value-again (value_type value) fields.payload value refl h.says.3)
    refl

-- an item that may come is read
pub item_of-again : (live : Entries) (fields : Fields) (item : LogItem) → IsSaid live fields item
    → item_of live fields ≡ Ok item
item_of-again live fields (Start time id name typ meta) h =
    said-control live fields (Start time id name typ meta) h.says.0 h.says
    ∙ texts-pass live (Start time id name typ meta) h.texts ∙ rules-pass live (Start time id name typ meta) h.may_come
item_of-again live fields (Value time id value) h = value-again live fields time id value h
item_of-again live fields (SetMeta time id meta) h =
    said-control live fields (SetMeta time id meta) h.says.0 h.says
    ∙ texts-pass live (SetMeta time id meta) h.texts ∙ rules-pass live (SetMeta time id meta) h.may_come
item_of-again live fields (Finish time id) h =
    said-control live fields (Finish time id) h.says.0 h.says
    ∙ texts-pass live (Finish time id) h.texts ∙ rules-pass live (Finish time id) h.may_come

-- ---- a fault is known

-- an item that breaks a rule
broken-known : (kind : LogKind) (live : Entries) (fields : Fields) (item : LogItem) → Says fields item
    → HasTexts item → Breaks kind live item → item_of live fields ≡ Err (Known kind)
broken-known kind live fields (Start time id name typ meta) says texts h =
    said-control live fields (Start time id name typ meta) says.0 says
    ∙ texts-pass live (Start time id name typ meta) texts ∙ rules-stop kind live (Start time id name typ meta) h
broken-known kind live fields (Value time id value) says texts h = absurd (values-break kind live time id value h)
broken-known kind live fields (SetMeta time id meta) says texts h =
    said-control live fields (SetMeta time id meta) says.0 says
    ∙ texts-pass live (SetMeta time id meta) texts ∙ rules-stop kind live (SetMeta time id meta) h
broken-known kind live fields (Finish time id) says texts h =
    said-control live fields (Finish time id) says.0 says
    ∙ texts-pass live (Finish time id) texts ∙ rules-stop kind live (Finish time id) h

-- an item with a text that isn't
text-known : (live : Entries) (fields : Fields) (item : LogItem) → Says fields item → ¬ HasTexts item
    → item_of live fields ≡ Err (Known BadText)
text-known live fields (Start time id name typ meta) says bad =
    said-control live fields (Start time id name typ meta) says.0 says
    ∙ texts-stop live (Start time id name typ meta) bad
text-known live fields (Value time id value) says bad = absurd (bad tt)
text-known live fields (SetMeta time id meta) says bad =
    said-control live fields (SetMeta time id meta) says.0 says ∙ texts-stop live (SetMeta time id meta) bad
text-known live fields (Finish time id) says bad = absurd (bad tt)

-- a payload that ends before its fields
short-known : (live : Entries) (time : ℕ) (payload : List ℕ) → ¬ IsUnknown payload
    → ((front after : List ℕ) (item : LogItem) → payload ≡ front ++ after → ¬ Spells time front item)
    → control_of live time payload ≡ Err short
short-known live time payload known none = elim (shape live time payload) [
  | inl unknown ↦ absurd (known unknown)
  | inr h ↦ elim h [ inl h ↦ absurd (none h.front h.after h.item h.parts h.is) | inr h ↦ h.read ]
]

-- a payload that is none of its type
misfit-known : (live : Entries) (fields : Fields) → IsWholeKind Misfit live fields
    → item_of live fields ≡ Err misfit
unfolding item_of value_of
misfit-known live fields h = by_value (typed_value h.1 fields.payload) refl where
  other : eqb fields.entry 0 ≡ false
  other = ne_eqb fields.entry 0 h.0

  by_value : (read : Result LogValue Stop) → typed_value h.1 fields.payload ≡ read
      → item_of live fields ≡ Err misfit
  by_value (Ok value) e =
      let t = typed_value-takes h.1 fields.payload value e in
      absurd (h.3 value t.0 t.1)
  by_value (Err stop) e = rw (other, h.2, e, typed_value-stops h.1 fields.payload stop e) refl

-- a fault of a whole record is known
pub whole-known : (kind : LogKind) (live : Entries) (fields : Fields) → IsWholeKind kind live fields
    → item_of live fields ≡ Err (Known kind)
whole-known ControlShort live fields h = item-control live fields h.0 ∙ short-known live fields.time fields.payload h.1
    (λ front after item parts is. h.2 front after item parts
    (subst (λ (n : ℕ). Says (of n fields.time front) item) (sym h.0) is))
whole-known UnknownControl live fields h = item-control live fields h.0
    ∙ unknown-read live fields.time fields.payload h.1
whole-known ControlLong live fields h = item-control live fields h.0
    ∙ long-read live fields.time fields.payload h.1 h.2 h.3 h.4 h.5
    (subst (λ (n : ℕ). Says (of n fields.time h.1) h.3) h.0 h.6)
whole-known BadText live fields h = text-known live fields h.0 h.1 h.2
whole-known Misfit live fields h = misfit-known live fields h
whole-known BadMagic live fields h = broken-known BadMagic live fields h.0 h.1 h.2 h.3
whole-known BadVersion live fields h = broken-known BadVersion live fields h.0 h.1 h.2 h.3
whole-known TooLarge live fields h = broken-known TooLarge live fields h.0 h.1 h.2 h.3
whole-known SpareBit live fields h = broken-known SpareBit live fields h.0 h.1 h.2 h.3
whole-known NotLive live fields h = broken-known NotLive live fields h.0 h.1 h.2 h.3
whole-known IdZero live fields h = broken-known IdZero live fields h.0 h.1 h.2 h.3
whole-known StartTwice live fields h = broken-known StartTwice live fields h.0 h.1 h.2 h.3
whole-known TooManyLive live fields h = broken-known TooManyLive live fields h.0 h.1 h.2 h.3
whole-known Truncated live fields h = broken-known Truncated live fields h.0 h.1 h.2 h.3
