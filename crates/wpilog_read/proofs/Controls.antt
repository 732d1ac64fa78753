-- Control records against their payloads: each payload says one item, with bytes after it or none, or has a fault.
use Rattle.std.proofs.Common.{◌≡◌, ◌≢◌, ℕ, ◌<◌, Bool, true, false, not, ◌⊎◌, inl, inr, List, [], ◌∷◌, ◌++◌, length, Result, Ok, Err, refl, sym, ap, subst, ◌∙◌, append_assoc, append-nil, arith, eqb}
use Rattle.std.specs.Prelude.{nat_le}
use Rattle.std.proofs.lemmas.Bool.{eqb-true, eqb-false, ne_eqb}
use Rattle.std.proofs.lemmas.List.{nil_from_length}
use Rattle.wpilog_write.specs.declared.item.LogItem.{LogItem}
use Rattle.wpilog_write.specs.declared.item.LogItem.TheVariants.{Start, Value, SetMeta, Finish}
use Rattle.wpilog_write.specs.Log.{most_live, Fields, IsStart, IsFinish, IsSetMeta, Entries, is_live, Says}
use Rattle.wpilog_read.specs.declared.fault.LogKind.{LogKind}
use Rattle.wpilog_read.specs.declared.fault.LogKind.TheVariants.{NotLive, UnknownControl, ControlLong, IdZero, StartTwice, TooManyLive}
use Rattle.wpilog_read.specs.declared.fault.Stop.{Stop}
use Rattle.wpilog_read.specs.declared.fault.Stop.TheVariants.{Known}
use Rattle.wpilog_read.specs.Meaning.{IsUnknown}
use Rattle.wpilog_read.specs.Reading.{◌>>=◌, short, unless, number_at, string_at, text_of, StartFields, start_fields, start_of, finish_of, set_meta_of, control_of}
use Rattle.wpilog_read.proofs.Steps.{failed, StopsAt, parts_then, number_at-takes, number_at-again, number_at-stops, string_at-takes, string_at-again, string_at-stops}

-- fields of these values
abbrev pub of : ℕ → ℕ → List ℕ → Fields
of entry time payload = record { entry = entry; time = time; payload = payload }

-- a control record with this payload says this item
abbrev pub Spells : ℕ → List ℕ → LogItem → Type 0
Spells time payload item = Says (of 0 time payload) item

-- ---- what follows the fields

-- the tests of texts and of live entries
abbrev pub checks : Entries → LogItem → Result LogItem Stop
checks live (Start time id name typ meta) =
    text_of name >>= λ n. text_of typ >>= λ t. text_of meta >>= λ m.
    unless (eqb id 0) IdZero >>= λ nonzero. unless (is_live live id) StartTwice >>= λ new.
    unless (nat_le most_live (length live)) TooManyLive >>= λ room. Ok (Start time id n t m)
checks live (Value time id value) = Ok (Value time id value)
checks live (SetMeta time id meta) = text_of meta >>= λ text. unless (not (is_live live id)) NotLive >>= λ known.
    Ok (SetMeta time id text)
checks live (Finish time id) = unless (not (is_live live id)) NotLive >>= λ known. Ok (Finish time id)

-- no bytes may follow
abbrev ended : List ℕ → Result (Unit {0}) Stop
ended after = unless (not (eqb (length after) 0)) ControlLong

-- a test and then a value
ended-then : {A B : Type 0} (test : Bool) (kind : LogKind) (x : A) (f : A → Result B Stop)
    → ((unless test kind >>= λ passed. Ok x) >>= f) ≡ (unless test kind >>= λ passed. f x)
ended-then true kind x f = refl
ended-then false kind x f = refl

-- ---- fields that are there

-- fields of these values
abbrev made : ℕ → List ℕ → List ℕ → List ℕ → StartFields
made id name typ meta = record { id = id; name = name; typ = typ; meta = meta }

start-fields : (front after : List ℕ) (id : ℕ) (name typ meta : List ℕ) → IsStart (0 ∷ front) id name typ meta
    → start_fields (front ++ after) ≡ (ended after >>= λ passed. Ok (made id name typ meta))
unfolding start_fields
start-fields front after id name typ meta h =
    let whole : front ≡ h.id_at ++ (h.name_at ++ (h.typ_at ++ h.meta_at)) = (let e = h.whole in cc) in
    let parts : front ++ after ≡ h.id_at ++ (h.name_at ++ (h.typ_at ++ (h.meta_at ++ after))) =
    ap (λ (w : List ℕ). w ++ after) whole ∙ simp append_assoc in
    rw (
      parts,
      number_at-again short 4 h.id_at (h.name_at ++ (h.typ_at ++ (h.meta_at ++ after))) h.id_is.len_is,
      string_at-again short h.name_at name (h.typ_at ++ (h.meta_at ++ after)) h.name_is,
      string_at-again short h.typ_at typ (h.meta_at ++ after) h.typ_is,
      string_at-again short h.meta_at meta after h.meta_is,
      h.id_is.value,
    ) refl

-- what is read of a payload that begins with the fields of an item
pub front-read : (live : Entries) (time : ℕ) (front after : List ℕ) (item : LogItem) → Spells time front item
    → control_of live time (front ++ after) ≡ (ended after >>= λ passed. checks live item)
unfolding control_of start_of finish_of set_meta_of
front-read live time front after (Start t id name typ meta) h =
    let is : IsStart front id name typ meta = h.2 in
    let bytes : List ℕ = is.id_at ++ (is.name_at ++ (is.typ_at ++ is.meta_at)) in
    let here : IsStart (0 ∷ bytes) id name typ meta = subst (λ (w : List ℕ). IsStart w id name typ meta) is.whole is in
    rw (is.whole, start-fields bytes after id name typ meta here, ← h.1)
    (ended-then (not (eqb (length after) 0)) ControlLong (made id name typ meta) _)
front-read live time front after (Value t id value) h = absurd (h.1 (sym h.0))
front-read live time front after (SetMeta t id meta) h =
    let is : IsSetMeta front id meta = h.2 in
    let parts : front ++ after ≡ 2 ∷ (is.id_at ++ (is.meta_at ++ after)) = ap (λ (w : List ℕ). w ++ after) is.whole
    ∙ simp append_assoc in
    rw (
      parts,
      number_at-again short 4 is.id_at (is.meta_at ++ after) is.id_is.len_is,
      string_at-again short is.meta_at meta after is.meta_is,
      is.id_is.value,
      ← h.1,
    ) refl
front-read live time front after (Finish t id) h =
    let is : IsFinish front id = h.2 in
    let parts : front ++ after ≡ 1 ∷ (is.id_at ++ after) = ap (λ (w : List ℕ). w ++ after) is.whole in
    rw (parts, number_at-again short 4 is.id_at after is.id_is.len_is, is.id_is.value, ← h.1) refl

-- a payload that is the fields of an item
pub whole-read : (live : Entries) (time : ℕ) (payload : List ℕ) (item : LogItem) → Spells time payload item
    → control_of live time payload ≡ checks live item
whole-read live time payload item h = ap (control_of live time) (sym (append-nil payload))
    ∙ front-read live time payload [] item h

-- bytes that follow them
pub long-read : (live : Entries) (time : ℕ) (payload front after : List ℕ) (item : LogItem)
    → payload ≡ front ++ after → after ≢ [] → Spells time front item
    → control_of live time payload ≡ Err (Known ControlLong)
long-read live time payload front after item parts some h =
    let left : eqb (length after) 0 ≡ false = ne_eqb (length after) 0 (λ none. some (nil_from_length after none)) in
    ap (control_of live time) parts ∙ front-read live time front after item h ∙ rw left refl

-- another first byte
pub unknown-read : (live : Entries) (time : ℕ) (payload : List ℕ) → IsUnknown payload
    → control_of live time payload ≡ Err (Known UnknownControl)
unfolding control_of
unknown-read live time payload h =
    let zero : eqb h.0 0 ≡ false = ne_eqb h.0 0 (λ e. omega (arith, h.3)) in
    let one : eqb h.0 1 ≡ false = ne_eqb h.0 1 (λ e. omega (arith, h.3)) in
    let two : eqb h.0 2 ≡ false = ne_eqb h.0 2 (λ e. omega (arith, h.3)) in
    rw (h.2, zero, one, two) refl

-- ---- each payload has one of these shapes

-- a front of the payload has the fields of an item
pub record HasFront (time : ℕ) (payload : List ℕ) : Type 0 where
  pub front : List ℕ
  pub after : List ℕ
  pub item : LogItem
  pub parts : payload ≡ front ++ after
  pub is : Spells time front item

-- a chain that finds a front, or stops for want of bytes
or-short : {A B : Type 0} (P : Type 0) (r : Result A Stop) (f : A → Result B Stop) → StopsAt short r
    → ((x : A) → r ≡ Ok x → P ⊎ (f x ≡ Err short)) → P ⊎ ((r >>= f) ≡ Err short)
or-short P (Ok x) f stops later = later x refl
or-short P (Err stop) f stops later = inr (ap (λ (s : Stop). failed s) (stops stop refl))

-- the same of a Start
start-or : (live : Entries) (time : ℕ) (bytes : List ℕ) → HasFront time (0 ∷ bytes)
    ⊎ (start_of live time bytes ≡ Err short)
unfolding start_of start_fields
start-or live time bytes = by_fields fields where
  fields : HasFront time (0 ∷ bytes) ⊎ (start_fields bytes ≡ Err short)
  fields = or-short (HasFront time (0 ∷ bytes)) (number_at short 4 bytes) _ (number_at-stops short 4 bytes)
      (λ id e. or-short (HasFront time (0 ∷ bytes)) (string_at short id.1) _ (string_at-stops short id.1)
      (λ name f. or-short (HasFront time (0 ∷ bytes)) (string_at short name.1) _ (string_at-stops short name.1)
      (λ typ g. or-short (HasFront time (0 ∷ bytes)) (string_at short typ.1) _ (string_at-stops short typ.1)
      (λ meta h. inl (found id name typ meta e f g h)))))
    where
      found : (id : ℕ × List ℕ) (name typ meta : List ℕ × List ℕ) → number_at short 4 bytes ≡ Ok id
          → string_at short id.1 ≡ Ok name → string_at short name.1 ≡ Ok typ → string_at short typ.1 ≡ Ok meta
          → HasFront time (0 ∷ bytes)
      found id name typ meta e f g h =
          let i = number_at-takes short 4 bytes id e in
          let n = string_at-takes short id.1 name f in
          let t = string_at-takes short name.1 typ g in
          let m = string_at-takes short typ.1 meta h in
          let parts : bytes ≡ i.field ++ (n.prefix ++ (t.prefix ++ (m.prefix ++ meta.1))) =
          parts_then i.field i.parts (parts_then n.prefix n.parts (parts_then t.prefix t.parts m.parts)) in
          record {
            front = 0 ∷ (i.field ++ (n.prefix ++ (t.prefix ++ m.prefix)));
            after = meta.1;
            item = Start time id.0 name.0 typ.0 meta.0;
            parts = ap (λ (w : List ℕ). 0 ∷ w) parts ∙ simp append_assoc;
            is = (
              refl,
              refl,
              record {
                id_at = i.field;
                name_at = n.prefix;
                typ_at = t.prefix;
                meta_at = m.prefix;
                id_is = record { len_is = i.len; value = i.is };
                name_is = n.is;
                typ_is = t.is;
                meta_is = m.is;
                whole = refl;
              },
            );
          }

  by_fields : HasFront time (0 ∷ bytes) ⊎ (start_fields bytes ≡ Err short)
      → HasFront time (0 ∷ bytes) ⊎ (start_of live time bytes ≡ Err short)
  by_fields (inl front) = inl front
  by_fields (inr e) = inr (rw e refl)

-- of a Finish
finish-or : (live : Entries) (time : ℕ) (bytes : List ℕ) → HasFront time (1 ∷ bytes)
    ⊎ (finish_of live time bytes ≡ Err short)
unfolding finish_of
finish-or live time bytes = or-short (HasFront time (1 ∷ bytes)) (number_at short 4 bytes) _
    (number_at-stops short 4 bytes) (λ id e. inl (found id e)) where
      found : (id : ℕ × List ℕ) → number_at short 4 bytes ≡ Ok id → HasFront time (1 ∷ bytes)
      found id e =
          let i = number_at-takes short 4 bytes id e in
          record {
            front = 1 ∷ i.field;
            after = id.1;
            item = Finish time id.0;
            parts = ap (λ (w : List ℕ). 1 ∷ w) i.parts;
            is = (
              refl,
              refl,
              record { id_at = i.field; id_is = record { len_is = i.len; value = i.is }; whole = refl },
            );
          }

-- of a Set Metadata
meta-or : (live : Entries) (time : ℕ) (bytes : List ℕ) → HasFront time (2 ∷ bytes)
    ⊎ (set_meta_of live time bytes ≡ Err short)
unfolding set_meta_of
meta-or live time bytes = or-short (HasFront time (2 ∷ bytes)) (number_at short 4 bytes) _
    (number_at-stops short 4 bytes) (λ id e. or-short (HasFront time (2 ∷ bytes)) (string_at short id.1) _
    (string_at-stops short id.1) (λ meta f. inl (found id meta e f))) where
      found : (id : ℕ × List ℕ) (meta : List ℕ × List ℕ) → number_at short 4 bytes ≡ Ok id
          → string_at short id.1 ≡ Ok meta → HasFront time (2 ∷ bytes)
      found id meta e f =
          let i = number_at-takes short 4 bytes id e in
          let m = string_at-takes short id.1 meta f in
          record {
            front = 2 ∷ (i.field ++ m.prefix);
            after = meta.1;
            item = SetMeta time id.0 meta.0;
            parts = ap (λ (w : List ℕ). 2 ∷ w) (parts_then i.field i.parts m.parts ∙ sym (append_assoc i.field m.prefix meta.1));
            is = (
              refl,
              refl,
              record {
                id_at = i.field;
                meta_at = m.prefix;
                id_is = record { len_is = i.len; value = i.is };
                meta_is = m.is;
                whole = refl;
              },
            );
          }

-- no known control begins with such a byte
no-byte : (first : ℕ) (bytes : List ℕ) → IsUnknown (first ∷ bytes) → 2 < first
no-byte first bytes h = let same : first ≡ h.0 = (let e = h.2 in cc) in subst (λ (n : ℕ). 2 < n) (sym same) h.3

-- a payload begins with another byte, has a front, or is too short
pub record IsShort (live : Entries) (time : ℕ) (payload : List ℕ) : Type 0 where
  pub known : ¬ IsUnknown payload
  pub read : control_of live time payload ≡ Err short

pub shape : (live : Entries) (time : ℕ) (payload : List ℕ)
    → IsUnknown payload ⊎ HasFront time payload ⊎ IsShort live time payload
unfolding control_of
shape live time [] = inr (inr (record { known = λ h. let e = h.2 in cc; read = refl }))
shape live time (first ∷ bytes) = by_zero (eqb first 0) refl where
  by_two : (test : Bool) → eqb first 2 ≡ test → eqb first 0 ≡ false → eqb first 1 ≡ false
      → IsUnknown (first ∷ bytes) ⊎ HasFront time (first ∷ bytes) ⊎ IsShort live time (first ∷ bytes)
  by_two true is zero one =
      let same : first ≡ 2 = eqb-true first 2 is in
      elim (meta-or live time bytes) [
        | inl front ↦ inr (inl (subst (λ (n : ℕ). HasFront time (n ∷ bytes)) (sym same) front))
        | inr e ↦ inr (inr (record {
          known = λ h. omega (arith, no-byte first bytes h);
          read = rw (same, e) refl;
        }))
      ]
  by_two false is zero one =
      let a = eqb-false first 0 zero in
      let b = eqb-false first 1 one in
      let c = eqb-false first 2 is in
      inl (first, bytes, refl, omega arith)

  by_one : (test : Bool) → eqb first 1 ≡ test → eqb first 0 ≡ false
      → IsUnknown (first ∷ bytes) ⊎ HasFront time (first ∷ bytes) ⊎ IsShort live time (first ∷ bytes)
  by_one true is zero =
      let same : first ≡ 1 = eqb-true first 1 is in
      elim (finish-or live time bytes) [
        | inl front ↦ inr (inl (subst (λ (n : ℕ). HasFront time (n ∷ bytes)) (sym same) front))
        | inr e ↦ inr (inr (record {
          known = λ h. omega (arith, no-byte first bytes h);
          read = rw (same, e) refl;
        }))
      ]
  by_one false is zero = by_two (eqb first 2) refl zero is

  by_zero : (test : Bool) → eqb first 0 ≡ test
      → IsUnknown (first ∷ bytes) ⊎ HasFront time (first ∷ bytes) ⊎ IsShort live time (first ∷ bytes)
  by_zero true is =
      let same : first ≡ 0 = eqb-true first 0 is in
      elim (start-or live time bytes) [
        | inl front ↦ inr (inl (subst (λ (n : ℕ). HasFront time (n ∷ bytes)) (sym same) front))
        | inr e ↦ inr (inr (record {
          known = λ h. omega (arith, no-byte first bytes h);
          read = rw (same, e) refl;
        }))
      ]
  by_zero false is = by_one (eqb first 1) refl is
