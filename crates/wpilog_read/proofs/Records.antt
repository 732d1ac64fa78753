-- A record against its spelling: what is read is spelled so, and what is spelled so is read, whatever follows.
use Rattle.std.proofs.Common.{◌≡◌, ◌≢◌, ℕ, ◌+◌, ◌/◌, ◌%◌, ◌<◌, ◌≤◌, Bool, true, false, not, ◌&&◌, ◌⊎◌, inl, inr, List, [], ◌∷◌, ◌++◌, length, Result, Ok, Err, refl, sym, ap, subst, ◌∙◌, append_assoc, arith, eqb}
use Rattle.std.specs.Prelude.{nat_le, nat_lt}
use Rattle.std.proofs.lemmas.Bool.{eqb-true, eqb-false, ne_eqb, le-ltb, lt-ltb, ltb-true, ltb-false, leb-true, leb-false, le-leb, lt-leb}
use Rattle.wpilog_write.specs.Log.{most_bytes, Head, IsHead, Fields, IsRecord, Entries, is_live}
use Rattle.wpilog_read.specs.declared.fault.LogKind.{LogKind}
use Rattle.wpilog_read.specs.declared.fault.LogKind.TheVariants.{BadMagic, BadVersion, TooLarge, SpareBit, NotLive, ControlShort, UnknownControl, ControlLong, BadText, IdZero, StartTwice, TooManyLive, Misfit, Truncated}
use Rattle.wpilog_read.specs.declared.fault.Stop.{Stop}
use Rattle.wpilog_read.specs.declared.fault.Stop.TheVariants.{Wanting, Known}
use Rattle.wpilog_read.specs.Meaning.{IsFirstKind, IsHeadKind, HasHead}
use Rattle.wpilog_read.specs.Reading.{◌>>=◌, unless, bytes_at, number_at, head_at, record_at}
use Rattle.wpilog_read.proofs.Steps.{ok_is, bind_ok, bind_err, wanting-unknown, StopsAt, ok-stops, bind-stops, parts_then, unless_ok, unless_err, bytes_at-takes, bytes_at-again, bytes_at-stops, number_at-takes, number_at-again, number_at-stops}

-- ---- heads

-- a head of these values
abbrev made : ℕ → ℕ → ℕ → Head
made entry size time = record { entry = entry; size = size; time = time }

-- what follows the payload size: the timestamp
abbrev from_time : ℕ → ℕ → ℕ → List ℕ → Result (Head × List ℕ) Stop
from_time first entry size rest = number_at Wanting (first / 16 % 8 + 1) rest >>= λ time.
    Ok (made entry size time.0, time.1)

-- what follows the entry id
abbrev from_size : ℕ → ℕ → List ℕ → Result (Head × List ℕ) Stop
from_size first entry rest = number_at Wanting (first / 4 % 4 + 1) rest >>= λ size. from_time first entry size.0 size.1

-- what follows the first byte
abbrev from_entry : ℕ → List ℕ → Result (Head × List ℕ) Stop
from_entry first rest = number_at Wanting (first % 4 + 1) rest >>= λ entry. from_size first entry.0 entry.1

-- what is read is spelled so
pub head_at-takes : (bytes : List ℕ) (x : Head × List ℕ) → head_at bytes ≡ Ok x
    → (prefix : List ℕ) × IsHead prefix x.0 × (bytes ≡ prefix ++ x.1)
unfolding head_at
head_at-takes [] x e = absurd cc
head_at-takes (first ∷ bytes) x e =
    let z = bind_ok (unless (nat_le 128 first) SpareBit) (λ clear. from_entry first bytes) x e in
    let a = bind_ok (number_at Wanting (first % 4 + 1) bytes) (λ entry. from_size first entry.0 entry.1) x z.2 in
    let b = bind_ok (number_at Wanting (first / 4 % 4 + 1) a.0.1) (λ size. from_time first a.0.0 size.0 size.1) x a.2 in
    let c = bind_ok (number_at Wanting (first / 16 % 8 + 1) b.0.1) (λ time. Ok (made a.0.0 b.0.0 time.0, time.1)) x b.2
    in
    let entry = number_at-takes Wanting (first % 4 + 1) bytes a.0 a.1 in
    let size = number_at-takes Wanting (first / 4 % 4 + 1) a.0.1 b.0 b.1 in
    let time = number_at-takes Wanting (first / 16 % 8 + 1) b.0.1 c.0 c.1 in
    let clear : first < 128 = leb-false _ _ (unless_ok (nat_le 128 first) SpareBit z.0 z.1) in
    let parts : bytes ≡ entry.field ++ (size.field ++ (time.field ++ c.0.1)) =
    parts_then entry.field entry.parts (parts_then size.field size.parts time.parts) in
    subst (λ (w : Head × List ℕ). (prefix : List ℕ) × IsHead prefix w.0 × (first ∷ bytes ≡ prefix ++ w.1))
    (ok_is (made a.0.0 b.0.0 c.0.0, c.0.1) x c.2) (
      first ∷ (entry.field ++ (size.field ++ time.field)),
      record {
        first = first;
        entry = entry.field;
        size = size.field;
        time = time.field;
        first_is = record {
          entry_is = entry.len;
          size_is = size.len;
          time_is = time.len;
          clear = clear;
        };
        entry_is = entry.is;
        size_is = size.is;
        time_is = time.is;
        whole = refl;
      },
      ap (λ (w : List ℕ). first ∷ w) parts ∙ simp append_assoc,
    )

-- what is spelled so is read, whatever follows
pub head_at-again : (prefix rest : List ℕ) (head : Head) → IsHead prefix head → head_at (prefix ++ rest) ≡ Ok (head, rest)
unfolding head_at
head_at-again prefix rest head h =
    let parts : prefix ++ rest ≡ h.first ∷ (h.entry ++ (h.size ++ (h.time ++ rest))) =
    ap (λ (w : List ℕ). w ++ rest) h.whole ∙ simp append_assoc in
    let clear : nat_le 128 h.first ≡ false = lt-leb _ _ h.first_is.clear in
    rw (
      parts,
      clear,
      number_at-again Wanting (h.first % 4 + 1) h.entry (h.size ++ (h.time ++ rest)) h.first_is.entry_is,
      number_at-again Wanting (h.first / 4 % 4 + 1) h.size (h.time ++ rest) h.first_is.size_is,
      number_at-again Wanting (h.first / 16 % 8 + 1) h.time rest h.first_is.time_is,
      h.entry_is,
      h.size_is,
      h.time_is,
    ) refl

-- a fault that is known of a head is that of its first byte
pub head_at-known : (bytes : List ℕ) (kind : LogKind) → head_at bytes ≡ Err (Known kind) → IsFirstKind kind bytes
unfolding head_at
head_at-known [] kind e = absurd cc
head_at-known (first ∷ bytes) kind e =
    elim (bind_err (unless (nat_le 128 first) SpareBit) (λ clear. from_entry first bytes) (Known kind) e) [
      | inl h ↦ let u = unless_err (nat_le 128 first) SpareBit (Known kind) h in
          let same : SpareBit ≡ kind = (let k : Known kind ≡ Known SpareBit = u.1 in cc) in
          subst (λ (w : LogKind). IsFirstKind w (first ∷ bytes)) same (first, bytes, refl, leb-true _ _ u.0)
      | inr z ↦ absurd (wanting-unknown (from_entry first bytes) kind (entry-stops first bytes) z.2)
    ]
  where
    entry-stops : (first : ℕ) (bytes : List ℕ) → StopsAt Wanting (from_entry first bytes)
    entry-stops first bytes =
        bind-stops Wanting (number_at Wanting (first % 4 + 1) bytes) _ (number_at-stops Wanting (first % 4 + 1) bytes)
        (λ entry. bind-stops Wanting (number_at Wanting (first / 4 % 4 + 1) entry.1) _
        (number_at-stops Wanting (first / 4 % 4 + 1) entry.1)
        (λ size. bind-stops Wanting (number_at Wanting (first / 16 % 8 + 1) size.1) _
        (number_at-stops Wanting (first / 16 % 8 + 1) size.1) (λ time. ok-stops Wanting _)))

-- and such a fault is known
pub first-known : (bytes : List ℕ) (kind : LogKind) → IsFirstKind kind bytes → head_at bytes ≡ Err (Known kind)
unfolding head_at
first-known bytes SpareBit h = let set : nat_le 128 h.0 ≡ true = le-leb _ _ h.3 in rw (h.2, set) refl
first-known bytes BadMagic h = absurd h
first-known bytes BadVersion h = absurd h
first-known bytes TooLarge h = absurd h
first-known bytes NotLive h = absurd h
first-known bytes ControlShort h = absurd h
first-known bytes UnknownControl h = absurd h
first-known bytes ControlLong h = absurd h
first-known bytes BadText h = absurd h
first-known bytes IdZero h = absurd h
first-known bytes StartTwice h = absurd h
first-known bytes TooManyLive h = absurd h
first-known bytes Misfit h = absurd h
first-known bytes Truncated h = absurd h

-- ---- records

-- a record that is read of an entry that isn't live
abbrev pub is_missing : Entries → ℕ → Bool
is_missing live entry = not (eqb entry 0) && not (is_live live entry)

-- the entry may have a record
pub missing-false : (live : Entries) (entry : ℕ) → is_missing live entry ≡ false
    → (entry ≡ 0) ⊎ (is_live live entry ≡ true)
missing-false live entry e = by_tests (eqb entry 0) (is_live live entry) refl refl e where
  by_tests : (zero alive : Bool) → eqb entry 0 ≡ zero → is_live live entry ≡ alive
      → not zero && not alive ≡ false → (entry ≡ 0) ⊎ (is_live live entry ≡ true)
  by_tests true alive z a e = inl (eqb-true entry 0 z)
  by_tests false true z a e = inr a
  by_tests false false z a e = absurd cc

-- and the other way round
pub missing-none : (live : Entries) (entry : ℕ) → (entry ≡ 0) ⊎ (is_live live entry ≡ true)
    → is_missing live entry ≡ false
missing-none live entry (inl zero) = rw zero refl
missing-none live entry (inr alive) = rw alive (by_test (eqb entry 0)) where
  by_test : (test : Bool) → not test && false ≡ false
  by_test true = refl
  by_test false = refl

-- the entry may have none
pub missing-true : (live : Entries) (entry : ℕ) → is_missing live entry ≡ true → (entry ≢ 0) × (is_live live entry ≡ false)
missing-true live entry e = by_tests (eqb entry 0) (is_live live entry) refl refl e where
  by_tests : (zero alive : Bool) → eqb entry 0 ≡ zero → is_live live entry ≡ alive
      → not zero && not alive ≡ true → (entry ≢ 0) × (is_live live entry ≡ false)
  by_tests true alive z a e = absurd cc
  by_tests false true z a e = absurd cc
  by_tests false false z a e = (eqb-false entry 0 z, a)

-- fields of these values
abbrev with_payload : Head → List ℕ → Fields
with_payload head payload = record { entry = head.entry; time = head.time; payload = payload }

-- what follows the tests of a head: the payload
abbrev from_payload : Head → List ℕ → Result (Fields × List ℕ) Stop
from_payload head rest = bytes_at Wanting head.size rest >>= λ payload. Ok (with_payload head payload.0, payload.1)

-- what follows the test of its size
abbrev from_known : Entries → Head → List ℕ → Result (Fields × List ℕ) Stop
from_known live head rest = unless (is_missing live head.entry) NotLive >>= λ known. from_payload head rest

-- what follows a head
abbrev from_head : Entries → Head × List ℕ → Result (Fields × List ℕ) Stop
from_head live head = unless (nat_lt most_bytes head.0.size) TooLarge >>= λ small. from_known live head.0 head.1

-- a record was taken from the prefix
pub record TakesRecord (live : Entries) (bytes : List ℕ) (fields : Fields) (rest : List ℕ) : Type 0 where
  pub prefix : List ℕ
  pub is : IsRecord prefix fields
  pub parts : bytes ≡ prefix ++ rest
  pub within : length fields.payload ≤ most_bytes
  pub known : (fields.entry ≡ 0) ⊎ (is_live live fields.entry ≡ true)

-- what is read is spelled so
pub record_at-takes : (live : Entries) (bytes : List ℕ) (x : Fields × List ℕ) → record_at live bytes ≡ Ok x
    → TakesRecord live bytes x.0 x.1
unfolding record_at
record_at-takes live bytes x e =
    let a = bind_ok (head_at bytes) (from_head live) x e in
    let b = bind_ok (unless (nat_lt most_bytes a.0.0.size) TooLarge) (λ small. from_known live a.0.0 a.0.1) x a.2 in
    let c = bind_ok (unless (is_missing live a.0.0.entry) NotLive) (λ known. from_payload a.0.0 a.0.1) x b.2 in
    let d = bind_ok (bytes_at Wanting a.0.0.size a.0.1) (λ payload. Ok (with_payload a.0.0 payload.0, payload.1)) x c.2
    in
    let head = head_at-takes bytes a.0 a.1 in
    let payload = bytes_at-takes Wanting a.0.0.size a.0.1 d.0 d.1 in
    let small : a.0.0.size ≤ most_bytes = ltb-false _ _ (unless_ok (nat_lt most_bytes a.0.0.size) TooLarge b.0 b.1) in
    let len : length d.0.0 ≡ a.0.0.size = payload.len in
    subst (λ (w : Fields × List ℕ). TakesRecord live bytes w.0 w.1) (ok_is (with_payload a.0.0 d.0.0, d.0.1) x d.2)
    (record {
      prefix = head.0 ++ d.0.0;
      is = record {
        head = head.0;
        head_is = subst (λ (n : ℕ). IsHead head.0 (made a.0.0.entry n a.0.0.time)) (sym len) head.1;
        whole = refl;
      };
      parts = parts_then head.0 head.2 payload.parts ∙ sym (append_assoc head.0 d.0.0 d.0.1);
      within = omega arith;
      known = missing-false live a.0.0.entry (unless_ok (is_missing live a.0.0.entry) NotLive c.0 c.1);
    })

-- what is spelled so is read, whatever follows
pub record_at-again : (live : Entries) (prefix rest : List ℕ) (fields : Fields) → IsRecord prefix fields
    → length fields.payload ≤ most_bytes → (fields.entry ≡ 0) ⊎ (is_live live fields.entry ≡ true)
    → record_at live (prefix ++ rest) ≡ Ok (fields, rest)
unfolding record_at
record_at-again live prefix rest fields h within known =
    let parts : prefix ++ rest ≡ h.head ++ (fields.payload ++ rest) = ap (λ (w : List ℕ). w ++ rest) h.whole
    ∙ append_assoc h.head fields.payload rest in
    let small : nat_lt most_bytes (length fields.payload) ≡ false = le-ltb _ _ within in
    rw (
      parts,
      head_at-again h.head (fields.payload ++ rest) (made fields.entry (length fields.payload) fields.time) h.head_is,
      small,
      missing-none live fields.entry known,
      bytes_at-again Wanting (length fields.payload) fields.payload rest refl,
    ) refl

-- a fault that is known where no record is read
pub record_at-known : (live : Entries) (bytes : List ℕ) (kind : LogKind) → record_at live bytes ≡ Err (Known kind)
    → IsFirstKind kind bytes ⊎ ((head : Head) × HasHead bytes head × IsHeadKind kind live head)
unfolding record_at
record_at-known live bytes kind e = elim (bind_err (head_at bytes) (from_head live) (Known kind) e) [
  | inl h ↦ inl (head_at-known bytes kind h)
  | inr a ↦ inr (a.0.0, has a.0 a.1, tests a.0.0 a.0.1 a.2)
]
  where
    has : (x : Head × List ℕ) → head_at bytes ≡ Ok x → HasHead bytes x.0
    has x read = let t = head_at-takes bytes x read in record { front = t.0; after = x.1; is = t.1; parts = t.2 }

    tests : (head : Head) (rest : List ℕ) → from_head live (head, rest) ≡ Err (Known kind) → IsHeadKind kind live head
    tests head rest e = elim (bind_err (unless (nat_lt most_bytes head.size) TooLarge) (λ small.
        from_known live head rest) (Known kind) e) [
          | inl h ↦ let u = unless_err (nat_lt most_bytes head.size) TooLarge (Known kind) h in
              let same : TooLarge ≡ kind = (let k : Known kind ≡ Known TooLarge = u.1 in cc) in
              subst (λ (w : LogKind). IsHeadKind w live head) same (ltb-true _ _ u.0)
          | inr b ↦ elim (bind_err (unless (is_missing live head.entry) NotLive) (λ known. from_payload head rest)
              (Known kind) b.2) [
                | inl h ↦ let u = unless_err (is_missing live head.entry) NotLive (Known kind) h in
                    let m = missing-true live head.entry u.0 in
                    let same : NotLive ≡ kind = (let k : Known kind ≡ Known NotLive = u.1 in cc) in
                    let small : head.size ≤ most_bytes = ltb-false _ _ (unless_ok (nat_lt most_bytes head.size) TooLarge
                    b.0 b.1) in
                    subst (λ (w : LogKind). IsHeadKind w live head) same (small, m.0, m.1)
                | inr c ↦ absurd (wanting-unknown (from_payload head rest) kind (payload-stops head rest) c.2)
              ]
        ]
      where
        payload-stops : (head : Head) (rest : List ℕ) → StopsAt Wanting (from_payload head rest)
        payload-stops head rest = bind-stops Wanting (bytes_at Wanting head.size rest) _
            (bytes_at-stops Wanting head.size rest) (λ payload. ok-stops Wanting _)

-- and such a fault is known
pub head-known : (live : Entries) (bytes : List ℕ) (kind : LogKind)
    → IsFirstKind kind bytes ⊎ ((head : Head) × HasHead bytes head × IsHeadKind kind live head)
    → record_at live bytes ≡ Err (Known kind)
unfolding record_at
head-known live bytes kind (inl h) = rw (first-known bytes kind h) refl
head-known live bytes TooLarge (inr h) =
    let read : head_at bytes ≡ Ok (h.0, h.1.after) = ap head_at h.1.parts ∙ head_at-again h.1.front h.1.after h.0 h.1.is in
    let large : nat_lt most_bytes h.0.size ≡ true = lt-ltb _ _ h.2 in
    rw (read, large) refl
head-known live bytes NotLive (inr h) =
    let read : head_at bytes ≡ Ok (h.0, h.1.after) = ap head_at h.1.parts ∙ head_at-again h.1.front h.1.after h.0 h.1.is in
    let small : nat_lt most_bytes h.0.size ≡ false = le-ltb _ _ h.2.0 in
    let other : eqb h.0.entry 0 ≡ false = ne_eqb h.0.entry 0 h.2.1 in
    rw (read, small, other, h.2.2) refl
head-known live bytes BadMagic (inr h) = absurd h.2
head-known live bytes BadVersion (inr h) = absurd h.2
head-known live bytes SpareBit (inr h) = absurd h.2
head-known live bytes ControlShort (inr h) = absurd h.2
head-known live bytes UnknownControl (inr h) = absurd h.2
head-known live bytes ControlLong (inr h) = absurd h.2
head-known live bytes BadText (inr h) = absurd h.2
head-known live bytes IdZero (inr h) = absurd h.2
head-known live bytes StartTwice (inr h) = absurd h.2
head-known live bytes TooManyLive (inr h) = absurd h.2
head-known live bytes Misfit (inr h) = absurd h.2
head-known live bytes Truncated (inr h) = absurd h.2

-- a record has a first byte
pub record-some : (prefix : List ℕ) (fields : Fields) → IsRecord prefix fields → 0 < length prefix
record-some prefix fields h = rw (h.whole, h.head_is.whole) (omega arith)

-- what is after a record is an end of the bytes, and shorter
pub record IsAfter (bytes rest : List ℕ) : Type 0 where
  pub prefix : List ℕ
  pub parts : bytes ≡ prefix ++ rest
  pub some : 0 < length prefix

-- what follows a record that is read
pub record_at-after : (live : Entries) (bytes : List ℕ) (x : Fields × List ℕ) → record_at live bytes ≡ Ok x
    → IsAfter bytes x.1
record_at-after live bytes x e =
    let t = record_at-takes live bytes x e in
    record { prefix = t.prefix; parts = t.parts; some = record-some t.prefix x.0 t.is }
