-- The header against the grammar: it is there, a fault of it is known, or bytes are wanting.
use Rattle.std.proofs.Common.{◌≡◌, ◌≢◌, ℕ, ◌≤◌, Bool, true, false, not, inl, inr, List, [], ◌∷◌, ◌++◌, length, take, drop, Result, Ok, Err, refl, sym, ap, subst, ◌∙◌, append_assoc, append-nil, arith, nat_eq, nat_lt, eqb}
use Rattle.std.specs.Prelude.{slice_index}
use Rattle.std.specs.List.{starts_with}
use Rattle.std.proofs.lemmas.Bool.{le-ltb, lt-ltb, ltb-true, ltb-false, eqb-true, eqb-false, ne_eqb, not-false, not-true}
use Rattle.std.proofs.lemmas.Bool.Decides.{Decides-eqb}
use Rattle.std.proofs.lemmas.List.{take-append-drop, take-append-le, length-append, length-take, length-drop, nil_from_length}
use Rattle.std.proofs.lemmas.Slice.Eq.{starts_is}
use Rattle.wpilog_write.specs.Log.{most_bytes, magic, IsHeader}
use Rattle.wpilog_read.specs.declared.fault.LogKind.{LogKind}
use Rattle.wpilog_read.specs.declared.fault.LogKind.TheVariants.{BadMagic, BadVersion, TooLarge, SpareBit, NotLive, ControlShort, UnknownControl, ControlLong, BadText, IdZero, StartTwice, TooManyLive, Misfit, Truncated}
use Rattle.wpilog_read.specs.declared.fault.Stop.{Stop}
use Rattle.wpilog_read.specs.declared.fault.Stop.TheVariants.{Wanting, Known}
use Rattle.wpilog_read.specs.Meaning.{IsHeaderKnown, IsHeaderWanting}
use Rattle.wpilog_read.specs.Reading.{◌>>=◌, unless, bytes_at, number_at, header_at}
use Rattle.wpilog_read.proofs.Steps.{err_is, ok_no_err, bind_ok, bind_err, wanting-unknown, parts_then, unless_ok, unless_err, bytes_at-takes, bytes_at-again, bytes_at-stops, number_at-takes, number_at-again, number_at-stops}

-- ---- the first bytes

-- the test for how a log begins
abbrev agrees : List ℕ → Bool
agrees bytes = starts_with nat_eq magic (take 6 bytes)

agrees-true : (bytes : List ℕ) → agrees bytes ≡ true → (more : List ℕ) × (magic ≡ take 6 bytes ++ more)
agrees-true bytes e = (_, (starts_is Decides-eqb magic (take 6 bytes) (agrees bytes) refl).0 e)

agrees-false : (bytes : List ℕ) → agrees bytes ≡ false → (more : List ℕ) → magic ≢ take 6 bytes ++ more
agrees-false bytes e more is =
    let yes : agrees bytes ≡ true = (starts_is Decides-eqb magic (take 6 bytes) (agrees bytes) refl).1 more is in
    let no : true ≡ false = sym yes ∙ e in
    cc

agrees-not : (bytes : List ℕ) → ((more : List ℕ) → magic ≢ take 6 bytes ++ more) → agrees bytes ≡ false
agrees-not bytes differs = by_test (agrees bytes) refl where
  by_test : (test : Bool) → agrees bytes ≡ test → test ≡ false
  by_test true e = let a = agrees-true bytes e in absurd (differs a.0 a.1)
  by_test false e = refl

-- two bytes
pair : (xs : List ℕ) → length xs ≡ 2 → (g : ℕ) × (h : ℕ) × (xs ≡ g ∷ h ∷ [])
pair [] e = absurd (omega arith)
pair (g ∷ []) e = absurd (omega arith)
pair (g ∷ h ∷ []) e = (g, h, refl)
pair (g ∷ h ∷ k ∷ ks) e = absurd (omega arith)

-- eight bytes that begin as a log does
begin-is : (begin after : List ℕ) → length begin ≡ 8 → agrees (begin ++ after) ≡ true
    → (minor : ℕ) × (major : ℕ) × (begin ≡ magic ++ (minor ∷ major ∷ []))
begin-is begin after len e =
    let a = agrees-true (begin ++ after) e in
    let enough : 6 ≤ length begin = omega arith in
    let front : take 6 (begin ++ after) ≡ take 6 begin = take-append-le 6 begin after enough in
    let six : length (take 6 begin) ≡ 6 = length-take 6 begin ∙ omega arith in
    let begins : magic ≡ take 6 begin ++ a.0 = a.1 ∙ ap (λ (w : List ℕ). w ++ a.0) front in
    let none : a.0 ≡ [] = nil_from_length a.0 (omega (arith, ap length begins, length-append (take 6 begin) a.0)) in
    let magic_is : take 6 begin ≡ magic = sym (append-nil (take 6 begin))
    ∙ ap (λ (w : List ℕ). take 6 begin ++ w) (sym none) ∙ sym begins in
    let two = pair (drop 6 begin) (length-drop 6 begin ∙ omega arith) in (
      two.0,
      two.1,
      sym (take-append-drop 6 begin) ∙ ap (λ (w : List ℕ). w ++ drop 6 begin) magic_is
          ∙ ap (λ (w : List ℕ). magic ++ w) two.2,
    )

-- ---- reading a header

-- what follows the version
abbrev from_len : List ℕ → Result (List ℕ × List ℕ) Stop
from_len rest = number_at Wanting 4 rest >>= λ len. unless (nat_lt most_bytes len.0) TooLarge >>= λ small.
    bytes_at Wanting len.0 len.1

-- what follows the first eight bytes
abbrev from_version : List ℕ × List ℕ → Result (List ℕ × List ℕ) Stop
from_version begin = unless (not (eqb (slice_index begin.0 7) 1)) BadVersion >>= λ major. from_len begin.1

-- what follows the test of the first bytes
abbrev from_begin : List ℕ → Result (List ℕ × List ℕ) Stop
from_begin bytes = bytes_at Wanting 8 bytes >>= from_version

-- the first eight bytes that were read
record TakesBegin (bytes : List ℕ) (begin : List ℕ × List ℕ) : Type 0 where
  minor : ℕ
  major : ℕ
  parts : bytes ≡ magic ++ (minor ∷ major ∷ begin.1)
  version : slice_index begin.0 7 ≡ major

begin-takes : (bytes : List ℕ) (begin : List ℕ × List ℕ) → agrees bytes ≡ true → bytes_at Wanting 8 bytes ≡ Ok begin
    → TakesBegin bytes begin
begin-takes bytes begin begins read =
    let t = bytes_at-takes Wanting 8 bytes begin read in
    let b = begin-is begin.0 begin.1 t.len (ap agrees (sym t.parts) ∙ begins) in
    record {
      minor = b.0;
      major = b.1;
      parts = t.parts ∙ ap (λ (w : List ℕ). w ++ begin.1) b.2;
      version = ap (λ (w : List ℕ). slice_index w 7) b.2;
    }

-- a header that is read is spelled so
pub header_at-takes : (bytes : List ℕ) (x : List ℕ × List ℕ) → header_at bytes ≡ Ok x
    → (header : List ℕ) × IsHeader header x.0 × (bytes ≡ header ++ x.1)
unfolding header_at
header_at-takes bytes x e =
    let a = bind_ok (unless (not (agrees bytes)) BadMagic) (λ agrees. from_begin bytes) x e in
    let b = bind_ok (bytes_at Wanting 8 bytes) from_version x a.2 in
    let c = bind_ok (unless (not (eqb (slice_index b.0.0 7) 1)) BadVersion) (λ major. from_len b.0.1) x b.2 in
    let d = bind_ok (number_at Wanting 4 b.0.1) (λ len. unless (nat_lt most_bytes len.0) TooLarge >>= λ small.
    bytes_at Wanting len.0 len.1) x c.2 in
    let f = bind_ok (unless (nat_lt most_bytes d.0.0) TooLarge) (λ small. bytes_at Wanting d.0.0 d.0.1) x d.2 in
    let begins : agrees bytes ≡ true = not-false (agrees bytes) (unless_ok (not (agrees bytes)) BadMagic a.0 a.1) in
    let t = begin-takes bytes b.0 begins b.1 in
    let major : t.major ≡ 1 = sym t.version ∙ eqb-true (slice_index b.0.0 7) 1
    (not-false (eqb (slice_index b.0.0 7) 1) (unless_ok (not (eqb (slice_index b.0.0 7) 1)) BadVersion c.0 c.1)) in
    let len = number_at-takes Wanting 4 b.0.1 d.0 d.1 in
    let extra = bytes_at-takes Wanting d.0.0 d.0.1 x f.2 in
    let small : d.0.0 ≤ most_bytes = ltb-false _ _ (unless_ok (nat_lt most_bytes d.0.0) TooLarge f.0 f.1) in
    let size : length x.0 ≡ d.0.0 = extra.len in
    let rest : b.0.1 ≡ len.field ++ (x.0 ++ x.1) = parts_then len.field len.parts extra.parts in (
      magic ++ (t.minor ∷ 1 ∷ (len.field ++ x.0)),
      record {
        minor = t.minor;
        len = len.field;
        len_is = record { len_is = len.len; value = len.is ∙ sym size };
        within = omega arith;
        whole = refl;
      },
      t.parts ∙ ap (λ (m : ℕ). magic ++ (t.minor ∷ m ∷ b.0.1)) major
          ∙ ap (λ (w : List ℕ). magic ++ (t.minor ∷ 1 ∷ w)) (rest ∙ sym (append_assoc len.field x.0 x.1)),
    )

-- the first eight bytes are read
begin-again : (minor major : ℕ) (after : List ℕ)
    → (agrees (magic ++ (minor ∷ major ∷ after)) ≡ true)
    × (bytes_at Wanting 8 (magic ++ (minor ∷ major ∷ after)) ≡ Ok (magic ++ (minor ∷ major ∷ []), after))
begin-again minor major after = (refl, bytes_at-again Wanting 8 (magic ++ (minor ∷ major ∷ [])) after refl)

-- a header is read, whatever follows
pub header_at-again : (header rest extra : List ℕ) → IsHeader header extra → header_at (header ++ rest) ≡ Ok (extra, rest)
unfolding header_at
header_at-again header rest extra h =
    let parts : header ++ rest ≡ magic ++ (h.minor ∷ 1 ∷ (h.len ++ (extra ++ rest))) =
    ap (λ (w : List ℕ). w ++ rest) h.whole
    ∙ ap (λ (w : List ℕ). magic ++ (h.minor ∷ 1 ∷ w)) (append_assoc h.len extra rest) in
    let b = begin-again h.minor 1 (h.len ++ (extra ++ rest)) in
    let small : nat_lt most_bytes (length extra) ≡ false = le-ltb _ _ h.within in
    rw (
      parts,
      b.1,
      number_at-again Wanting 4 h.len (extra ++ rest) h.len_is.len_is,
      h.len_is.value,
      small,
    ) (bytes_at-again Wanting (length extra) extra rest refl)

-- a fault that is known of a header
pub header_at-known : (bytes : List ℕ) (kind : LogKind) → header_at bytes ≡ Err (Known kind) → IsHeaderKnown kind bytes
unfolding header_at
header_at-known bytes kind e =
    elim (bind_err (unless (not (agrees bytes)) BadMagic) (λ agrees. from_begin bytes) (Known kind) e) [
      | inl h ↦ let u = unless_err (not (agrees bytes)) BadMagic (Known kind) h in
          let same : BadMagic ≡ kind = (let k : Known kind ≡ Known BadMagic = u.1 in cc) in
          subst (λ (w : LogKind). IsHeaderKnown w bytes) same (agrees-false bytes (not-true (agrees bytes) u.0))
      | inr a ↦ after-begin (not-false (agrees bytes) (unless_ok (not (agrees bytes)) BadMagic a.0 a.1)) a.2
    ]
  where
    after-len : (t : ℕ) (rest : List ℕ) → bytes ≡ magic ++ (t ∷ 1 ∷ rest) → from_len rest ≡ Err (Known kind)
        → IsHeaderKnown kind bytes
    after-len t rest parts e = elim (bind_err (number_at Wanting 4 rest) (λ len.
        unless (nat_lt most_bytes len.0) TooLarge >>= λ small. bytes_at Wanting len.0 len.1) (Known kind) e) [
          | inl h ↦ absurd (wanting-unknown (number_at Wanting 4 rest) kind (number_at-stops Wanting 4 rest) h)
          | inr d ↦ elim (bind_err (unless (nat_lt most_bytes d.0.0) TooLarge) (λ small. bytes_at Wanting d.0.0 d.0.1)
              (Known kind) d.2) [
                | inl h ↦ let u = unless_err (nat_lt most_bytes d.0.0) TooLarge (Known kind) h in
                    let n = number_at-takes Wanting 4 rest d.0 d.1 in
                    let same : TooLarge ≡ kind = (let k : Known kind ≡ Known TooLarge = u.1 in cc) in
                    subst (λ (w : LogKind). IsHeaderKnown w bytes) same (
                      t,
                      n.field,
                      d.0.1,
                      d.0.0,
                      parts ∙ ap (λ (w : List ℕ). magic ++ (t ∷ 1 ∷ w)) n.parts,
                      record { len_is = n.len; value = n.is },
                      ltb-true _ _ u.0,
                    )
                | inr f ↦ absurd (wanting-unknown (bytes_at Wanting d.0.0 d.0.1) kind
                    (bytes_at-stops Wanting d.0.0 d.0.1) f.2)
              ]
        ]

    after-begin : agrees bytes ≡ true → from_begin bytes ≡ Err (Known kind) → IsHeaderKnown kind bytes
    after-begin begins e = elim (bind_err (bytes_at Wanting 8 bytes) from_version (Known kind) e) [
      | inl h ↦ absurd (wanting-unknown (bytes_at Wanting 8 bytes) kind (bytes_at-stops Wanting 8 bytes) h)
      | inr b ↦
          let t = begin-takes bytes b.0 begins b.1 in
          elim (bind_err (unless (not (eqb (slice_index b.0.0 7) 1)) BadVersion) (λ major. from_len b.0.1)
          (Known kind) b.2) [
            | inl h ↦ let u = unless_err (not (eqb (slice_index b.0.0 7) 1)) BadVersion (Known kind) h in
                let other : slice_index b.0.0 7 ≢ 1 = eqb-false (slice_index b.0.0 7) 1
                (not-true (eqb (slice_index b.0.0 7) 1) u.0) in
                let same : BadVersion ≡ kind = (let k : Known kind ≡ Known BadVersion = u.1 in cc) in
                subst (λ (w : LogKind). IsHeaderKnown w bytes) same
                (t.minor, t.major, b.0.1, t.parts, λ one. other (t.version ∙ one))
            | inr c ↦
                let major : t.major ≡ 1 = sym t.version ∙ eqb-true (slice_index b.0.0 7) 1
                (not-false (eqb (slice_index b.0.0 7) 1)
                (unless_ok (not (eqb (slice_index b.0.0 7) 1)) BadVersion c.0 c.1)) in
                after-len t.minor b.0.1 (t.parts ∙ ap (λ (m : ℕ). magic ++ (t.minor ∷ m ∷ b.0.1)) major) c.2
          ]
    ]

-- and such a fault is known
pub header-known : (bytes : List ℕ) (kind : LogKind) → IsHeaderKnown kind bytes → header_at bytes ≡ Err (Known kind)
unfolding header_at
header-known bytes BadMagic h = let differs = agrees-not bytes h in rw differs refl
header-known bytes BadVersion h =
    let b = begin-again h.0 h.1 h.2 in
    let other : eqb h.1 1 ≡ false = ne_eqb h.1 1 h.4 in
    rw (h.3, b.1, other) refl
header-known bytes TooLarge h =
    let b = begin-again h.0 1 (h.1 ++ h.2) in
    let large : nat_lt most_bytes h.3 ≡ true = lt-ltb _ _ h.6 in
    rw (h.4, b.1, number_at-again Wanting 4 h.1 h.2 h.5.len_is, h.5.value, large) refl
header-known bytes SpareBit h = absurd h
header-known bytes NotLive h = absurd h
header-known bytes ControlShort h = absurd h
header-known bytes UnknownControl h = absurd h
header-known bytes ControlLong h = absurd h
header-known bytes BadText h = absurd h
header-known bytes IdZero h = absurd h
header-known bytes StartTwice h = absurd h
header-known bytes TooManyLive h = absurd h
header-known bytes Misfit h = absurd h
header-known bytes Truncated h = absurd h

-- where bytes are wanting
pub header_at-wanting : (bytes : List ℕ) → header_at bytes ≡ Err Wanting → IsHeaderWanting bytes
header_at-wanting bytes e = record {
  unknown = λ kind h. let same : Known kind ≡ Wanting =
      err_is {A = List ℕ × List ℕ} (Known kind) Wanting (sym (header-known bytes kind h) ∙ e) in cc;
  none = λ header after extra parts is. ok_no_err (extra, after) Wanting
      (sym (header_at-again header after extra is) ∙ ap header_at (sym parts) ∙ e);
}

-- and the other way round
pub header-wanting : (bytes : List ℕ) → IsHeaderWanting bytes → header_at bytes ≡ Err Wanting
header-wanting bytes h = by_read (header_at bytes) refl where
  by_read : (read : Result (List ℕ × List ℕ) Stop) → header_at bytes ≡ read → read ≡ Err Wanting
  by_read (Ok x) e = let t = header_at-takes bytes x e in absurd (h.none t.0 x.1 x.0 t.2 t.1)
  by_read (Err Wanting) e = refl
  by_read (Err (Known kind)) e = absurd (h.unknown kind (header_at-known bytes kind e))
