-- All bytes mean something as a frame.
use Rattle.std.proofs.Common.{◌≡◌, ◌≢◌, ℕ, zero, suc, ◌+◌, ◌-◌, ◌<◌, ◌≤◌, ℤ, Bool, true, false, ◌&&◌, nat_lt, nat_le, MatchBool, List, [], ◌∷◌, ◌++◌, length, Option, None, Some, Result, Ok, Err, refl, ap, sym, ◌∙◌, subst, inl, inr, length-append, append_assoc, arith}
use Rattle.std.specs.List.{AllZip, list_all}
use Rattle.std.proofs.lemmas.Bool.{cases_lt, ltb-true, leb-true}
use Rattle.nt_values.specs.declared.value.Value.{Value}
use Rattle.nt_values.specs.declared.value.Value.TheVariants as values
use Rattle.nt_values.specs.Types.{value_number, size_of}
use Rattle.nt_msgpack.specs.Atoms.{AtomValue, int, boolean, float32, float64, text, binary, array_head, map_head}
use Rattle.nt_msgpack.proofs.Spellings.{spelling-some}
use Rattle.nt_frames.specs.declared.message.ValueMsg.{ValueMsg}
use Rattle.nt_frames.specs.declared.message.FrameFault.{FrameFault}
use Rattle.nt_frames.specs.declared.message.FrameKind.{FrameKind}
use Rattle.nt_frames.specs.declared.message.FrameKind.TheVariants as kinds
use Rattle.nt_frames.specs.Frames.{is_boolean, is_numeric, is_integer, is_text, is_binary, may_stand, is_single, is_known, IsSingle, IsArray, IsBool, IsDouble, IsInt, IsFloat, IsText, IsBinary, Stand, AreSpelled, IsMessage, IsFault, IsLawful, atoms_of, Means}
use Rattle.nt_frames.specs.Reading.{message_at}
use Rattle.nt_frames.proofs.Conversions.{double_of_int-some, float_of_int-some, double_of_float-some, float_of_double-some}
use Rattle.nt_frames.proofs.Messages.{Message, message_at-ok, message_at-err}

-- ---- each atom that may stand for a value stands for one

bool-some : (a : AtomValue) → is_boolean a ≡ true → (x : Bool) × IsBool x a
bool-some (boolean b) is = (b, refl)
bool-some (int z) is = absurd (cc)
bool-some (float32 bits) is = absurd (cc)
bool-some (float64 bits) is = absurd (cc)
bool-some (text bs) is = absurd (cc)
bool-some (binary bs) is = absurd (cc)
bool-some (array_head n) is = absurd (cc)
bool-some (map_head n) is = absurd (cc)

double-some : (a : AtomValue) → is_numeric a ≡ true → (x : ℕ) × IsDouble x a
double-some (float64 bits) is = (bits, refl)
double-some (float32 bits) is = double_of_float-some bits
double-some (int z) is = double_of_int-some z
double-some (boolean b) is = absurd (cc)
double-some (text bs) is = absurd (cc)
double-some (binary bs) is = absurd (cc)
double-some (array_head n) is = absurd (cc)
double-some (map_head n) is = absurd (cc)

int-some : (a : AtomValue) → is_integer a ≡ true → (x : ℤ) × IsInt x a
int-some (int z) is = (z, refl)
int-some (boolean b) is = absurd (cc)
int-some (float32 bits) is = absurd (cc)
int-some (float64 bits) is = absurd (cc)
int-some (text bs) is = absurd (cc)
int-some (binary bs) is = absurd (cc)
int-some (array_head n) is = absurd (cc)
int-some (map_head n) is = absurd (cc)

float-some : (a : AtomValue) → is_numeric a ≡ true → (x : ℕ) × IsFloat x a
float-some (float64 bits) is = float_of_double-some bits
float-some (float32 bits) is = (bits, refl)
float-some (int z) is = float_of_int-some z
float-some (boolean b) is = absurd (cc)
float-some (text bs) is = absurd (cc)
float-some (binary bs) is = absurd (cc)
float-some (array_head n) is = absurd (cc)
float-some (map_head n) is = absurd (cc)

text-some : (a : AtomValue) → is_text a ≡ true → (x : List ℕ) × IsText x a
text-some (text bs) is = (bs, refl)
text-some (boolean b) is = absurd (cc)
text-some (int z) is = absurd (cc)
text-some (float32 bits) is = absurd (cc)
text-some (float64 bits) is = absurd (cc)
text-some (binary bs) is = absurd (cc)
text-some (array_head n) is = absurd (cc)
text-some (map_head n) is = absurd (cc)

binary-some : (a : AtomValue) → is_binary a ≡ true → (x : List ℕ) × IsBinary x a
binary-some (binary bs) is = (bs, refl)
binary-some (boolean b) is = absurd (cc)
binary-some (int z) is = absurd (cc)
binary-some (float32 bits) is = absurd (cc)
binary-some (float64 bits) is = absurd (cc)
binary-some (text bs) is = absurd (cc)
binary-some (array_head n) is = absurd (cc)
binary-some (map_head n) is = absurd (cc)

-- ---- so do all atoms of a value

abbrev Stands : ℕ → List AtomValue → Type 0
Stands number wire = (v : Value) × (value_number v ≡ number) × Stand v wire

single-some : (number : ℕ) (a : AtomValue) → number < 6 → may_stand number a ≡ true → Stands number (a ∷ [])
single-some zero a low may = let x = bool-some a may in (values.Bool x.0, refl, (a, refl, x.1))
single-some (suc zero) a low may = let x = double-some a may in (values.Double x.0, refl, (a, refl, x.1))
single-some (suc (suc zero)) a low may = let x = int-some a may in (values.Int x.0, refl, (a, refl, x.1))
single-some (suc (suc (suc zero))) a low may =
    let x = float-some a may in (values.Float x.0, refl, (a, refl, x.1))
single-some (suc (suc (suc (suc zero)))) a low may =
    let x = text-some a may in (values.Text x.0, refl, (a, refl, x.1))
single-some (suc (suc (suc (suc (suc zero))))) a low may =
    let x = binary-some a may in (values.Bytes x.0, refl, (a, refl, x.1))
single-some (suc (suc (suc (suc (suc (suc n)))))) a low may = absurd (omega arith)

each-some : {X : Type 0} (is : X → AtomValue → Type 0) (test : AtomValue → Bool)
    → ((a : AtomValue) → test a ≡ true → (x : X) × is x a) → (es : List AtomValue) → list_all test es ≡ true
    → (xs : List X) × AllZip is xs es
each-some {X} is test some [] all = ([], tt)
each-some {X} is test some (e ∷ es) all = by (λ h. each-some is test some es h) (test e) refl all
  where
    by : (list_all test es ≡ true → (xs : List X) × AllZip is xs es) → (b : Bool) → test e ≡ b
        → (b && list_all test es) ≡ true → (xs : List X) × AllZip is xs (e ∷ es)
    by recurse true passes h =
        let x = some e passes in
        let xs = recurse h in
        (x.0 ∷ xs.0, (x.1, xs.1))
    by recurse false fails h = absurd (cc)

array-some : (number : ℕ) (es : List AtomValue) → number < 5 → list_all (may_stand number) es ≡ true
    → Stands (number + 16) (array_head (length es) ∷ es)
array-some zero es low all =
    let x = each-some IsBool (may_stand 0) bool-some es all in (values.Bools x.0, refl, (es, refl, x.1))
array-some (suc zero) es low all =
    let x = each-some IsDouble (may_stand 1) double-some es all in (values.Doubles x.0, refl, (es, refl, x.1))
array-some (suc (suc zero)) es low all =
    let x = each-some IsInt (may_stand 2) int-some es all in (values.Ints x.0, refl, (es, refl, x.1))
array-some (suc (suc (suc zero))) es low all =
    let x = each-some IsFloat (may_stand 3) float-some es all in (values.Floats x.0, refl, (es, refl, x.1))
array-some (suc (suc (suc (suc zero)))) es low all =
    let x = each-some IsText (may_stand 4) text-some es all in (values.Texts x.0, refl, (es, refl, x.1))
array-some (suc (suc (suc (suc (suc n))))) es low all = absurd (omega arith)

both : (a b : Bool) → (a && b) ≡ true → (a ≡ true) × (b ≡ true)
both true true is = (refl, refl)
both true false is = absurd (cc)
both false b is = absurd (cc)

array-bounds : (n : ℕ) → is_single n ≡ false → is_known n ≡ true → (16 ≤ n) × (n - 16 < 5)
array-bounds n single known =
    let parts = both (nat_le 16 n) (nat_lt n 21) (rw single at known) in
    let low = leb-true 16 n parts.0 in
    let high = ltb-true n 21 parts.1 in
    (low, omega arith)

wire-some : (number : ℕ) (wire : List AtomValue) (b : Bool) → is_single number ≡ b → is_known number ≡ true
    → MatchBool b (IsSingle number wire) (IsArray (number - 16) wire) → Stands number wire
wire-some number wire true single known w =
    subst (λ (l : List AtomValue). Stands number l) (sym w.1) (single-some number w.0 (ltb-true number 6 single) w.2)
wire-some number wire false single known w =
    let bounds = array-bounds number single known in
    let low : number - 16 < 5 = bounds.1 in
    let high : 16 ≤ number = bounds.0 in
    let back : number - 16 + 16 ≡ number = omega arith in
    subst (λ (n : ℕ). Stands n wire) back
    (subst (λ (l : List AtomValue). Stands (number - 16 + 16) l) (sym w.1) (array-some (number - 16) w.0 low w.2))

-- ---- all bytes mean something

message-some : (m : ValueMsg) (x : List ℕ) → IsMessage m x → 0 < length x
message-some m x p =
    let s = p.spelled in
    omega (arith, spelling-some _ s.0 s.3, ap length s.2, length-append s.0 s.1)

-- a fault after so many bytes
abbrev moved_by : ℕ → Option FrameFault → Option FrameFault
moved_by count None = None
moved_by count (Some fault) = Some (record { at = count + fault.at; kind = fault.kind })

means-more : (most : ℕ) (m : ValueMsg) (prefix rest : List ℕ) (ms : List ValueMsg)
    (fault : Option FrameFault) → IsMessage m prefix → size_of m.value ≤ most → Means most rest ms fault
    → Means most (prefix ++ rest) (m ∷ ms) (moved_by (length prefix) fault)
means-more most m prefix rest ms None message small means = (prefix, rest, refl, message, small, means)
means-more most m prefix rest ms (Some fault) message small means = (
  prefix ++ means.0,
  means.1,
  ap (λ (l : List ℕ). prefix ++ l) means.2 ∙ sym (append_assoc prefix means.0 means.1),
  (prefix, means.0, refl, message, small, means.3),
  ap (λ (n : ℕ). length prefix + n) means.4 ∙ sym (length-append prefix means.0),
  means.5,
  means.6,
)

faulty : (most : ℕ) (bytes : List ℕ) (kind : FrameKind) → bytes ≢ [] → IsFault most bytes kind
    → Means most bytes [] (Some (record {
      at =
          0;
      kind = kind;
    }))
faulty most bytes kind some fault = ([], bytes, refl, refl, refl, some, fault)

message-of : (bytes : List ℕ) (y : List AtomValue × List ℕ) → Message bytes y
    → (m : ValueMsg) × (prefix : List ℕ) × (bytes ≡ prefix ++ y.1) × IsMessage m prefix
message-of bytes y r =
    let w = r.whole in
    let v = wire-some w.number w.wire (is_single w.number) refl w.lawful.number_is w.lawful.wire_is in
    let m : ValueMsg = record { id = w.id; time = w.time; value = v.0 } in
    let same : w.number ≡ value_number v.0 = sym v.1 in (
      m,
      r.prefix.prefix,
      r.prefix.whole,
      record {
        wire = w.wire;
        lawful = subst (λ (n : ℕ). IsLawful w.id w.time n w.wire) same w.lawful;
        value = v.2;
        spelled = subst (λ (atoms : List AtomValue). AreSpelled atoms r.prefix.prefix)
            (w.whole ∙ ap (λ (n : ℕ). atoms_of w.id w.time n w.wire) same) r.prefix.spelled;
      },
    )

abbrev Meaning : ℕ → List ℕ → Type 0
Meaning most bytes = (ms : List ValueMsg) × (fault : Option FrameFault) × Means most bytes ms fault

-- of bytes that begin with a message, by what is after it
with_message : (most fuel : ℕ) (bytes : List ℕ) (y : List AtomValue × List ℕ)
    → ((rest : List ℕ) → length rest ≤ fuel → Meaning most rest) → bytes ≢ [] → length bytes ≤ suc fuel
    → Message bytes y → Meaning most bytes
with_message most fuel bytes y recurse some within r =
    let one = message-of bytes y r in
    elim (cases_lt most (size_of one.0.value)) [
      | inl large ↦ (
        [],
        Some (record { at = 0; kind = kinds.TooLarge }),
        faulty most bytes kinds.TooLarge some (one.0, one.1, y.1, one.2, one.3, large),
      )
      | inr small ↦
          let shorter : length y.1 ≤ fuel = omega (
            arith,
            ap length one.2,
            length-append one.1 y.1,
            message-some one.0 one.1 one.3,
          ) in
          let rest = recurse y.1 shorter in (
            one.0 ∷ rest.0,
            moved_by (length one.1) rest.1,
            subst (λ (l : List ℕ). Means most l (one.0 ∷ rest.0) (moved_by (length one.1) rest.1)) (sym one.2)
                (means-more most one.0 one.1 y.1 rest.0 rest.1 one.3 small rest.2),
          )
    ]

meaning-within : (most fuel : ℕ) (bytes : List ℕ) → length bytes ≤ fuel → Meaning most bytes
meaning-within most fuel [] within = ([], None, refl)
meaning-within most zero (b ∷ bytes) within = absurd (omega arith)
meaning-within most (suc fuel) (b ∷ bytes) within =
    by (λ rest shorter. meaning-within most fuel rest shorter) (message_at (b ∷ bytes)) refl
  where
    by : ((rest : List ℕ) → length rest ≤ fuel → Meaning most rest)
        → (r : Result (List AtomValue × List ℕ) FrameKind) → message_at (b ∷ bytes) ≡ r
        → Meaning most (b ∷ bytes)
    by recurse (Err kind) e = (
      [],
      Some (record { at = 0; kind = kind }),
      faulty most (b ∷ bytes) kind (λ none. absurd (cc))
          (message_at-err most (b ∷ bytes) kind e),
    )
    by recurse (Ok y) e =
        with_message most fuel (b ∷ bytes) y recurse (λ none. absurd (cc)) within (message_at-ok (b ∷ bytes) y e)

pub meaning-some : (most : ℕ) (bytes : List ℕ)
    → (ms : List ValueMsg) × (fault : Option FrameFault) × Means most bytes ms fault
meaning-some most bytes = meaning-within most (length bytes) bytes (omega arith)
