-- The atoms with which a message goes on, and those with which it doesn't.
use Rattle.std.proofs.Common.{◌≡◌, ℕ, zero, suc, ◌-◌, ◌^◌, ◌<◌, ℤ, pos, Bool, true, false, nat_lt, MatchBool, List, [], ◌∷◌, ◌++◌, length, replicate, refl, ap, sym, ◌∙◌, subst, length-append, ◌&&◌, arith}
use Rattle.std.specs.List.{list_all}
use Rattle.std.proofs.lemmas.Bool.{ltb-true}
use Rattle.std.proofs.lemmas.List.{length-replicate}
use Rattle.std.proofs.lemmas.List.Folds.{list_all-append}
use Rattle.nt_msgpack.specs.Atoms.{AtomValue, int, boolean, float64, text, binary, array_head}
use Rattle.nt_frames.specs.Frames.{is_i64, is_single, is_known, may_stand, IsSingle, IsArray, IsWire, IsWhole, Takes, atoms_of}
use Rattle.nt_frames.specs.Reading.{is_four, is_id, is_time, is_type, is_array_head}

-- ---- some value of each type

-- an atom that may stand for a single value of this type
pub some_atom : (n : ℕ) → n < 6 → (atom : AtomValue) × (may_stand n atom ≡ true)
some_atom zero l = (boolean true, refl)
some_atom (suc zero) l = (float64 0, refl)
some_atom (suc (suc zero)) l = (int (pos 0), refl)
some_atom (suc (suc (suc zero))) l = (float64 0, refl)
some_atom (suc (suc (suc (suc zero)))) l = (text [], refl)
some_atom (suc (suc (suc (suc (suc zero))))) l = (binary [], refl)
some_atom (suc (suc (suc (suc (suc (suc n)))))) l = absurd (omega arith)

-- atoms that may stand for a value of this type
some_wire : (b : Bool) (n m : ℕ) → nat_lt n 6 ≡ b
    → (wire : List AtomValue) × MatchBool b (IsSingle n wire) (IsArray m wire)
some_wire true n m e = let a = some_atom n (ltb-true n 6 e) in (a.0 ∷ [], (a.0, refl, a.1))
some_wire false n m e = (array_head 0 ∷ [], ([], refl, refl))

whole_message : (id : ℤ) (time number : ℕ) → is_i64 id ≡ true → nat_lt time (2 ^ 63) ≡ true → is_known number ≡ true
    → (wire : List AtomValue) × IsWhole (atoms_of id time number wire)
whole_message id time number i t n =
    let wire = some_wire (is_single number) number (number - 16) refl in (
      wire.0,
      record {
        id = id;
        time = time;
        number = number;
        wire = wire.0;
        lawful = record { id_is = i; time_is = t; number_is = n; wire_is = wire.1 };
        whole = refl;
      },
    )

-- ---- the first four atoms

pub takes_head : Takes [] (array_head 4)
takes_head =
    let m = whole_message (pos 0) 0 0 refl refl refl in (int (pos 0) ∷ int (pos 0) ∷ int (pos 0) ∷ m.0, m.1)

pub takes_id : (id : ℤ) → is_i64 id ≡ true → Takes (array_head 4 ∷ []) (int id)
takes_id id i =
    let m = whole_message id 0 0 i refl refl in (int (pos 0) ∷ int (pos 0) ∷ m.0, m.1)

pub takes_time : (id : ℤ) (time : ℕ) → is_i64 id ≡ true → nat_lt time (2 ^ 63) ≡ true
    → Takes (array_head 4 ∷ int id ∷ []) (int (pos time))
takes_time id time i t =
    let m = whole_message id time 0 i t refl in (int (pos 0) ∷ m.0, m.1)

pub takes_type : (id : ℤ) (time number : ℕ) → is_i64 id ≡ true → nat_lt time (2 ^ 63) ≡ true → is_known number ≡ true
    → Takes (array_head 4 ∷ int id ∷ int (pos time) ∷ []) (int (pos number))
takes_type id time number i t n = whole_message id time number i t n

pub no_head : (a : AtomValue) → is_four a ≡ false → ¬ (Takes [] a)
no_head a isnt t =
    let whole = t.1.whole in let same : a ≡ array_head 4 = cc in let four : is_four a ≡ true = ap is_four same in cc

pub no_id : (a : AtomValue) → is_id a ≡ false → ¬ (Takes (array_head 4 ∷ []) a)
no_id a isnt t =
    let whole = t.1.whole in let same : a ≡ int t.1.id = cc in
    let is : is_id a ≡ true = ap is_id same ∙ t.1.lawful.id_is in cc

pub no_time : (id : ℤ) (a : AtomValue) → is_time a ≡ false → ¬ (Takes (array_head 4 ∷ int id ∷ []) a)
no_time id a isnt t =
    let whole = t.1.whole in let same : a ≡ int (pos t.1.time) = cc in
    let is : is_time a ≡ true = ap is_time same ∙ t.1.lawful.time_is in cc

pub no_type : (id : ℤ) (time : ℕ) (a : AtomValue) → is_type a ≡ false
    → ¬ (Takes (array_head 4 ∷ int id ∷ int (pos time) ∷ []) a)
no_type id time a isnt t =
    let whole = t.1.whole in let same : a ≡ int (pos t.1.number) = cc in
    let is : is_type a ≡ true = ap is_type same ∙ t.1.lawful.number_is in cc

-- ---- the atoms of the value

-- a value of this type begins with these atoms, and goes on with this one
abbrev pub TakesWire : ℕ → List AtomValue → AtomValue → Type 0
TakesWire number wire next = (more : List AtomValue) × IsWire number (wire ++ next ∷ more)

pub takes_wire : (id : ℤ) (time number : ℕ) (wire : List AtomValue) (next : AtomValue)
    → is_i64 id ≡ true → nat_lt time (2 ^ 63) ≡ true → is_known number ≡ true
    → TakesWire number wire next → Takes (atoms_of id time number wire) next
takes_wire id time number wire next i t n takes = (
  takes.0,
  record {
    id = id;
    time = time;
    number = number;
    wire = wire ++ next ∷ takes.0;
    lawful = record { id_is = i; time_is = t; number_is = n; wire_is = takes.1 };
    whole = refl;
  },
)

pub no_wire : (id : ℤ) (time number : ℕ) (wire : List AtomValue) (a : AtomValue)
    → ¬ (TakesWire number wire a) → ¬ (Takes (atoms_of id time number wire) a)
no_wire id time number wire a isnt t =
    let whole = t.1.whole in
    let number_is : t.1.number ≡ number = cc in
    let wire_is : t.1.wire ≡ wire ++ a ∷ t.0 = cc in
    isnt (
      t.0,
      subst (λ n. IsWire n (wire ++ a ∷ t.0)) number_is
          (subst (λ w. IsWire t.1.number w) wire_is t.1.lawful.wire_is),
    )

-- by whether the type is that of an array
wire_is-single : (number : ℕ) (wire : List AtomValue) → is_single number ≡ true → IsWire number wire
    → IsSingle number wire
wire_is-single number wire e w = subst (λ b. MatchBool b (IsSingle number wire) (IsArray (number - 16) wire)) e w

pub single-wire_is : (number : ℕ) (wire : List AtomValue) → is_single number ≡ true → IsSingle number wire
    → IsWire number wire
single-wire_is number wire e w = subst (λ b. MatchBool b (IsSingle number wire) (IsArray (number - 16) wire)) (sym e) w

wire_is-array : (number : ℕ) (wire : List AtomValue) → is_single number ≡ false → IsWire number wire
    → IsArray (number - 16) wire
wire_is-array number wire e w = subst (λ b. MatchBool b (IsSingle number wire) (IsArray (number - 16) wire)) e w

pub array-wire_is : (number : ℕ) (wire : List AtomValue) → is_single number ≡ false → IsArray (number - 16) wire
    → IsWire number wire
array-wire_is number wire e w = subst (λ b. MatchBool b (IsSingle number wire) (IsArray (number - 16) wire)) (sym e) w

pub takes_single : (number : ℕ) → is_single number ≡ true → (good : AtomValue) × TakesWire number [] good
takes_single number e =
    let a = some_atom number (ltb-true number 6 e) in
    (a.0, ([], single-wire_is number (a.0 ∷ []) e (a.0, refl, a.1)))

pub no_single : (number : ℕ) (a : AtomValue) → is_single number ≡ true → may_stand number a ≡ false
    → ¬ (TakesWire number [] a)
no_single number a e isnt t =
    let w = wire_is-single number (a ∷ t.0) e t.1 in
    let whole = w.1 in let same : a ≡ w.0 = cc in
    let is : may_stand number a ≡ true = ap (may_stand number) same ∙ w.2 in cc

pub takes_array_head : (number : ℕ) → is_single number ≡ false → TakesWire number [] (array_head 0)
takes_array_head number e = ([], array-wire_is number (array_head 0 ∷ []) e ([], refl, refl))

pub no_array_head : (number : ℕ) (a : AtomValue) → is_single number ≡ false → is_array_head a ≡ false
    → ¬ (TakesWire number [] a)
no_array_head number a e isnt t =
    let w = wire_is-array number (a ∷ t.0) e t.1 in
    let whole = w.1 in let same : a ≡ array_head (length w.0) = cc in
    let is : is_array_head a ≡ true = ap is_array_head same in cc

-- more elements of an array
all_more : (p : AtomValue → Bool) (es fs : List AtomValue) → list_all p es ≡ true → list_all p fs ≡ true
    → list_all p (es ++ fs) ≡ true
all_more p es fs d e = rw list_all-append (rw d e)

all_copies : (p : AtomValue → Bool) (n : ℕ) (a : AtomValue) → p a ≡ true → list_all p (replicate n a) ≡ true
all_copies p zero a e = refl
all_copies p (suc n) a e = rw e (all_copies p n a e)

all_rest : (p : AtomValue → Bool) (es : List AtomValue) (a : AtomValue) (fs : List AtomValue)
    → list_all p (es ++ a ∷ fs) ≡ true → p a ≡ true
all_rest p [] a fs e = both (p a) (list_all p fs) e
  where
    both : (b c : Bool) → (b && c) ≡ true → b ≡ true
    both true c e = refl
    both false c e = cc
all_rest p (f ∷ es) a fs e = all_rest p es a fs (second (p f) (list_all p (es ++ a ∷ fs)) e)
  where
    second : (b c : Bool) → (b && c) ≡ true → c ≡ true
    second true c e = e
    second false c e = cc

pub takes_element : (number count : ℕ) (es : List AtomValue) → is_single number ≡ false → (number - 16) < 6
    → length es < count → list_all (may_stand (number - 16)) es ≡ true
    → (good : AtomValue) × TakesWire number (array_head count ∷ es) good
takes_element number count es e l below all =
    let a = some_atom (number - 16) l in
    let more : List AtomValue = replicate (count - length es - 1) a.0 in
    let elements : List AtomValue = es ++ a.0 ∷ more in
    let count_is : length elements ≡ count = omega
    (arith, length-append es (a.0 ∷ more), length-replicate (count - length es - 1) a.0) in
    let each : list_all (may_stand (number - 16)) elements ≡ true =
    all_more (may_stand (number - 16)) es (a.0 ∷ more) all
    (rw a.1 (all_copies (may_stand (number - 16)) (count - length es - 1) a.0 a.1)) in (
      a.0,
      (
        more,
        array-wire_is number (array_head count ∷ (es ++ a.0 ∷ more)) e
            (elements, ap (λ n. array_head n ∷ elements) (sym count_is), each),
      ),
    )

pub no_element : (number count : ℕ) (es : List AtomValue) (a : AtomValue) → is_single number ≡ false
    → may_stand (number - 16) a ≡ false → ¬ (TakesWire number (array_head count ∷ es) a)
no_element number count es a e isnt t =
    let w = wire_is-array number (array_head count ∷ (es ++ a ∷ t.0)) e t.1 in
    let whole = w.1 in let elements : w.0 ≡ es ++ a ∷ t.0 = cc in
    let is : may_stand (number - 16) a ≡ true =
    all_rest (may_stand (number - 16)) es a t.0 (subst
    (λ z. list_all (may_stand (number - 16)) z ≡ true) elements w.2) in cc
