-- What reading a message means: its atoms are spelled at the start of the bytes, or it is at fault.
use Rattle.std.proofs.Common.{◌≡◌, ◌⊎◌, inl, inr, ℕ, ◌-◌, ◌^◌, ◌<◌, ℤ, pos, negsuc, Bool, true, false, nat_lt, nat_le, ◌&&◌, ◌||◌, List, [], ◌∷◌, ◌++◌, length, Ok, Err, refl, ap, sym, ◌∙◌, subst, if◌then◌else◌, arith}
use Rattle.std.proofs.lemmas.Bool.{ltb-true, eqb-true}
use Rattle.nt_msgpack.specs.Atoms.{AtomValue, int, boolean, float32, float64, text, binary, array_head, map_head}
use Rattle.nt_frames.specs.declared.message.FrameKind.{FrameKind}
use Rattle.nt_frames.specs.declared.message.FrameKind.TheVariants as kinds
use Rattle.nt_frames.specs.Frames.{is_i64, is_single, is_known, may_stand, IsWire, IsWhole, IsFault, atoms_of}
use Rattle.nt_frames.specs.Reading.{Step, ◌>>=◌, atom_if, elements_at, single_at, array_at, wire_at, message_at, is_four, is_id, is_time, is_type, is_array_head, number_in}
use Rattle.nt_frames.proofs.Stages.{bind-ok, bind-err, Prefix, prefix-none, prefix-more, Took, atom_if-ok, atom_if-err, Stopped, stopped-fault, elements_at-ok, StoppedElement, elements_at-err, ok}
use Rattle.nt_frames.proofs.Goes.{takes_head, takes_id, takes_time, takes_type, no_head, no_id, no_time, no_type, TakesWire, takes_wire, no_wire, takes_single, no_single, takes_array_head, no_array_head, takes_element, no_element, single-wire_is, array-wire_is}

-- ---- what the tests say of an atom

four-is : (a : AtomValue) → is_four a ≡ true → a ≡ array_head 4
four-is (array_head n) e = ap array_head (eqb-true n 4 e)
four-is (int z) e = cc
four-is (boolean b) e = cc
four-is (float32 bits) e = cc
four-is (float64 bits) e = cc
four-is (text bs) e = cc
four-is (binary bs) e = cc
four-is (map_head n) e = cc

id-is : (a : AtomValue) → is_id a ≡ true → (z : ℤ) × (a ≡ int z) × (is_i64 z ≡ true)
id-is (int z) e = (z, refl, e)
id-is (array_head n) e = absurd (cc e)
id-is (boolean b) e = absurd (cc e)
id-is (float32 bits) e = absurd (cc e)
id-is (float64 bits) e = absurd (cc e)
id-is (text bs) e = absurd (cc e)
id-is (binary bs) e = absurd (cc e)
id-is (map_head n) e = absurd (cc e)

time-is : (a : AtomValue) → is_time a ≡ true → (n : ℕ) × (a ≡ int (pos n)) × (nat_lt n (2 ^ 63) ≡ true)
time-is (int (pos n)) e = (n, refl, e)
time-is (int (negsuc n)) e = absurd (cc e)
time-is (array_head n) e = absurd (cc e)
time-is (boolean b) e = absurd (cc e)
time-is (float32 bits) e = absurd (cc e)
time-is (float64 bits) e = absurd (cc e)
time-is (text bs) e = absurd (cc e)
time-is (binary bs) e = absurd (cc e)
time-is (map_head n) e = absurd (cc e)

type-is : (a : AtomValue) → is_type a ≡ true → (n : ℕ) × (a ≡ int (pos n)) × (is_known n ≡ true)
type-is (int (pos n)) e = (n, refl, e)
type-is (int (negsuc n)) e = absurd (cc e)
type-is (array_head n) e = absurd (cc e)
type-is (boolean b) e = absurd (cc e)
type-is (float32 bits) e = absurd (cc e)
type-is (float64 bits) e = absurd (cc e)
type-is (text bs) e = absurd (cc e)
type-is (binary bs) e = absurd (cc e)
type-is (map_head n) e = absurd (cc e)

array_head-is : (a : AtomValue) → is_array_head a ≡ true → a ≡ array_head (number_in a)
array_head-is (array_head n) e = refl
array_head-is (int z) e = cc
array_head-is (boolean b) e = cc
array_head-is (float32 bits) e = cc
array_head-is (float64 bits) e = cc
array_head-is (text bs) e = cc
array_head-is (binary bs) e = cc
array_head-is (map_head n) e = cc

-- ---- the atoms of a value

-- atoms of a value that were read
pub record Wire (number : ℕ) (bytes : List ℕ) (y : List AtomValue × List ℕ) : Type 0 where
  pub prefix : Prefix bytes y.0 y.1
  pub wire_is : IsWire number y.0

single_at-ok : (number : ℕ) (bytes : List ℕ) (y : List AtomValue × List ℕ) → is_single number ≡ true
    → single_at number bytes ≡ Ok y
    → Wire number bytes y
unfolding single_at
single_at-ok number bytes y s h =
    let one = bind-ok (atom_if kinds.BadValue (may_stand number) bytes) _ y h in
    let took = atom_if-ok kinds.BadValue (may_stand number) bytes one.0 one.1 in
    let e = one.2 in
    let is : (one.0.0 ∷ [], one.0.1) ≡ y = cc in
    subst (λ z. Wire number bytes z) is (record {
      prefix = took.prefix;
      wire_is = single-wire_is number (one.0.0 ∷ []) s (one.0.0, refl, took.test_is);
    })

array_at-ok : (number : ℕ) (bytes : List ℕ) (y : List AtomValue × List ℕ) → is_single number ≡ false
    → array_at (number - 16) bytes ≡ Ok y
    → Wire number bytes y
unfolding array_at
array_at-ok number bytes y s h =
    let one = bind-ok (atom_if kinds.BadValue is_array_head bytes) _ y h in
    let took = atom_if-ok kinds.BadValue is_array_head bytes one.0 one.1 in
    let others = bind-ok (elements_at (number - 16) (number_in one.0.0) one.0.1) _ y one.2 in
    let rest = elements_at-ok (number - 16) (number_in one.0.0) one.0.1 others.0 others.1 in
    let e = others.2 in
    let is : (one.0.0 ∷ others.0.0, others.0.1) ≡ y = cc in
    let head : one.0.0 ≡ array_head (length others.0.0) = array_head-is one.0.0 took.test_is
    ∙ ap array_head (sym rest.count) in
    subst (λ z. Wire number bytes z) is (record {
      prefix = prefix-more bytes (one.0.0 ∷ []) others.0.0 one.0.1 others.0.1 took.prefix rest.prefix;
      wire_is = array-wire_is number (one.0.0 ∷ others.0.0) s (others.0.0, ap (λ a. a ∷ others.0.0) head, rest.each);
    })

wire_at-ok : (number : ℕ) (bytes : List ℕ) (y : List AtomValue × List ℕ) → wire_at number bytes ≡ Ok y
    → Wire number bytes y
unfolding wire_at
wire_at-ok number bytes y h = by (is_single number) refl h
  where
    by : (b : Bool) → is_single number ≡ b → (if b then single_at number bytes else array_at (number - 16) bytes)
        ≡ Ok y → Wire number bytes y
    by true s h = single_at-ok number bytes y s h
    by false s h = array_at-ok number bytes y s h

-- an atom of the value at which reading stopped, and those before it
pub record StoppedWire (number : ℕ) (bytes : List ℕ) (k : FrameKind) : Type 0 where
  pub before : List AtomValue
  pub left : List ℕ
  pub prefix : Prefix bytes before left
  pub test : AtomValue → Bool
  pub good : AtomValue
  pub goes_on : TakesWire number before good
  pub refuses : (a : AtomValue) → test a ≡ false → ¬ (TakesWire number before a)
  pub stopped : Stopped kinds.BadValue test left k

single_at-err : (number : ℕ) (bytes : List ℕ) (k : FrameKind) → is_single number ≡ true → single_at number bytes ≡ Err k
    → StoppedWire number bytes k
unfolding single_at
single_at-err number bytes k s h =
    by (bind-err (atom_if kinds.BadValue (may_stand number) bytes) (λ atom. ok atom.0 ([], atom.1)) k h)
  where
    by : (atom_if kinds.BadValue (may_stand number) bytes ≡ Err k)
        ⊎ ((one : AtomValue × List ℕ) × (atom_if kinds.BadValue (may_stand number) bytes ≡ Ok one)
        × (ok one.0 ([], one.1) ≡ Err k))
        → StoppedWire number bytes k
    by (inl e) = record {
      before = [];
      left = bytes;
      prefix = prefix-none bytes;
      test = may_stand number;
      good = (takes_single number s).0;
      goes_on = (takes_single number s).1;
      refuses = λ a t. no_single number a s t;
      stopped = atom_if-err kinds.BadValue (may_stand number) bytes k e;
    }
    by (inr o) = let e = o.2 in absurd (cc e)

stopped_element : (number : ℕ) (bytes : List ℕ) (k : FrameKind) → is_single number ≡ false → (number - 16) < 6
    → (one : AtomValue × List ℕ) → Took is_array_head bytes one → StoppedElement (number - 16) (number_in one.0) one.1 k
    → StoppedWire number bytes k
stopped_element number bytes k s l one took rest =
    let good = takes_element number (number_in one.0) rest.before s l rest.some_left rest.each in
    record {
      before = array_head (number_in one.0) ∷ rest.before;
      left = rest.left;
      prefix = prefix-more bytes (array_head (number_in one.0) ∷ []) rest.before one.1 rest.left
          (subst (λ a. Prefix bytes (a ∷ []) one.1) (array_head-is one.0 took.test_is) took.prefix) rest.prefix;
      test = may_stand (number - 16);
      good = good.0;
      goes_on = good.1;
      refuses = λ a t. no_element number (number_in one.0) rest.before a s t;
      stopped = rest.stopped;
    }

array_at-err : (number : ℕ) (bytes : List ℕ) (k : FrameKind) → is_single number ≡ false → (number - 16) < 6
    → array_at (number - 16) bytes ≡ Err k
    → StoppedWire number bytes k
unfolding array_at
array_at-err number bytes k s l h =
    by (bind-err (atom_if kinds.BadValue is_array_head bytes)
    (λ head. elements_at (number - 16) (number_in head.0) head.1 >>= λ others. ok head.0 others) k h)
  where
    later : (one : AtomValue × List ℕ) → Took is_array_head bytes one
        → (elements_at (number - 16) (number_in one.0) one.1 ≡ Err k)
        ⊎ ((y : List AtomValue × List ℕ) × (elements_at (number - 16) (number_in one.0) one.1 ≡ Ok y)
        × (ok one.0 y ≡ Err k))
        → StoppedWire number bytes k
    later one took (inl e) = stopped_element number bytes k s l one took
        (elements_at-err (number - 16) (number_in one.0) one.1 k e)
    later one took (inr o) = let e = o.2 in absurd (cc e)

    by : (atom_if kinds.BadValue is_array_head bytes ≡ Err k)
        ⊎ ((one : AtomValue × List ℕ) × (atom_if kinds.BadValue is_array_head bytes ≡ Ok one)
        × ((elements_at (number - 16) (number_in one.0) one.1 >>= λ others. ok one.0 others) ≡ Err k))
        → StoppedWire number bytes k
    by (inl e) = record {
      before = [];
      left = bytes;
      prefix = prefix-none bytes;
      test = is_array_head;
      good = array_head 0;
      goes_on = takes_array_head number s;
      refuses = λ a t. no_array_head number a s t;
      stopped = atom_if-err kinds.BadValue is_array_head bytes k e;
    }
    by (inr o) = later o.0 (atom_if-ok kinds.BadValue is_array_head bytes o.0 o.1)
        (bind-err (elements_at (number - 16) (number_in o.0.0) o.0.1) (λ others. ok o.0.0 others) k o.2)

-- the elements of a known array have a single type
known_array : (number : ℕ) → is_known number ≡ true → is_single number ≡ false → (number - 16) < 6
known_array number known s = by (nat_lt number 6) (nat_le 16 number) (nat_lt number 21) refl s known
  where
    by : (a b c : Bool) → nat_lt number 21 ≡ c → a ≡ false → (a || (b && c)) ≡ true → (number - 16) < 6
    by true b c e s k = absurd (cc s)
    by false true true e s k = let l = ltb-true number 21 e in omega arith
    by false true false e s k = absurd (cc k)
    by false false c e s k = absurd (cc k)

wire_at-err : (number : ℕ) (bytes : List ℕ) (k : FrameKind) → is_known number ≡ true → wire_at number bytes ≡ Err k
    → StoppedWire number bytes k
unfolding wire_at
wire_at-err number bytes k known h = by (is_single number) refl h
  where
    by : (b : Bool) → is_single number ≡ b → (if b then single_at number bytes else array_at (number - 16) bytes)
        ≡ Err k → StoppedWire number bytes k
    by true s h = single_at-err number bytes k s h
    by false s h = array_at-err number bytes k s (known_array number known s) h

-- ---- whole messages

-- all atoms of a message
abbrev whole : AtomValue → AtomValue → AtomValue → AtomValue → List AtomValue × List ℕ → Step (List AtomValue)
whole head id time typ wire = Ok (head ∷ id ∷ time ∷ typ ∷ wire.0, wire.1)

-- the steps after each of the first four atoms
abbrev from_type : AtomValue → AtomValue → AtomValue → AtomValue × List ℕ → Step (List AtomValue)
from_type head id time typ = wire_at (number_in typ.0) typ.1 >>= whole head id time typ.0

abbrev from_time : AtomValue → AtomValue → AtomValue × List ℕ → Step (List AtomValue)
from_time head id time = atom_if kinds.BadType is_type time.1 >>= from_type head id time.0

abbrev from_id : AtomValue → AtomValue × List ℕ → Step (List AtomValue)
from_id head id = atom_if kinds.BadTime is_time id.1 >>= from_time head id.0

abbrev from_head : AtomValue × List ℕ → Step (List AtomValue)
from_head head = atom_if kinds.BadId is_id head.1 >>= from_id head.0

-- the first four atoms of a message stand at the start of the bytes
record Heading (bytes : List ℕ) (head id time typ : AtomValue) (left : List ℕ) : Type 0 where
  id_of : ℤ
  time_of : ℕ
  head_is : head ≡ array_head 4
  id_at : id ≡ int id_of
  id_is : is_i64 id_of ≡ true
  time_at : time ≡ int (pos time_of)
  time_is : nat_lt time_of (2 ^ 63) ≡ true
  type_at : typ ≡ int (pos (number_in typ))
  type_is : is_known (number_in typ) ≡ true
  prefix : Prefix bytes (head ∷ id ∷ time ∷ typ ∷ []) left

-- one more atom
one_more : (bytes : List ℕ) (atoms : List AtomValue) (left : List ℕ) (test : AtomValue → Bool) (y : AtomValue × List ℕ)
    → Prefix bytes atoms left → Took test left y → Prefix bytes (atoms ++ y.0 ∷ []) y.1
one_more bytes atoms left test y f t = prefix-more bytes atoms (y.0 ∷ []) left y.1 f t.prefix

heading : (bytes : List ℕ) (head id time typ : AtomValue × List ℕ)
    → Took is_four bytes head → Took is_id head.1 id → Took is_time id.1 time → Took is_type time.1 typ
    → Heading bytes head.0 id.0 time.0 typ.0 typ.1
heading bytes head id time typ h i t n =
    let id_at = id-is id.0 i.test_is in
    let time_at = time-is time.0 t.test_is in
    let type_at = type-is typ.0 n.test_is in
    let number : number_in typ.0 ≡ type_at.0 = ap number_in type_at.1 in
    record {
      id_of = id_at.0;
      time_of = time_at.0;
      head_is = four-is head.0 h.test_is;
      id_at = id_at.1;
      id_is = id_at.2;
      time_at = time_at.1;
      time_is = time_at.2;
      type_at = type_at.1 ∙ ap (λ m. int (pos m)) (sym number);
      type_is = subst (λ m. is_known m ≡ true) (sym number) type_at.2;
      prefix = one_more bytes (head.0 ∷ id.0 ∷ time.0 ∷ []) time.1 is_type typ
          (one_more bytes (head.0 ∷ id.0 ∷ []) id.1 is_time time
          (one_more bytes (head.0 ∷ []) head.1 is_id id h.prefix i) t) n;
    }

-- the atoms of a whole message that was read
pub record Message (bytes : List ℕ) (y : List AtomValue × List ℕ) : Type 0 where
  pub prefix : Prefix bytes y.0 y.1
  pub whole : IsWhole y.0

message_from : (bytes : List ℕ) (head id time typ : AtomValue) (left : List ℕ) (wire : List AtomValue × List ℕ)
    → Heading bytes head id time typ left → Wire (number_in typ) left wire
    → Message bytes (head ∷ id ∷ time ∷ typ ∷ wire.0, wire.1)
message_from bytes head id time typ left wire h w =
    let number = number_in typ in
    let same : head ∷ id ∷ time ∷ typ ∷ wire.0 ≡ atoms_of h.id_of h.time_of (number_in typ) wire.0 =
    (let a = h.head_is in let b = h.id_at in let c = h.time_at in let d = h.type_at in cc) in
    record {
      prefix = prefix-more bytes (head ∷ id ∷ time ∷ typ ∷ []) wire.0 left wire.1 h.prefix w.prefix;
      whole = record {
        id = h.id_of;
        time = h.time_of;
        number = number_in typ;
        wire = wire.0;
        lawful = record { id_is = h.id_is; time_is = h.time_is; number_is = h.type_is; wire_is = w.wire_is };
        whole = same;
      };
    }

pub message_at-ok : (bytes : List ℕ) (y : List AtomValue × List ℕ) → message_at bytes ≡ Ok y → Message bytes y
unfolding message_at
message_at-ok bytes y h =
    let head = bind-ok (atom_if kinds.NotArray4 is_four bytes) from_head y h in
    let id = bind-ok (atom_if kinds.BadId is_id head.0.1) (from_id head.0.0) y head.2 in
    let time = bind-ok (atom_if kinds.BadTime is_time id.0.1) (from_time head.0.0 id.0.0) y id.2 in
    let typ = bind-ok (atom_if kinds.BadType is_type time.0.1) (from_type head.0.0 id.0.0 time.0.0) y time.2 in
    let wire = bind-ok (wire_at (number_in typ.0.0) typ.0.1) (whole head.0.0 id.0.0 time.0.0 typ.0.0) y typ.2 in
    let e = wire.2 in
    let is : (head.0.0 ∷ id.0.0 ∷ time.0.0 ∷ typ.0.0 ∷ wire.0.0, wire.0.1) ≡ y = cc in
    subst (λ z. Message bytes z) is (message_from bytes head.0.0 id.0.0 time.0.0 typ.0.0 typ.0.1 wire.0
    (heading bytes head.0 id.0 time.0 typ.0
    (atom_if-ok kinds.NotArray4 is_four bytes head.0 head.1)
    (atom_if-ok kinds.BadId is_id head.0.1 id.0 id.1)
    (atom_if-ok kinds.BadTime is_time id.0.1 time.0 time.1)
    (atom_if-ok kinds.BadType is_type time.0.1 typ.0 typ.1))
    (wire_at-ok (number_in typ.0.0) typ.0.1 wire.0 wire.1))

-- ---- messages at fault

-- the fault in the value
wire-fault : (most : ℕ) (bytes : List ℕ) (head id time typ : AtomValue) (left : List ℕ) (k : FrameKind)
    → Heading bytes head id time typ left → StoppedWire (number_in typ) left k → IsFault most bytes k
wire-fault most bytes head id time typ left k h w =
    let number = number_in typ in
    let four : head ∷ id ∷ time ∷ typ ∷ [] ≡ array_head 4 ∷ int h.id_of ∷ int (pos h.time_of)
    ∷ int (pos (number_in typ)) ∷ [] =
    (let a = h.head_is in let b = h.id_at in let c = h.time_at in let d = h.type_at in cc) in
    stopped-fault most bytes (atoms_of h.id_of h.time_of (number_in typ) w.before) w.left w.test k
    (prefix-more bytes (array_head 4 ∷ int h.id_of ∷ int (pos h.time_of) ∷ int (pos (number_in typ)) ∷ []) w.before
    left w.left
    (subst (λ z. Prefix bytes z left) four h.prefix) w.prefix)
    w.good
    (takes_wire h.id_of h.time_of (number_in typ) w.before w.good h.id_is h.time_is h.type_is w.goes_on)
    (λ a t. no_wire h.id_of h.time_of (number_in typ) w.before a (w.refuses a t))
    w.stopped

from_type-fault : (most : ℕ) (bytes : List ℕ) (head id time typ : AtomValue × List ℕ) (k : FrameKind)
    → Took is_four bytes head → Took is_id head.1 id → Took is_time id.1 time → Took is_type time.1 typ
    → from_type head.0 id.0 time.0 typ ≡ Err k → IsFault most bytes k
from_type-fault most bytes head id time typ k h i t n e =
    by (bind-err (wire_at (number_in typ.0) typ.1) (whole head.0 id.0 time.0 typ.0) k e)
  where
    by : (wire_at (number_in typ.0) typ.1 ≡ Err k)
        ⊎ ((wire : List AtomValue × List ℕ) × (wire_at (number_in typ.0) typ.1 ≡ Ok wire)
        × (whole head.0 id.0 time.0 typ.0 wire ≡ Err k))
        → IsFault most bytes k
    by (inl e) =
        let all = heading bytes head id time typ h i t n in
        wire-fault most bytes head.0 id.0 time.0 typ.0 typ.1 k all (wire_at-err (number_in typ.0) typ.1 k all.type_is e)
    by (inr o) = let e = o.2 in absurd (cc e)

from_time-fault : (most : ℕ) (bytes : List ℕ) (head id time : AtomValue × List ℕ) (k : FrameKind)
    → Took is_four bytes head → Took is_id head.1 id → Took is_time id.1 time
    → from_time head.0 id.0 time ≡ Err k → IsFault most bytes k
from_time-fault most bytes head id time k h i t e =
    by (bind-err (atom_if kinds.BadType is_type time.1) (from_type head.0 id.0 time.0) k e)
  where
    by : (atom_if kinds.BadType is_type time.1 ≡ Err k)
        ⊎ ((typ : AtomValue × List ℕ) × (atom_if kinds.BadType is_type time.1 ≡ Ok typ)
        × (from_type head.0 id.0 time.0 typ ≡ Err k))
        → IsFault most bytes k
    by (inl e) =
        let id_at = id-is id.0 i.test_is in
        let time_at = time-is time.0 t.test_is in
        let three : head.0 ∷ id.0 ∷ time.0 ∷ [] ≡ array_head 4 ∷ int id_at.0 ∷ int (pos time_at.0) ∷ [] =
        (let a = four-is head.0 h.test_is in let b = id_at.1 in let c = time_at.1 in cc) in
        stopped-fault most bytes (array_head 4 ∷ int id_at.0 ∷ int (pos time_at.0) ∷ []) time.1 is_type k
        (subst (λ z. Prefix bytes z time.1) three
        (one_more bytes (head.0 ∷ id.0 ∷ []) id.1 is_time time
        (one_more bytes (head.0 ∷ []) head.1 is_id id h.prefix i) t))
        (int (pos 0)) (takes_type id_at.0 time_at.0 0 id_at.2 time_at.2 refl) (no_type id_at.0 time_at.0)
        (atom_if-err kinds.BadType is_type time.1 k e)
    by (inr o) = from_type-fault most bytes head id time o.0 k h i t
        (atom_if-ok kinds.BadType is_type time.1 o.0 o.1) o.2

from_id-fault : (most : ℕ) (bytes : List ℕ) (head id : AtomValue × List ℕ) (k : FrameKind)
    → Took is_four bytes head → Took is_id head.1 id → from_id head.0 id ≡ Err k → IsFault most bytes k
from_id-fault most bytes head id k h i e = by
    (bind-err (atom_if kinds.BadTime is_time id.1) (from_time head.0 id.0) k e)
  where
    by : (atom_if kinds.BadTime is_time id.1 ≡ Err k)
        ⊎ ((time : AtomValue × List ℕ) × (atom_if kinds.BadTime is_time id.1 ≡ Ok time)
        × (from_time head.0 id.0 time ≡ Err k))
        → IsFault most bytes k
    by (inl e) =
        let id_at = id-is id.0 i.test_is in
        let two : head.0 ∷ id.0 ∷ [] ≡ array_head 4 ∷ int id_at.0 ∷ [] =
        (let a = four-is head.0 h.test_is in let b = id_at.1 in cc) in
        stopped-fault most bytes (array_head 4 ∷ int id_at.0 ∷ []) id.1 is_time k
        (subst (λ z. Prefix bytes z id.1) two (one_more bytes (head.0 ∷ []) head.1 is_id id h.prefix i))
        (int (pos 0)) (takes_time id_at.0 0 id_at.2 refl) (no_time id_at.0)
        (atom_if-err kinds.BadTime is_time id.1 k e)
    by (inr o) = from_time-fault most bytes head id o.0 k h i (atom_if-ok kinds.BadTime is_time id.1 o.0 o.1) o.2

from_head-fault : (most : ℕ) (bytes : List ℕ) (head : AtomValue × List ℕ) (k : FrameKind)
    → Took is_four bytes head → from_head head ≡ Err k → IsFault most bytes k
from_head-fault most bytes head k h e = by (bind-err (atom_if kinds.BadId is_id head.1) (from_id head.0) k e)
  where
    by : (atom_if kinds.BadId is_id head.1 ≡ Err k)
        ⊎ ((id : AtomValue × List ℕ) × (atom_if kinds.BadId is_id head.1 ≡ Ok id) × (from_id head.0 id ≡ Err k))
        → IsFault most bytes k
    by (inl e) =
        let one : head.0 ∷ [] ≡ array_head 4 ∷ [] = (let a = four-is head.0 h.test_is in cc) in
        stopped-fault most bytes (array_head 4 ∷ []) head.1 is_id k
        (subst (λ z. Prefix bytes z head.1) one h.prefix)
        (int (pos 0)) (takes_id (pos 0) refl) no_id (atom_if-err kinds.BadId is_id head.1 k e)
    by (inr o) = from_id-fault most bytes head o.0 k h (atom_if-ok kinds.BadId is_id head.1 o.0 o.1) o.2

pub message_at-err : (most : ℕ) (bytes : List ℕ) (k : FrameKind) → message_at bytes ≡ Err k → IsFault most bytes k
unfolding message_at
message_at-err most bytes k e = by (bind-err (atom_if kinds.NotArray4 is_four bytes) from_head k e)
  where
    by : (atom_if kinds.NotArray4 is_four bytes ≡ Err k)
        ⊎ ((head : AtomValue × List ℕ) × (atom_if kinds.NotArray4 is_four bytes ≡ Ok head) × (from_head head ≡ Err k))
        → IsFault most bytes k
    by (inl e) =
        stopped-fault most bytes [] bytes is_four k (prefix-none bytes) (array_head 4) takes_head no_head
        (atom_if-err kinds.NotArray4 is_four bytes k e)
    by (inr o) = from_head-fault most bytes o.0 k (atom_if-ok kinds.NotArray4 is_four bytes o.0 o.1) o.2
