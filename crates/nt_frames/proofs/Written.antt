-- What is written, and that it is read back.
use Rattle.std.proofs.Common.{◌≡◌, ℕ, ◌+◌, ◌<◌, ◌≤◌, List, [], ◌∷◌, ◌++◌, length, map, take, get_or, true, refl, ap, sym, ◌∙◌, subst, append_assoc, append-nil}
use Rattle.std.specs.List.{AllZip, AllByRecursion, list_all, flat_map}
use Rattle.std.proofs.lemmas.List.{length-map, map-append, take_more, take_all}
use Rattle.std.proofs.lemmas.List.Folds.{list_all-append}
use Rattle.std.proofs.lemmas.Grind.{flat_map-append}
use Rattle.nt_values.specs.declared.value.Value.{Value}
use Rattle.nt_values.specs.declared.value.Value.TheVariants as values
use Rattle.nt_values.specs.Types.{value_number}
use Rattle.nt_msgpack.specs.Atoms.{AtomValue, int, boolean, float32, float64, text, binary, array_head, shortest}
use Rattle.nt_msgpack.proofs.Shortest.{shortest-spelled}
use Rattle.nt_frames.specs.declared.message.ValueMsg.{ValueMsg}
use Rattle.nt_frames.proofs.Goes.{single-wire_is}
use Rattle.nt_frames.specs.Frames.{may_stand, is_known, is_single, IsWire, IsBool, IsDouble, IsInt, IsFloat, IsText, Each, Stand, AreSpelled, IsMessage, IsFrame, IsArray, CanSpell, HasSpelling, IsInRange, atoms_of, wire_of, spelling_of, frame_of}

-- ---- reading back

-- the shortest spellings in a row
spelled-shortest : (atoms : List AtomValue) → AllByRecursion CanSpell atoms → AreSpelled atoms (flat_map shortest atoms)
spelled-shortest [] h = refl
spelled-shortest (a ∷ atoms) h =
    (shortest a, flat_map shortest atoms, refl, shortest-spelled a h.0.0 h.0.1, spelled-shortest atoms h.1)

own-pairs : {X : Type 0} (is : X → AtomValue → Type 0) (own : X → AtomValue) → ((x : X) → is x (own x))
    → (xs : List X) → AllZip is xs (map own xs)
own-pairs is own h [] = tt
own-pairs is own h (x ∷ xs) = (h x, own-pairs is own h xs)

own-each : {X : Type 0} (is : X → AtomValue → Type 0) (own : X → AtomValue) → ((x : X) → is x (own x)) → (xs : List X)
    → Each is xs (array_head (length xs) ∷ map own xs)
own-each is own h xs =
    (map own xs, ap (λ n. array_head n ∷ map own xs) (sym (length-map xs own)), own-pairs is own h xs)

-- a value's own atoms stand for it
stand-own : (v : Value) → Stand v (wire_of v)
stand-own (values.Bool x) = (boolean x, refl, refl)
stand-own (values.Double x) = (float64 x, refl, refl)
stand-own (values.Int x) = (int x, refl, refl)
stand-own (values.Float x) = (float32 x, refl, refl)
stand-own (values.Text x) = (text x, refl, refl)
stand-own (values.Bytes x) = (binary x, refl, refl)
stand-own (values.Bools xs) = own-each IsBool boolean (λ x. refl) xs
stand-own (values.Doubles xs) = own-each IsDouble float64 (λ x. refl) xs
stand-own (values.Ints xs) = own-each IsInt int (λ x. refl) xs
stand-own (values.Floats xs) = own-each IsFloat float32 (λ x. refl) xs
stand-own (values.Texts xs) = own-each IsText text (λ x. refl) xs

known-own : (v : Value) → is_known (value_number v) ≡ true
known-own (values.Bool x) = refl
known-own (values.Double x) = refl
known-own (values.Int x) = refl
known-own (values.Float x) = refl
known-own (values.Text x) = refl
known-own (values.Bytes x) = refl
known-own (values.Bools xs) = refl
known-own (values.Doubles xs) = refl
known-own (values.Ints xs) = refl
known-own (values.Floats xs) = refl
known-own (values.Texts xs) = refl

message-back : (most : ℕ) (m : ValueMsg) → HasSpelling m → IsInRange most m → IsMessage m (spelling_of m)
message-back most m h r = record {
  wire = wire_of m.value;
  lawful = record { id_is = r.id; time_is = r.time; number_is = known-own m.value; wire_is = h.wire };
  value = stand-own m.value;
  spelled = spelled-shortest (atoms_of m.id m.time (value_number m.value) (wire_of m.value)) h.atoms;
}

-- what is written is a frame of the messages
pub frame-back : (most : ℕ) (ms : List ValueMsg) → AllByRecursion HasSpelling ms → AllByRecursion (IsInRange most) ms
    → IsFrame most ms (frame_of ms)
frame-back most [] h r = refl
frame-back most (m ∷ ms) h r =
    (spelling_of m, frame_of ms, refl, message-back most m h.0 r.0, r.0.size, frame-back most ms h.1 r.1)

-- ---- writing one after another

pub each-more : {X : Type 0} (P : X → Type 0) (xs : List X) (x : X) → AllByRecursion P xs → P x
    → AllByRecursion P (xs ++ x ∷ [])
each-more P [] x h p = (p, tt)
each-more P (y ∷ xs) x h p = (h.0, each-more P xs x h.1 p)

pub flat_map-more : {X : Type 0} (f : X → List ℕ) (before out after : List ℕ) (xs : List X) (x : X)
    → out ≡ before ++ flat_map f xs → after ≡ out ++ f x → after ≡ before ++ flat_map f (xs ++ x ∷ [])
flat_map-more f before out after xs x e a =
    a ∙ ap (λ z. z ++ f x) e ∙ append_assoc before (flat_map f xs) (f x)
    ∙ ap (λ z. before ++ (flat_map f xs ++ z)) (sym (append-nil (f x)))
    ∙ ap (λ z. before ++ z) (sym (flat_map-append f xs (x ∷ [])))

-- the atoms of a list so far: what was written, that each has a spelling, and that each may stand in it
pub record Listed (number : ℕ) (before out : List ℕ) (atoms : List AtomValue) (elements : List AtomValue) : Type 0 where
  pub written : out ≡ before ++ flat_map shortest atoms
  pub spelled : AllByRecursion CanSpell atoms
  pub each : list_all (may_stand number) elements ≡ true

pub listed-none : (number count : ℕ) (before out : List ℕ) → CanSpell (array_head count)
    → out ≡ before ++ shortest (array_head count)
    → Listed number before out (array_head count ∷ []) []
listed-none number count before out h e =
    record {
      written = e ∙ ap (λ z. before ++ z) (sym (append-nil (shortest (array_head count))));
      spelled = (h, tt);
      each = refl;
    }

pub listed-more : {X : Type 0} (number count : ℕ) (own : X → AtomValue) (before out after : List ℕ) (xs ys : List X)
    (x : X)
    → ys ≡ xs ++ x ∷ []
    → Listed number before out (array_head count ∷ map own xs) (map own xs)
    → after ≡ out ++ shortest (own x) → CanSpell (own x) → may_stand number (own x) ≡ true
    → Listed number before after (array_head count ∷ map own ys) (map own ys)
listed-more number count own before out after xs ys x e l a s m =
    let atoms : map own ys ≡ map own xs ++ own x ∷ [] = ap (map own) e ∙ map-append own xs (x ∷ []) in
    subst (λ z. Listed number before after (array_head count ∷ z) z) (sym atoms) (record {
      written = flat_map-more shortest before out after (array_head count ∷ map own xs) (own x) l.written a;
      spelled = each-more CanSpell (array_head count ∷ map own xs) (own x) l.spelled s;
      each = rw (list_all-append (may_stand number) (map own xs) (own x ∷ []), l.each, m) refl;
    })

-- a list whose elements may each stand in it is an array
pub listed-array : {X : Type 0} (number : ℕ) (own : X → AtomValue) (xs : List X)
    → list_all (may_stand number) (map own xs) ≡ true
    → IsArray number (array_head (length xs) ∷ map own xs)
listed-array number own xs e = (map own xs, ap (λ n. array_head n ∷ map own xs) (sym (length-map xs own)), e)

pub listed-all : {X : Type 0} (number count i : ℕ) (own : X → AtomValue) (before out : List ℕ) (xs : List X)
    → count ≡ length xs → length xs ≤ i
    → Listed number before out (array_head count ∷ map own (take i xs)) (map own (take i xs))
    → Listed number before out (array_head (length xs) ∷ map own xs) (map own xs)
listed-all number count i own before out xs e le l =
    subst (λ n. Listed number before out (array_head n ∷ map own xs) (map own xs)) e
    (subst (λ z. Listed number before out (array_head count ∷ map own z) (map own z)) (take_all i xs le) l)

-- an element of a list, taken with those before it
pub taken-more : {X : Type 0} (xs : List X) (i : ℕ) (x : X) → i < length xs → x ≡ get_or xs i x
    → take (i + 1) xs ≡ take i xs ++ x ∷ []
taken-more xs i x l e = take_more xs i x l ∙ ap (λ z. take i xs ++ z ∷ []) (sym e)

-- one atom that may stand for a single value of this type
pub own-single : (number : ℕ) (atom : AtomValue) → is_single number ≡ true → may_stand number atom ≡ true
    → IsWire number (atom ∷ [])
own-single number atom s e = single-wire_is number (atom ∷ []) s (atom, refl, e)

-- five pieces written one after another
pub five : (old p q r s after a b c d e : List ℕ) → p ≡ old ++ a → q ≡ p ++ b → r ≡ q ++ c → s ≡ r ++ d → after ≡ s ++ e
    → after ≡ old ++ (a ++ (b ++ (c ++ (d ++ e))))
five old p q r s after a b c d e pa qb rc sd ae = rw (ae, sd, rc, qb, pa) (simp append_assoc)

pub frames-more : (ms : List ValueMsg) (out after : List ℕ) (i : ℕ) (m : ValueMsg) → i < length ms → m ≡ get_or ms i m
    → out ≡ frame_of (take i ms) → after ≡ out ++ spelling_of m → after ≡ frame_of (take (i + 1) ms)
frames-more ms out after i m l e o a =
    flat_map-more spelling_of [] out after (take i ms) m o a ∙ ap frame_of (sym (taken-more ms i m l e))

pub spelled-more : (ms : List ValueMsg) (i : ℕ) (m : ValueMsg) → i < length ms → m ≡ get_or ms i m
    → AllByRecursion HasSpelling (take i ms) → HasSpelling m → AllByRecursion HasSpelling (take (i + 1) ms)
spelled-more ms i m l e h p =
    subst (λ z. AllByRecursion HasSpelling z) (sym (taken-more ms i m l e)) (each-more HasSpelling (take i ms) m h p)

-- all messages were written
pub read-back : (most i : ℕ) (ms : List ValueMsg) (bytes : List ℕ) → length ms ≤ i → bytes ≡ frame_of (take i ms)
    → AllByRecursion HasSpelling (take i ms) → AllByRecursion (IsInRange most) ms → IsFrame most ms bytes
read-back most i ms bytes l e h r =
    let all : take i ms ≡ ms = take_all i ms l in
    subst (λ z. IsFrame most ms z) (sym (e ∙ ap frame_of all))
    (frame-back most ms (subst (λ z. AllByRecursion HasSpelling z) all h) r)
