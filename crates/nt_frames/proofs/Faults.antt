-- A message and a fault, or two faults, don't begin the same bytes.
use Rattle.std.proofs.Common.{◌≡◌, ◌⊎◌, inl, inr, ℕ, ◌<◌, ◌≤◌, List, [], ◌∷◌, ◌++◌, length, refl, ap, sym, ◌∙◌, subst, append_assoc, append-nil, arith}
use Rattle.std.proofs.lemmas.List.{append_cancel_right}
use Rattle.nt_values.specs.Types.{value_number, size_of}
use Rattle.nt_msgpack.specs.Atoms.{AtomValue, Spells}
use Rattle.nt_msgpack.specs.Reading.{IsShort}
use Rattle.nt_msgpack.proofs.Spellings.{spelling-one, short-no_spelling, bad-no_spelling, atom_at-short, atom_at-bad}
use Rattle.nt_frames.specs.declared.message.ValueMsg.{ValueMsg}
use Rattle.nt_frames.specs.declared.message.FrameKind.{FrameKind}
use Rattle.nt_frames.specs.declared.message.FrameKind.TheVariants as kinds
use Rattle.nt_frames.specs.Frames.{AreSpelled, IsMessage, IsWhole, Takes, Stops, IsWrong, IsWrongOf, IsFault, Stand, kind_at, atoms_of}
use Rattle.nt_frames.proofs.Rows.{Overlaps, rows-meet}
use Rattle.nt_frames.proofs.Whole.{whole-once}
use Rattle.nt_frames.proofs.Values.{stand-one}

-- ---- two messages

pub record SameMessage (m n : ValueMsg) (x y r s : List ℕ) : Type 0 where
  pub message : m ≡ n
  pub spelling : x ≡ y
  pub rest : r ≡ s

message_whole : (m : ValueMsg) (x : List ℕ) (p : IsMessage m x)
    → IsWhole (atoms_of m.id m.time (value_number m.value) p.wire)
message_whole m x p = record {
  id = m.id;
  time = m.time;
  number = value_number m.value;
  wire = p.wire;
  lawful = p.lawful;
  whole = refl;
}

none_between : (more : List AtomValue) (between : List ℕ) → more ≡ [] → AreSpelled more between → between ≡ []
none_between more between e s = subst (λ z. AreSpelled z between) e s

-- two whole messages where one's atoms go on after the other's
same_message : (m n : ValueMsg) (x y r s : List ℕ) (p : IsMessage m x) (q : IsMessage n y) → x ++ r ≡ y ++ s
    → Overlaps (atoms_of m.id m.time (value_number m.value) p.wire)
    (atoms_of n.id n.time (value_number n.value) q.wire) r s
    → SameMessage m n x y r s
same_message m n x y r s p q e o =
    let ps = atoms_of m.id m.time (value_number m.value) p.wire in
    let qs = atoms_of n.id n.time (value_number n.value) q.wire in
    let none : o.more ≡ [] = whole-once (atoms_of m.id m.time (value_number m.value) p.wire) o.more
    (message_whole m x p) (subst IsWhole o.whole (message_whole n y q)) in
    let rest : r ≡ s = o.left ∙ ap (λ z. z ++ s) (none_between o.more o.between none o.spelled) in
    let same : atoms_of n.id n.time (value_number n.value) q.wire ≡ atoms_of m.id m.time (value_number m.value) p.wire =
    o.whole ∙ ap (λ z. atoms_of m.id m.time (value_number m.value) p.wire ++ z) none
    ∙ append-nil (atoms_of m.id m.time (value_number m.value) p.wire) in
    let id : m.id ≡ n.id = cc in
    let time : m.time ≡ n.time = cc in
    let number : value_number n.value ≡ value_number m.value = cc in
    let wire : q.wire ≡ p.wire = cc in
    let value : m.value ≡ n.value = stand-one m.value n.value p.wire number p.value
    (subst (λ w. Stand n.value w) wire q.value) in
    record {
      message = (ap (λ z. record { id = z; time = m.time; value = m.value }) id
          ∙ ap (λ z. record { id = n.id; time = z; value = m.value }) time
          ∙ ap (λ z. record { id = n.id; time = n.time; value = z }) value);
      spelling = append_cancel_right x y s (ap (λ z. x ++ z) (sym rest) ∙ e);
      rest = rest;
    }

pub messages-meet : (m n : ValueMsg) (x y r s : List ℕ) → IsMessage m x → IsMessage n y → x ++ r ≡ y ++ s
    → SameMessage m n x y r s
messages-meet m n x y r s p q e =
    elim (rows-meet (atoms_of m.id m.time (value_number m.value) p.wire)
    (atoms_of n.id n.time (value_number n.value) q.wire) x y r s p.spelled q.spelled e) [
      | inl o ↦ same_message m n x y r s p q e o
      | inr o ↦ (let back = same_message n m y x s r q p (sym e) o in
          record { message = sym back.message; spelling = sym back.spelling; rest = sym back.rest })
    ]

-- ---- where a message stops

-- what is left begins with an atom with which a message goes on
record GoesOn (atoms : List AtomValue) (left : List ℕ) : Type 0 where
  next : AtomValue
  prefix : List ℕ
  rest : List ℕ
  whole : left ≡ prefix ++ rest
  spells : Spells next prefix
  takes : Takes atoms next

-- nothing is read there
abbrev Blocks : List AtomValue → List ℕ → Type 0
Blocks atoms left = IsShort left ⊎ IsWrong atoms left

blocked : (atoms : List AtomValue) (left : List ℕ) → Blocks atoms left → GoesOn atoms left → ⊥
blocked atoms left (inl s) g = short-no_spelling left g.prefix g.rest g.next s g.whole g.spells
blocked atoms left (inr (inl b)) g = bad-no_spelling left [] g.prefix g.rest b.0 g.next b.1
    (append-nil left ∙ g.whole) g.spells
blocked atoms left (inr (inr w)) g =
    let one = spelling-one w.0 g.next w.1 g.prefix w.2 g.rest w.4 g.spells (sym w.3 ∙ g.whole) in
    w.5 (subst (λ a. Takes atoms a) (sym one.0) g.takes)

-- after these atoms the row goes on
goes_on : (ps qs : List AtomValue) (l m : List ℕ) (o : Overlaps ps qs l m) (next : AtomValue) (more : List AtomValue)
    → o.more ≡ next ∷ more
    → (after : List AtomValue) → IsWhole (qs ++ after) → GoesOn ps l
goes_on ps qs l m o next more e after whole =
    let spelled : AreSpelled (next ∷ more) o.between = subst (λ z. AreSpelled z o.between) e o.spelled in
    let atoms : qs ++ after ≡ ps ++ next ∷ (more ++ after) =
    ap (λ z. z ++ after) (o.whole ∙ ap (λ z. ps ++ z) e) ∙ append_assoc ps (next ∷ more) after in
    record {
      next = next;
      prefix = spelled.0;
      rest = spelled.1 ++ m;
      whole = o.left ∙ ap (λ z. z ++ m) spelled.2 ∙ append_assoc spelled.0 spelled.1 m;
      spells = spelled.3;
      takes = (more ++ after, subst IsWhole atoms whole);
    }

-- ---- two places at which messages stop

pub record SamePlace (ps qs : List AtomValue) (l m : List ℕ) : Type 0 where
  pub atoms : ps ≡ qs
  pub left : l ≡ m

same_place : (ps qs : List AtomValue) (l m : List ℕ) → Blocks ps l → (next : AtomValue) → Takes qs next
    → Overlaps ps qs l m → SamePlace ps qs l m
same_place ps qs l m b next takes o = by o.more refl
  where
    by : (more : List AtomValue) → o.more ≡ more → SamePlace ps qs l m
    by [] e = record {
      atoms = sym (o.whole ∙ ap (λ z. ps ++ z) e ∙ append-nil ps);
      left = o.left ∙ ap (λ z. z ++ m) (none_between o.more o.between e o.spelled);
    }
    by (a ∷ more) e = absurd (blocked ps l b (goes_on ps qs l m o a more e (next ∷ takes.0) takes.1))

stops-meet : (bytes : List ℕ) (ps qs : List AtomValue) (l m : List ℕ) → Stops bytes ps l → Blocks ps l
    → Stops bytes qs m → Blocks qs m
    → SamePlace ps qs l m
stops-meet bytes ps qs l m s b t c =
    elim (rows-meet ps qs s.prefix t.prefix l m s.spelled t.spelled (sym s.whole ∙ t.whole)) [
      | inl o ↦ same_place ps qs l m b t.next t.goes_on o
      | inr o ↦ (let back = same_place qs ps m l c s.next s.goes_on o in
          record { atoms = sym back.atoms; left = sym back.left })
    ]

-- where a message stops, none is whole
stops-no_whole : (bytes : List ℕ) (ps qs : List AtomValue) (l y r : List ℕ) → Stops bytes ps l → Blocks ps l
    → AreSpelled qs y → IsWhole qs → bytes ≡ y ++ r → ⊥
stops-no_whole bytes ps qs l y r s b spelled whole e =
    elim (rows-meet ps qs s.prefix y l r s.spelled spelled (sym s.whole ∙ e))
    [ inl o ↦ longer o o.more refl | inr o ↦ shorter o ]
  where
    -- the stop's atoms would be a whole message, and it goes on
    shorter : Overlaps qs ps r l → ⊥
    shorter o =
        let atoms : ps ++ s.next ∷ s.goes_on.0 ≡ qs ++ (o.more ++ s.next ∷ s.goes_on.0) =
        ap (λ z. z ++ s.next ∷ s.goes_on.0) o.whole ∙ append_assoc qs o.more (s.next ∷ s.goes_on.0) in
        let none = whole-once qs (o.more ++ s.next ∷ s.goes_on.0) whole (subst IsWhole atoms s.goes_on.1) in
        some o.more none
      where
        some : (more : List AtomValue) → more ++ s.next ∷ s.goes_on.0 ≡ [] → ⊥
        some [] e = absurd (cc e)
        some (a ∷ more) e = absurd (cc e)

    longer : (o : Overlaps ps qs l r) (more : List AtomValue) → o.more ≡ more → ⊥
    longer o [] e =
        let same : qs ≡ ps = o.whole ∙ ap (λ z. ps ++ z) e ∙ append-nil ps in
        let none = whole-once ps (s.next ∷ s.goes_on.0) (subst IsWhole same whole) s.goes_on.1 in absurd (cc none)
    longer o (a ∷ more) e = blocked ps l b (goes_on ps qs l r o a more e [] (subst IsWhole (sym (append-nil qs)) whole))

-- ---- two faults

-- a fault by what it stands on
abbrev Cause : ℕ → List ℕ → FrameKind → Type 0
Cause most bytes k =
    ((k ≡ kinds.Short) × (atoms : List AtomValue) × (left : List ℕ) × Stops bytes atoms left × IsShort left)
    ⊎ ((IsWrongOf k bytes)
    ⊎ ((k ≡ kinds.TooLarge) × (m : ValueMsg) × (prefix : List ℕ) × (rest : List ℕ) × (bytes ≡ prefix ++ rest)
    × IsMessage m prefix × (most < size_of m.value)))

cause : (most : ℕ) (bytes : List ℕ) (k : FrameKind) → IsFault most bytes k → Cause most bytes k
cause most bytes kinds.Short f = inl (refl, f.0, f.1, f.2, f.3)
cause most bytes kinds.NotArray4 f = inr (inl f)
cause most bytes kinds.BadId f = inr (inl f)
cause most bytes kinds.BadTime f = inr (inl f)
cause most bytes kinds.BadType f = inr (inl f)
cause most bytes kinds.BadValue f = inr (inl f)
cause most bytes kinds.TooLarge f = inr (inr (refl, f.0, f.1, f.2, f.3, f.4, f.5))

-- too few bytes aren't a wrong atom
short-not_wrong : (atoms : List AtomValue) (left : List ℕ) → IsShort left → IsWrong atoms left → ⊥
short-not_wrong atoms left s (inl b) =
    let short = atom_at-short left s in let bad = atom_at-bad left b.0 b.1 in absurd (cc (short, bad))
short-not_wrong atoms left s (inr w) = short-no_spelling left w.1 w.2 w.0 s w.3 w.4

short-and-wrong : (bytes : List ℕ) (k : FrameKind) (ps : List AtomValue) (l : List ℕ) → Stops bytes ps l → IsShort l
    → IsWrongOf k bytes → ⊥
short-and-wrong bytes k ps l s short w =
    let place = stops-meet bytes ps w.0 l w.1 s (inl short) w.2 (inr w.4) in
    short-not_wrong w.0 w.1 (subst IsShort place.left short) w.4

wrong-and-wrong : (bytes : List ℕ) (k j : FrameKind) → IsWrongOf k bytes → IsWrongOf j bytes → k ≡ j
wrong-and-wrong bytes k j w v =
    let place = stops-meet bytes w.0 v.0 w.1 v.1 w.2 (inr w.4) v.2 (inr v.4) in
    w.3 ∙ ap (λ ps. kind_at (length ps)) place.atoms ∙ sym v.3

stops-no_message : (bytes : List ℕ) (ps : List AtomValue) (l y r : List ℕ) (m : ValueMsg) → Stops bytes ps l
    → Blocks ps l
    → IsMessage m y → bytes ≡ y ++ r → ⊥
stops-no_message bytes ps l y r m s b p e =
    stops-no_whole bytes ps (atoms_of m.id m.time (value_number m.value) p.wire) l y r s b p.spelled
    (message_whole m y p) e

causes-meet : (most : ℕ) (bytes : List ℕ) (k j : FrameKind) → Cause most bytes k → Cause most bytes j → k ≡ j
causes-meet most bytes k j (inl a) (inl b) = a.0 ∙ sym b.0
causes-meet most bytes k j (inl a) (inr (inl b)) = absurd (short-and-wrong bytes j a.1 a.2 a.3 a.4 b)
causes-meet most bytes k j (inl a) (inr (inr b)) = absurd
    (stops-no_message bytes a.1 a.2 b.2 b.3 b.1 a.3 (inl a.4) b.5 b.4)
causes-meet most bytes k j (inr (inl a)) (inl b) = absurd (short-and-wrong bytes k b.1 b.2 b.3 b.4 a)
causes-meet most bytes k j (inr (inl a)) (inr (inl b)) = wrong-and-wrong bytes k j a b
causes-meet most bytes k j (inr (inl a)) (inr (inr b)) = absurd
    (stops-no_message bytes a.0 a.1 b.2 b.3 b.1 a.2 (inr a.4) b.5 b.4)
causes-meet most bytes k j (inr (inr a)) (inl b) = absurd
    (stops-no_message bytes b.1 b.2 a.2 a.3 a.1 b.3 (inl b.4) a.5 a.4)
causes-meet most bytes k j (inr (inr a)) (inr (inl b)) = absurd
    (stops-no_message bytes b.0 b.1 a.2 a.3 a.1 b.2 (inr b.4) a.5 a.4)
causes-meet most bytes k j (inr (inr a)) (inr (inr b)) = a.0 ∙ sym b.0

-- bytes begin with a message of one kind of fault at most
pub faults-meet : (most : ℕ) (bytes : List ℕ) (k j : FrameKind) → IsFault most bytes k → IsFault most bytes j → k ≡ j
faults-meet most bytes k j f g = causes-meet most bytes k j (cause most bytes k f) (cause most bytes j g)

-- a message that is small enough isn't at fault
pub fault-no_message : (most : ℕ) (bytes : List ℕ) (k : FrameKind) (m : ValueMsg) (x r : List ℕ) → IsFault most bytes k
    → bytes ≡ x ++ r → IsMessage m x → size_of m.value ≤ most → ⊥
fault-no_message most bytes k m x r f e p small = by (cause most bytes k f)
  where
    by : Cause most bytes k → ⊥
    by (inl a) = stops-no_message bytes a.1 a.2 x r m a.3 (inl a.4) p e
    by (inr (inl a)) = stops-no_message bytes a.0 a.1 x r m a.2 (inr a.4) p e
    by (inr (inr a)) =
        let same = messages-meet m a.1 x a.2 r a.3 p a.5 (sym e ∙ a.4) in
        let size : size_of m.value ≡ size_of a.1.value = ap (λ z. size_of z.value) same.message in
        let large = a.6 in absurd (omega (arith, size, large, small))
