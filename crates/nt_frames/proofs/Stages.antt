-- What the steps of reading a message mean: the atoms that were read are spelled at the start of the bytes, and where
-- reading stops the message is at fault.
use Rattle.std.proofs.Common.{◌≡◌, ◌⊎◌, inl, inr, ℕ, zero, suc, ◌<◌, Bool, true, false, List, [], ◌∷◌, ◌++◌, length, take, drop, Result, Ok, Err, refl, ap, sym, ◌∙◌, subst, append_assoc, if◌then◌else◌, arith}
use Rattle.std.specs.List.{list_all}
use Rattle.std.proofs.lemmas.List.{take-append-drop}
use Rattle.nt_msgpack.specs.Atoms.{AtomValue, Spells}
use Rattle.nt_msgpack.specs.Reading.{Reading, got, short, bad, IsShort, IsBad, atom_at}
use Rattle.nt_msgpack.proofs.Spellings.{atom_at-got, atom_at-is_short, atom_at-is_bad}
use Rattle.nt_frames.specs.declared.message.FrameKind.{FrameKind}
use Rattle.nt_frames.specs.declared.message.FrameKind.TheVariants as kinds
use Rattle.nt_frames.specs.Frames.{AreSpelled, Takes, IsWrong, IsWrongOf, IsFault, kind_at, may_stand}
use Rattle.nt_frames.specs.Reading.{Step, ◌>>=◌, tested, atom_if, elements_at}
use Rattle.nt_frames.proofs.Rows.{spelled-one, spelled-append}

-- ---- steps one after another

pub bind-ok : {A B : Type 0} (step : Result A FrameKind) (next : A → Result B FrameKind) (z : B)
    → (step >>= next) ≡ Ok z
    → (y : A) × (step ≡ Ok y) × (next y ≡ Ok z)
bind-ok (Ok y) next z e = (y, refl, e)
bind-ok (Err kind) next z e = cc

pub bind-err : {A B : Type 0} (step : Result A FrameKind) (next : A → Result B FrameKind) (k : FrameKind)
    → (step >>= next) ≡ Err k
    → (step ≡ Err k) ⊎ ((y : A) × (step ≡ Ok y) × (next y ≡ Err k))
bind-err (Ok y) next k e = inr (y, refl, e)
bind-err (Err kind) next k e = let same : kind ≡ k = cc in inl (ap (λ z. Err z) same)

-- ---- one atom

-- these atoms are spelled at the start of the bytes, and this is left after them
pub record Prefix (bytes : List ℕ) (atoms : List AtomValue) (left : List ℕ) : Type 0 where
  pub prefix : List ℕ
  pub whole : bytes ≡ prefix ++ left
  pub spelled : AreSpelled atoms prefix

pub prefix-none : (bytes : List ℕ) → Prefix bytes [] bytes
prefix-none bytes = record { prefix = []; whole = refl; spelled = refl }

pub prefix-more : (bytes : List ℕ) (atoms more : List AtomValue) (left rest : List ℕ) → Prefix bytes atoms left
    → Prefix left more rest
    → Prefix bytes (atoms ++ more) rest
prefix-more bytes atoms more left rest f g = record {
  prefix = f.prefix ++ g.prefix;
  whole = f.whole ∙ ap (λ z. f.prefix ++ z) g.whole ∙ sym (append_assoc f.prefix g.prefix rest);
  spelled = spelled-append atoms more f.prefix g.prefix f.spelled g.spelled;
}

-- the atom that a step took
pub record Took (test : AtomValue → Bool) (bytes : List ℕ) (y : AtomValue × List ℕ) : Type 0 where
  pub prefix : Prefix bytes (y.0 ∷ []) y.1
  pub test_is : test y.0 ≡ true

take_drop : (n : ℕ) (xs : List ℕ) → xs ≡ take n xs ++ drop n xs
take_drop n xs = sym (take-append-drop n xs)

-- what a step gives for an atom by its test
abbrev answer : Bool → AtomValue → List ℕ → FrameKind → Step AtomValue
answer b atom rest kind = if b then Ok (atom, rest) else Err kind

tested-ok : (kind : FrameKind) (test : AtomValue → Bool) (bytes : List ℕ) (r : Reading) (y : AtomValue × List ℕ)
    → atom_at bytes ≡ r → tested kind test bytes r ≡ Ok y → Took test bytes y
tested-ok kind test bytes (got atom used) y e h = by (test atom) refl h
  where
    by : (b : Bool) → test atom ≡ b → answer b atom (drop used bytes) kind ≡ Ok y → Took test bytes y
    by true t h =
        let is : (atom, drop used bytes) ≡ y = cc in
        let spells = ((atom_at-got bytes atom used).0 e).2 in
        subst (λ z. Took test bytes z) is (record {
          prefix = record {
            prefix = take used bytes;
            whole = take_drop used bytes;
            spelled = spelled-one atom (take used bytes) spells;
          };
          test_is = t;
        })
    by false t h = cc
tested-ok kind test bytes short y e h = cc
tested-ok kind test bytes (bad first) y e h = cc

pub atom_if-ok : (kind : FrameKind) (test : AtomValue → Bool) (bytes : List ℕ) (y : AtomValue × List ℕ)
    → atom_if kind test bytes ≡ Ok y → Took test bytes y
unfolding atom_if
atom_if-ok kind test bytes y h = tested-ok kind test bytes (atom_at bytes) y refl h

-- an atom that fails the test begins these bytes
pub record Fails (test : AtomValue → Bool) (bytes : List ℕ) : Type 0 where
  pub atom : AtomValue
  pub prefix : List ℕ
  pub rest : List ℕ
  pub whole : bytes ≡ prefix ++ rest
  pub spells : Spells atom prefix
  pub test_is : test atom ≡ false

-- why a step stopped with this kind
abbrev pub Stopped : FrameKind → (AtomValue → Bool) → List ℕ → FrameKind → Type 0
Stopped kind test bytes k = ((k ≡ kinds.Short) × IsShort bytes)
    ⊎ ((k ≡ kind) × (((first : ℕ) × IsBad bytes first) ⊎ Fails test bytes))

tested-err : (kind : FrameKind) (test : AtomValue → Bool) (bytes : List ℕ) (r : Reading) (k : FrameKind)
    → atom_at bytes ≡ r → tested kind test bytes r ≡ Err k → Stopped kind test bytes k
tested-err kind test bytes (got atom used) k e h = by (test atom) refl h
  where
    by : (b : Bool) → test atom ≡ b → answer b atom (drop used bytes) kind ≡ Err k → Stopped kind test bytes k
    by true t h = cc
    by false t h =
        let is : k ≡ kind = cc in
        let spells = ((atom_at-got bytes atom used).0 e).2 in
        inr (
          is,
          inr (record {
            atom = atom;
            prefix = take used bytes;
            rest = drop used bytes;
            whole = take_drop used bytes;
            spells = spells;
            test_is = t;
          }),
        )
tested-err kind test bytes short k e h = let is : k ≡ kinds.Short = cc in inl (is, (atom_at-is_short bytes).0 e)
tested-err kind test bytes (bad first) k e h = let is : k ≡ kind = cc in
    inr (is, inl (first, (atom_at-is_bad bytes first).0 e))

pub atom_if-err : (kind : FrameKind) (test : AtomValue → Bool) (bytes : List ℕ) (k : FrameKind)
    → atom_if kind test bytes ≡ Err k → Stopped kind test bytes k
unfolding atom_if
atom_if-err kind test bytes k h = tested-err kind test bytes (atom_at bytes) k refl h

-- ---- where a message stops

wrong-fault : (most n : ℕ) (bytes : List ℕ) → IsWrongOf (kind_at n) bytes → IsFault most bytes (kind_at n)
wrong-fault most zero bytes w = w
wrong-fault most (suc zero) bytes w = w
wrong-fault most (suc (suc zero)) bytes w = w
wrong-fault most (suc (suc (suc zero))) bytes w = w
wrong-fault most (suc (suc (suc (suc n)))) bytes w = w

-- after these atoms a message goes on, only with atoms that meet the test, and the step there stopped
pub stopped-fault : (most : ℕ) (bytes : List ℕ) (atoms : List AtomValue) (left : List ℕ) (test : AtomValue → Bool)
    (k : FrameKind)
    → Prefix bytes atoms left → (good : AtomValue) → Takes atoms good
    → ((a : AtomValue) → test a ≡ false → ¬ (Takes atoms a))
    → Stopped (kind_at (length atoms)) test left k → IsFault most bytes k
stopped-fault most bytes atoms left test k f good takes refuses (inl s) =
    subst (λ z. IsFault most bytes z) (sym s.0)
    (atoms, left, record { prefix = f.prefix; whole = f.whole; spelled = f.spelled; next = good; goes_on = takes }, s.1)
stopped-fault most bytes atoms left test k f good takes refuses (inr s) =
    subst (λ z. IsFault most bytes z) (sym s.0) (wrong-fault most (length atoms) bytes (
      atoms,
      left,
      record { prefix = f.prefix; whole = f.whole; spelled = f.spelled; next = good; goes_on = takes },
      refl,
      wrong s.1,
    ))
  where
    wrong : ((first : ℕ) × IsBad left first) ⊎ (Fails test left) → IsWrong atoms left
    wrong (inl b) = inl b
    wrong (inr w) = inr (w.atom, w.prefix, w.rest, w.whole, w.spells, refuses w.atom w.test_is)

-- ---- elements

-- an atom before others
abbrev pub ok : AtomValue → List AtomValue × List ℕ → Step (List AtomValue)
ok first others = Ok (first ∷ others.0, others.1)

-- elements that were read
pub record Elements (number n : ℕ) (bytes : List ℕ) (y : List AtomValue × List ℕ) : Type 0 where
  pub prefix : Prefix bytes y.0 y.1
  pub count : length y.0 ≡ n
  pub each : list_all (may_stand number) y.0 ≡ true

pub elements_at-ok : (number n : ℕ) (bytes : List ℕ) (y : List AtomValue × List ℕ) → elements_at number n bytes ≡ Ok y
    → Elements number n bytes y
unfolding elements_at
elements_at-ok number zero bytes y h =
    let is : ([], bytes) ≡ y = cc in
    subst (λ z. Elements number 0 bytes z) is (record { prefix = prefix-none bytes; count = refl; each = refl })
elements_at-ok number (suc n) bytes y h =
    let one = bind-ok (atom_if kinds.BadValue (may_stand number) bytes) _ y h in
    let took = atom_if-ok kinds.BadValue (may_stand number) bytes one.0 one.1 in
    let others = bind-ok (elements_at number n one.0.1) _ y one.2 in
    let rest = elements_at-ok number n one.0.1 others.0 others.1 in
    let is : (one.0.0 ∷ others.0.0, others.0.1) ≡ y = cc in
    subst (λ z. Elements number (suc n) bytes z) is (record {
      prefix = prefix-more bytes (one.0.0 ∷ []) others.0.0 one.0.1 others.0.1 took.prefix rest.prefix;
      count = ap suc rest.count;
      each = rw took.test_is rest.each;
    })

-- an element at which reading stopped, and those before it
pub record StoppedElement (number n : ℕ) (bytes : List ℕ) (k : FrameKind) : Type 0 where
  pub before : List AtomValue
  pub left : List ℕ
  pub prefix : Prefix bytes before left
  pub some_left : length before < n
  pub each : list_all (may_stand number) before ≡ true
  pub stopped : Stopped kinds.BadValue (may_stand number) left k

later_element : (number n : ℕ) (bytes : List ℕ) (k : FrameKind) (one : AtomValue × List ℕ)
    → Took (may_stand number) bytes one
    → StoppedElement number n one.1 k → StoppedElement number (suc n) bytes k
later_element number n bytes k one took rest = record {
  before = one.0 ∷ rest.before;
  left = rest.left;
  prefix = prefix-more bytes (one.0 ∷ []) rest.before one.1 rest.left took.prefix rest.prefix;
  some_left = omega (arith, rest.some_left);
  each = rw took.test_is rest.each;
  stopped = rest.stopped;
}

pub elements_at-err : (number n : ℕ) (bytes : List ℕ) (k : FrameKind) → elements_at number n bytes ≡ Err k
    → StoppedElement number n bytes k
unfolding elements_at
elements_at-err number zero bytes k h = cc
elements_at-err number (suc n) bytes k h =
    by (λ rest. elements_at-err number n rest k)
    (bind-err (atom_if kinds.BadValue (may_stand number) bytes)
    (λ first. elements_at number n first.1 >>= λ others. ok first.0 others) k h)
  where
    later : ((rest : List ℕ) → elements_at number n rest ≡ Err k → StoppedElement number n rest k)
        → (one : AtomValue × List ℕ) → Took (may_stand number) bytes one
        → (elements_at number n one.1 ≡ Err k) ⊎ ((y : List AtomValue × List ℕ) × (elements_at number n one.1 ≡ Ok y)
        × (ok one.0 y ≡ Err k))
        → StoppedElement number (suc n) bytes k
    later again one took (inl e) = later_element number n bytes k one took (again one.1 e)
    later again one took (inr o) = let e = o.2 in cc

    by : ((rest : List ℕ) → elements_at number n rest ≡ Err k → StoppedElement number n rest k)
        → (atom_if kinds.BadValue (may_stand number) bytes ≡ Err k)
        ⊎ ((one : AtomValue × List ℕ) × (atom_if kinds.BadValue (may_stand number) bytes ≡ Ok one)
        × ((elements_at number n one.1 >>= λ others. ok one.0 others) ≡ Err k))
        → StoppedElement number (suc n) bytes k
    by again (inl e) = record {
      before = [];
      left = bytes;
      prefix = prefix-none bytes;
      some_left = omega arith;
      each = refl;
      stopped = atom_if-err kinds.BadValue (may_stand number) bytes k e;
    }
    by again (inr o) = later again o.0 (atom_if-ok kinds.BadValue (may_stand number) bytes o.0 o.1)
        (bind-err (elements_at number n o.0.1) (λ others. ok o.0.0 others) k o.2)
