-- Reading one message from left to right, step by step, as the reader does.
-- That they stop and go on where the grammar says is shown in proofs/Messages.antt, and is what the
-- reader's contract rests on.
use Rattle.std.specs.Prelude.{◌≡◌, ℕ, zero, suc, ◌-◌, ◌^◌, pos, Bool, true, false, nat_lt, ◌==◌, List, [], ◌∷◌, drop, Result, Ok, Err, IsOkAnd, if◌then◌else◌}
use Rattle.nt_msgpack.specs.Atoms.{AtomValue, int, array_head}
use Rattle.nt_msgpack.specs.Reading.{Reading, got, short, bad, atom_at}
use Rattle.nt_frames.specs.declared.message.FrameKind.{FrameKind}
use Rattle.nt_frames.specs.declared.message.FrameKind.TheVariants as kinds
use Rattle.nt_frames.specs.declared.message.ValueMsg.{ValueMsg}
use Rattle.nt_frames.specs.declared.error.ReadError.{ReadError}
use Rattle.nt_frames.specs.declared.error.ReadError.TheVariants as errors
use Rattle.nt_values.specs.Types.{value_number}
use Rattle.nt_frames.specs.Frames.{is_i64, is_known, is_single, may_stand, atoms_of, Stand}

-- ---- steps, each of which gives something and what is left after it, or stops with a kind of fault

abbrev pub Step : Type 0 → Type 0
Step A = Result (A × List ℕ) FrameKind

infixl 10 ◌>>=◌
abbrev pub ◌>>=◌ : {A B : Type 0} → Result A FrameKind → (A → Result B FrameKind) → Result B FrameKind
(Ok x) >>= f = f x
(Err kind) >>= f = Err kind

-- an atom that meets the test
abbrev pub tested : FrameKind → (AtomValue → Bool) → List ℕ → Reading → Step AtomValue
tested kind test bytes (got atom used) = if test atom then Ok (atom, drop used bytes) else Err kind
tested kind test bytes short = Err kinds.Short
tested kind test bytes (bad first) = Err kind

-- the next atom, where it meets the test; the kind is for one that is bad or doesn't
unfoldable pub atom_if : FrameKind → (AtomValue → Bool) → List ℕ → Step AtomValue
atom_if kind test bytes = tested kind test bytes (atom_at bytes)

-- ---- the parts of a message

abbrev pub is_four : AtomValue → Bool
is_four (array_head n) = n == 4
is_four _ = false

abbrev pub is_id : AtomValue → Bool
is_id (int z) = is_i64 z
is_id _ = false

abbrev pub is_time : AtomValue → Bool
is_time (int (pos n)) = nat_lt n (2 ^ 63)
is_time _ = false

abbrev pub is_type : AtomValue → Bool
is_type (int (pos n)) = is_known n
is_type _ = false

abbrev pub is_array_head : AtomValue → Bool
is_array_head (array_head n) = true
is_array_head _ = false

-- the number in an atom
abbrev pub number_in : AtomValue → ℕ
number_in (int (pos n)) = n
number_in (array_head n) = n
number_in _ = 0

-- so many elements
unfoldable pub elements_at : ℕ → ℕ → List ℕ → Step (List AtomValue)
elements_at number zero bytes = Ok ([], bytes)
elements_at number (suc n) bytes = do
  first ← atom_if kinds.BadValue (may_stand number) bytes
  others ← elements_at number n first.1
  Ok (first.0 ∷ others.0, others.1)

unfoldable pub single_at : ℕ → List ℕ → Step (List AtomValue)
single_at number bytes = do
  atom ← atom_if kinds.BadValue (may_stand number) bytes
  Ok (atom.0 ∷ [], atom.1)

unfoldable pub array_at : ℕ → List ℕ → Step (List AtomValue)
array_at number bytes = do
  head ← atom_if kinds.BadValue is_array_head bytes
  elements ← elements_at number (number_in head.0) head.1
  Ok (head.0 ∷ elements.0, elements.1)

-- the atoms of a value
unfoldable pub wire_at : ℕ → List ℕ → Step (List AtomValue)
wire_at number bytes = if is_single number then single_at number bytes else array_at (number - 16) bytes

-- the atoms of a message
unfoldable pub message_at : List ℕ → Step (List AtomValue)
message_at bytes = do
  head ← atom_if kinds.NotArray4 is_four bytes
  id ← atom_if kinds.BadId is_id head.1
  time ← atom_if kinds.BadTime is_time id.1
  typ ← atom_if kinds.BadType is_type time.1
  wire ← wire_at (number_in typ.0) typ.1
  Ok (head.0 ∷ id.0 ∷ time.0 ∷ typ.0 ∷ wire.0, wire.1)

-- ---- functions of the code against steps

-- an error of the code is where a step stopped, or want of memory
abbrev pub Fails : {Y : Type 0} → ReadError → Result Y FrameKind → Type 0
Fails errors.Memory step = Unit {0}
Fails (errors.Fault kind) step = step ≡ Err kind

-- what a function of the code returned, seen by `view`, is what a step gives, unless memory ran out
abbrev pub Gives : {X Y : Type 0} → (X → Y) → Result X ReadError → Result Y FrameKind → Type 0
Gives view (Ok x) step = step ≡ Ok (view x)
Gives view (Err e) step = Fails e step

-- what a function of the code returned is, by this relation, what a step gives, unless memory ran out
abbrev pub Matches : {X Y : Type 0} → (X → Y → Type 0) → Result X ReadError → Result Y FrameKind → Type 0
Matches is (Ok x) step = IsOkAnd step (is x)
Matches is (Err e) step = Fails e step

-- of an error of the code, this holds of its kind of fault
abbrev pub IfFault : (FrameKind → Type 0) → ReadError → Type 0
IfFault is errors.Memory = Unit {0}
IfFault is (errors.Fault kind) = is kind

-- the atoms of a message stand for it
abbrev pub Tells : ValueMsg → List AtomValue → Type 0
Tells m atoms = (wire : List AtomValue) × (atoms ≡ atoms_of m.id m.time (value_number m.value) wire)
    × Stand m.value wire
