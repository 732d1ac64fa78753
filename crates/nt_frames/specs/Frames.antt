-- Value frames (NetworkTables 4.1, binary frames): how messages are spelled by MessagePack atoms, and
-- what bytes mean as a frame: its messages, and its fault. A byte is a number.
use Rattle.std.specs.Prelude.{◌≡◌, ◌≢◌, ◌⊎◌, ℕ, zero, suc, ◌-◌, ◌^◌, ◌<◌, ◌≤◌, ℤ, pos, negsuc, Bool, true, false, nat_lt, nat_le, ◌==◌, ◌&&◌, ◌||◌, MatchBool, List, [], ◌∷◌, ◌++◌, length, map, Option, None, Some, if◌then◌else◌}
use Rattle.std.specs.List.{AllZip, AllByRecursion, list_all, flat_map}
use Rattle.nt_values.specs.declared.value.Value.{Value}
use Rattle.nt_values.specs.declared.value.Value.TheVariants as values
use Rattle.nt_values.specs.Types.{value_number, size_of}
use Rattle.nt_values.specs.Bits.{float_format, double_format, IsNearestToInt, IsDoubleOfFloat, IsFloatOfDouble}
use Rattle.nt_msgpack.specs.Atoms.{AtomValue, int, boolean, float32, float64, text, binary, array_head, Spells, shortest, Fits, IsTyped}
use Rattle.nt_msgpack.specs.Reading.{IsShort, IsBad}
use Rattle.nt_frames.specs.declared.message.ValueMsg.{ValueMsg}
use Rattle.nt_frames.specs.declared.message.FrameKind.{FrameKind}
use Rattle.nt_frames.specs.declared.message.FrameKind.TheVariants as kinds
use Rattle.nt_frames.specs.declared.message.FrameFault.{FrameFault}

-- ---- "Supported Data Types": which atoms stand for a value

-- a whole number of 64 bits with a sign
abbrev pub is_i64 : ℤ → Bool
is_i64 (pos n) = nat_lt n (2 ^ 63)
is_i64 (negsuc n) = nat_lt n (2 ^ 63)

-- the atoms by which a single value goes: a double and a float go by either width and by a whole
-- number, each other value by its own form
abbrev pub is_boolean : AtomValue → Bool
is_boolean (boolean b) = true
is_boolean _ = false

abbrev pub is_numeric : AtomValue → Bool
is_numeric (float64 bits) = true
is_numeric (float32 bits) = true
is_numeric (int z) = true
is_numeric _ = false

abbrev pub is_integer : AtomValue → Bool
is_integer (int z) = is_i64 z
is_integer _ = false

abbrev pub is_text : AtomValue → Bool
is_text (text bytes) = true
is_text _ = false

abbrev pub is_binary : AtomValue → Bool
is_binary (binary bytes) = true
is_binary _ = false

-- whether an atom may stand for a single value of this data type number
abbrev pub may_stand : ℕ → AtomValue → Bool
may_stand number atom =
    if number == 0 then is_boolean atom  -- boolean
    else if number == 1 then is_numeric atom  -- double
    else if number == 2 then is_integer atom  -- int
    else if number == 3 then is_numeric atom  -- float
    else if number == 4 then is_text atom  -- string, json
    else if number == 5 then is_binary atom  -- raw and the rest
    else false

-- an array's number is 16 more than that of its elements
abbrev pub is_single : ℕ → Bool
is_single number = nat_lt number 6

abbrev pub is_known : ℕ → Bool
is_known number = is_single number || (nat_le 16 number && nat_lt number 21)

-- one atom that may stand for a value of this type
abbrev pub IsSingle : ℕ → List AtomValue → Type 0
IsSingle number atoms = (atom : AtomValue) × (atoms ≡ atom ∷ []) × (may_stand number atom ≡ true)

-- the head of an array, and as many atoms that may stand for values of this type
abbrev pub IsArray : ℕ → List AtomValue → Type 0
IsArray number atoms = (elements : List AtomValue) × (atoms ≡ array_head (length elements) ∷ elements)
    × (list_all (may_stand number) elements ≡ true)

-- the atoms that may stand for a value of this type
abbrev pub IsWire : ℕ → List AtomValue → Type 0
IsWire number atoms = MatchBool (is_single number) (IsSingle number atoms) (IsArray (number - 16) atoms)

-- ---- the value that atoms stand for

abbrev pub IsBool : Bool → AtomValue → Type 0
IsBool truth atom = atom ≡ boolean truth

-- a double as it is, or of the same value as a float, or nearest to a whole number
abbrev pub IsDouble : ℕ → AtomValue → Type 0
IsDouble double (float64 bits) = double ≡ bits
IsDouble double (float32 bits) = IsDoubleOfFloat bits double
IsDouble double (int z) = IsNearestToInt double_format z double
IsDouble double _ = ⊥

abbrev pub IsInt : ℤ → AtomValue → Type 0
IsInt number atom = atom ≡ int number

-- a float as it is, or nearest to a double or a whole number
abbrev pub IsFloat : ℕ → AtomValue → Type 0
IsFloat float (float64 bits) = IsFloatOfDouble bits float
IsFloat float (float32 bits) = float ≡ bits
IsFloat float (int z) = IsNearestToInt float_format z float
IsFloat float _ = ⊥

abbrev pub IsText : List ℕ → AtomValue → Type 0
IsText bytes atom = atom ≡ text bytes

abbrev pub IsBinary : List ℕ → AtomValue → Type 0
IsBinary bytes atom = atom ≡ binary bytes

-- one atom stands for this value
abbrev pub One : {X : Type 0} → (X → AtomValue → Type 0) → X → List AtomValue → Type 0
One is value atoms = (atom : AtomValue) × (atoms ≡ atom ∷ []) × is value atom

-- an array stands for these values, element by element
abbrev pub Each : {X : Type 0} → (X → AtomValue → Type 0) → List X → List AtomValue → Type 0
Each is list atoms = (elements : List AtomValue) × (atoms ≡ array_head (length elements) ∷ elements)
    × AllZip is list elements

-- these atoms stand for this value
abbrev pub Stand : Value → List AtomValue → Type 0
Stand (values.Bool truth) atoms = One IsBool truth atoms
Stand (values.Double bits) atoms = One IsDouble bits atoms
Stand (values.Int number) atoms = One IsInt number atoms
Stand (values.Float bits) atoms = One IsFloat bits atoms
Stand (values.Text bytes) atoms = One IsText bytes atoms
Stand (values.Bytes bytes) atoms = One IsBinary bytes atoms
Stand (values.Bools list) atoms = Each IsBool list atoms
Stand (values.Doubles list) atoms = Each IsDouble list atoms
Stand (values.Ints list) atoms = Each IsInt list atoms
Stand (values.Floats list) atoms = Each IsFloat list atoms
Stand (values.Texts list) atoms = Each IsText list atoms

-- ---- messages

-- a message by its atoms: the head of an array of four, the id, the timestamp, the data type number and
-- the value
abbrev pub atoms_of : ℤ → ℕ → ℕ → List AtomValue → List AtomValue
atoms_of id time number wire = array_head 4 ∷ int id ∷ int (pos time) ∷ int (pos number) ∷ wire

-- an id of 64 bits with a sign, a timestamp of 63 bits, the number of a data type, and atoms that may
-- stand for its value
pub record IsLawful (id : ℤ) (time number : ℕ) (wire : List AtomValue) : Type 0 where
  pub id_is : is_i64 id ≡ true
  pub time_is : nat_lt time (2 ^ 63) ≡ true
  pub number_is : is_known number ≡ true
  pub wire_is : IsWire number wire

-- spellings of these atoms in a row
abbrev pub AreSpelled : List AtomValue → List ℕ → Type 0
AreSpelled [] bytes = bytes ≡ []
AreSpelled (atom ∷ atoms) bytes = (prefix : List ℕ) × (rest : List ℕ) × (bytes ≡ prefix ++ rest)
    × Spells atom prefix × AreSpelled atoms rest

-- the bytes spell this message
pub record IsMessage (m : ValueMsg) (bytes : List ℕ) : Type 0 where
  pub wire : List AtomValue
  pub lawful : IsLawful m.id m.time (value_number m.value) wire
  pub value : Stand m.value wire
  pub spelled : AreSpelled (atoms_of m.id m.time (value_number m.value) wire) bytes

-- spellings of these messages in a row, each of at most this size
abbrev pub IsFrame : ℕ → List ValueMsg → List ℕ → Type 0
IsFrame most [] bytes = bytes ≡ []
IsFrame most (m ∷ ms) bytes = (prefix : List ℕ) × (rest : List ℕ) × (bytes ≡ prefix ++ rest)
    × IsMessage m prefix × (size_of m.value ≤ most) × IsFrame most ms rest

-- ---- faults

-- all atoms of a message
pub record IsWhole (atoms : List AtomValue) : Type 0 where
  pub id : ℤ
  pub time : ℕ
  pub number : ℕ
  pub wire : List AtomValue
  pub lawful : IsLawful id time number wire
  pub whole : atoms ≡ atoms_of id time number wire

-- a message begins with these atoms, and goes on with this one
abbrev pub Takes : List AtomValue → AtomValue → Type 0
Takes atoms next = (more : List AtomValue) × IsWhole (atoms ++ next ∷ more)

-- the bytes begin with spellings of these atoms, a message begins with them and goes on, and this is what
-- is left
pub record Stops (bytes : List ℕ) (atoms : List AtomValue) (left : List ℕ) : Type 0 where
  pub prefix : List ℕ
  pub whole : bytes ≡ prefix ++ left
  pub spelled : AreSpelled atoms prefix
  pub next : AtomValue
  pub goes_on : Takes atoms next

-- no atom begins these bytes however they go on, or one does with which no message goes on after these
-- atoms
abbrev pub IsWrong : List AtomValue → List ℕ → Type 0
IsWrong atoms left = ((first : ℕ) × IsBad left first)
    ⊎ ((next : AtomValue) × (prefix : List ℕ) × (rest : List ℕ) × (left ≡ prefix ++ rest)
    × Spells next prefix × ¬ (Takes atoms next))

-- the kind of a wrong atom, by how many atoms of the message stand before it
abbrev pub kind_at : ℕ → FrameKind
kind_at zero = kinds.NotArray4
kind_at (suc zero) = kinds.BadId
kind_at (suc (suc zero)) = kinds.BadTime
kind_at (suc (suc (suc zero))) = kinds.BadType
kind_at _ = kinds.BadValue

-- an atom is wrong, and this is its kind
abbrev pub IsWrongOf : FrameKind → List ℕ → Type 0
IsWrongOf kind bytes = (atoms : List AtomValue) × (left : List ℕ) × Stops bytes atoms left
    × (kind ≡ kind_at (length atoms)) × IsWrong atoms left

-- what is wrong with the message that these bytes begin
abbrev pub IsFault : ℕ → List ℕ → FrameKind → Type 0
IsFault most bytes kinds.Short = (atoms : List AtomValue) × (left : List ℕ) × Stops bytes atoms left
    × IsShort left
IsFault most bytes kinds.TooLarge = (m : ValueMsg) × (prefix : List ℕ) × (rest : List ℕ)
    × (bytes ≡ prefix ++ rest) × IsMessage m prefix × (most < size_of m.value)
IsFault most bytes kinds.NotArray4 = IsWrongOf kinds.NotArray4 bytes
IsFault most bytes kinds.BadId = IsWrongOf kinds.BadId bytes
IsFault most bytes kinds.BadTime = IsWrongOf kinds.BadTime bytes
IsFault most bytes kinds.BadType = IsWrongOf kinds.BadType bytes
IsFault most bytes kinds.BadValue = IsWrongOf kinds.BadValue bytes

-- what bytes mean as a frame whose values have at most this size: these messages, and then this fault or
-- none. A fault stands at the first byte of its message
abbrev pub Means : ℕ → List ℕ → List ValueMsg → Option FrameFault → Type 0
Means most bytes ms None = IsFrame most ms bytes
Means most bytes ms (Some fault) = (prefix : List ℕ) × (rest : List ℕ) × (bytes ≡ prefix ++ rest)
    × IsFrame most ms prefix × (fault.at ≡ length prefix) × (rest ≢ []) × IsFault most rest fault.kind

-- ---- what is written

-- the atoms that are written for a value, each in its own form
abbrev pub wire_of : Value → List AtomValue
wire_of (values.Bool truth) = boolean truth ∷ []
wire_of (values.Double bits) = float64 bits ∷ []
wire_of (values.Int number) = int number ∷ []
wire_of (values.Float bits) = float32 bits ∷ []
wire_of (values.Text bytes) = text bytes ∷ []
wire_of (values.Bytes bytes) = binary bytes ∷ []
wire_of (values.Bools list) = array_head (length list) ∷ map boolean list
wire_of (values.Doubles list) = array_head (length list) ∷ map float64 list
wire_of (values.Ints list) = array_head (length list) ∷ map int list
wire_of (values.Floats list) = array_head (length list) ∷ map float32 list
wire_of (values.Texts list) = array_head (length list) ∷ map text list

-- a message in its shortest spelling
abbrev pub spelling_of : ValueMsg → List ℕ
spelling_of m = flat_map shortest (atoms_of m.id m.time (value_number m.value) (wire_of m.value))

-- the shortest spellings of messages, one after another
abbrev pub frame_of : List ValueMsg → List ℕ
frame_of ms = flat_map spelling_of ms

-- an atom that has a spelling: no length or number in it passes its bits, and a text is UTF-8
abbrev pub CanSpell : AtomValue → Type 0
CanSpell atom = Fits atom × IsTyped atom

-- a message that has a spelling, where its numbers are those of their types
pub record HasSpelling (m : ValueMsg) : Type 0 where
  pub atoms : AllByRecursion CanSpell (atoms_of m.id m.time (value_number m.value) (wire_of m.value))
  pub wire : IsWire (value_number m.value) (wire_of m.value)

-- a message that can be read back where values of this size are taken
pub record IsInRange (most : ℕ) (m : ValueMsg) : Type 0 where
  pub id : is_i64 m.id ≡ true
  pub time : nat_lt m.time (2 ^ 63) ≡ true
  pub size : size_of m.value ≤ most
