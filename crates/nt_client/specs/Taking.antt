-- What a client takes from a frame of the server (NetworkTables 4.1, "Server to Client Messages" and "MessagePack
-- Data"): which of its messages count, and what they change.
use Rattle.std.specs.Prelude.{◌≡◌, ◌+◌, ◌-◌, ◌^◌, ℕ, ℤ, negsuc, Bool, true, List, [], ◌∷◌, ◌++◌, Option, Some, None, map, min, not, ◌&&◌, ◌||◌, if◌then◌else◌}
use Rattle.std.specs.List.{list_any, find}
use Rattle.std.specs.Ordering.{int_eq}
use Rattle.serde_json.specs.Data.{Data}
use Rattle.nt_frames.specs.declared.message.ValueMsg.{ValueMsg}
use Rattle.nt_frames.specs.declared.message.FrameFault.{FrameFault}
use Rattle.nt_frames.specs.Frames.{Means}
use Rattle.nt_control.specs.declared.message.ServerMsg.TheVariants.{Announce, Unannounce, Properties}
use Rattle.nt_control.specs.Frame.{told_in, untold_in}
use Rattle.nt_link.specs.declared.frame.Frame.{Frame}
use Rattle.nt_link.specs.declared.frame.Frame.TheVariants as frames
use Rattle.nt_rules.specs.declared.held.Held.{Held}
use Rattle.nt_rules.specs.declared.topic.Change.{Change}
use Rattle.nt_rules.specs.declared.topic.Change.TheVariants.{Started, Changed, Props, Ended}
use Rattle.nt_rules.specs.telling.Told.{Message, Text, Value, is_called, after_message}

-- ---- what a frame says

-- the greatest size of a value that a client reads
abbrev pub most_value : ℕ
most_value = 2_097_152

-- a fault counts as one part that is no message
abbrev pub faults : Option FrameFault → ℕ
faults None = 0
faults (Some fault) = 1

-- the frame says these messages, and has so many parts that are none
abbrev pub Says : Frame → List Message → ℕ → Type 0
Says (frames.Text text) messages parts = (messages ≡ map Text (told_in text)) × (parts ≡ untold_in text)
Says (frames.Binary bytes) messages parts = (values : List ValueMsg) × (fault : Option FrameFault)
    × Means most_value bytes values fault × (messages ≡ map Value values) × (parts ≡ faults fault)

-- ---- the clock

-- an answer of the clock has the id -1
abbrev pub is_clock : ValueMsg → Bool
is_clock v = int_eq v.id (negsuc 0)

abbrev pub clock_in : List Message → List ValueMsg
clock_in [] = []
clock_in (Text m ∷ messages) = clock_in messages
clock_in (Value v ∷ messages) = if is_clock v then v ∷ clock_in messages else clock_in messages

-- ---- what a message changes of the topics that are held

abbrev pub has_id : ℤ → Held → Bool
has_id id h = int_eq h.id id

-- of several topics of one name the last
abbrev pub last_called : List ℕ → List Held → Option Held
last_called name [] = None
last_called name (h ∷ held) =
    if is_called name h && not (list_any (is_called name) held) then Some h else last_called name held

-- a message about an id or a name that isn't held is none, but for an answer of the clock
abbrev pub is_known : Message → List Held → Bool
is_known (Text (Announce name id typ pubuid props)) held = true
is_known (Text (Unannounce name id)) held = list_any (has_id id) held
is_known (Text (Properties name ack update)) held = list_any (is_called name) held
is_known (Value v) held = is_clock v || list_any (has_id v.id) held

abbrev pub if_held : (Held → Change) → Option Held → List Change
if_held f None = []
if_held f (Some h) = f h ∷ []

-- a second announce is no change
abbrev pub start_by : List ℕ → ℤ → List ℕ → Data → List Held → List Change
start_by name id typ props held = if list_any (has_id id) held then [] else Started id name typ props ∷ []

abbrev pub end_by : ℤ → List Held → List Change
end_by id held = if_held (λ h. Ended h.id h.name) (find (has_id id) held)

abbrev pub update_by : List ℕ → Data → List Held → List Change
update_by name update held = if_held (λ h. Props h.id h.name update) (last_called name held)

-- an equal value is a change too
abbrev pub value_by : ValueMsg → List Held → List Change
value_by v held = if_held (λ h. Changed h.id h.name v.time v.value) (find (has_id v.id) held)

-- what is told of a message
abbrev pub changes_by : Message → List Held → List Change
changes_by (Text (Announce name id typ pubuid props)) held = start_by name id typ props held
changes_by (Text (Unannounce name id)) held = end_by id held
changes_by (Text (Properties name ack update)) held = update_by name update held
changes_by (Value v) held = value_by v held

-- ---- what many messages change, the oldest of which stands first

abbrev pub changes_from : List Held → List Message → List Change
changes_from held [] = []
changes_from held (m ∷ messages) = changes_by m held ++ changes_from (after_message m held) messages

-- how many of them are none
abbrev pub unknown_from : List Held → List Message → ℕ
unknown_from held [] = 0
unknown_from held (m ∷ messages) =
    (if is_known m held then 0 else 1) + unknown_from (after_message m held) messages

-- what is ignored, as far as 32 bits count
abbrev pub ignored_from : List Held → List Message → ℕ → ℕ
ignored_from held messages parts = min (parts + unknown_from held messages) (2 ^ 32 - 1)
