-- The topics that a client holds by the messages that it was handed (NetworkTables 4.1, "Server to Client Messages",
-- "MessagePack Data" and "Properties").
use Rattle.std.specs.Prelude.{ℤ, ℕ, Bool, List, [], ◌∷◌, ◌++◌, Option, Some, None, map, filter, not, ◌&&◌, bytes_eq, int_lt, if◌then◌else◌}
use Rattle.std.specs.List.{list_any}
use Rattle.std.specs.Ordering.{int_eq}
use Rattle.serde_json.specs.Data.{Data}
use Rattle.nt_frames.specs.declared.message.ValueMsg.{ValueMsg}
use Rattle.nt_topics.specs.Properties.{updated, is_cached}
use Rattle.nt_control.specs.declared.message.ServerMsg.{ServerMsg}
use Rattle.nt_control.specs.declared.message.ServerMsg.TheVariants.{Announce, Unannounce, Properties}
use Rattle.nt_rules.specs.declared.batch.Batch.{Batch}
use Rattle.nt_rules.specs.declared.held.Held.{Held}
use Rattle.nt_rules.specs.declared.topic.Timed.{Timed}

-- a message from the server to a client
pub data Message : Type 0 where
  Text : ServerMsg → Message
  Value : ValueMsg → Message

-- a batch hands its texts before its values
abbrev pub messages_in : Batch → List Message
messages_in b = map Text b.texts ++ map Value b.values

-- ---- what one message does to the topics that are held, by rising id

-- with these properties a topic keeps its value only where it is cached
abbrev pub with_properties : Data → Held → Held
with_properties props h = record h { props = props; value = if is_cached props then h.value else None }

abbrev pub new_held : List ℕ → ℤ → List ℕ → Data → Held
new_held name id typ props = record { id = id; name = name; typ = typ; props = props; value = None }

-- an announce of another id adds a topic without a value; one of a held id replaces its properties
abbrev pub after_announce : List ℕ → ℤ → List ℕ → Data → List Held → List Held
after_announce name id typ props [] = new_held name id typ props ∷ []
after_announce name id typ props (h ∷ held) =
    if int_eq h.id id then with_properties props h ∷ held
    else if int_lt id h.id then new_held name id typ props ∷ h ∷ held
    else h ∷ after_announce name id typ props held

abbrev pub is_called : List ℕ → Held → Bool
is_called name h = bytes_eq h.name name

-- an update of properties is one of the topic with that name, of several of the last
abbrev pub after_properties : List ℕ → Data → List Held → List Held
after_properties name update [] = []
after_properties name update (h ∷ held) =
    if is_called name h && not (list_any (is_called name) held)
    then with_properties (updated h.props update) h ∷ held
    else h ∷ after_properties name update held

abbrev pub after_text : ServerMsg → List Held → List Held
after_text (Announce name id typ pubuid props) held = after_announce name id typ props held
after_text (Unannounce name id) held = filter (λ h. not (int_eq h.id id)) held
after_text (Properties name ack update) held = after_properties name update held

-- a value is kept of a cached topic alone
abbrev pub with_message : ValueMsg → Held → Held
with_message v h =
    if int_eq h.id v.id && is_cached h.props
    then record h { value = Some (record { time = v.time; value = v.value }) }
    else h

abbrev pub after_message : Message → List Held → List Held
after_message (Text m) held = after_text m held
after_message (Value v) held = map (with_message v) held

-- ---- what many messages do

-- the topics after these messages, the oldest of which stands first
abbrev pub told_from : List Held → List Message → List Held
told_from held [] = held
told_from held (m ∷ messages) = told_from (after_message m held) messages

-- the topics that a client holds that was told nothing else
abbrev pub told : List Message → List Held
told messages = told_from [] messages
