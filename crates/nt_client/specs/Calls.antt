-- What a client holds, and what each of its calls but `take` makes of it (NetworkTables 4.1, "Client to Server
-- Messages").
use Rattle.std.specs.Prelude.{ℕ, ℤ, List, [], ◌∷◌, ◌++◌, Option, Some, None, map, is_some, if◌then◌else◌}
use Rattle.std.specs.List.{flat_map}
use Rattle.std.specs.BTreeMap.{insert_entry, is_at}
use Rattle.std.specs.Map.{lookup, remove_entry}
use Rattle.std.specs.Ordering.{int_cmp}
use Rattle.serde_json.specs.Data.{Data}
use Rattle.nt_values.specs.declared.value.Value.{Value}
use Rattle.nt_topics.specs.Properties.{is_cached}
use Rattle.nt_subs.specs.declared.sub.Sub.{Sub}
use Rattle.nt_subs.specs.Subscriptions.{Subs, has_uid, with_sub, without_sub}
use Rattle.nt_control.specs.declared.message.ClientMsg.TheVariants.{Publish, Unpublish, Subscribe, Unsubscribe}
use Rattle.nt_rules.specs.declared.act.Msg.{Msg}
use Rattle.nt_rules.specs.declared.act.Msg.TheVariants.{Control, Put}
use Rattle.nt_rules.specs.declared.held.Held.{Held}
use Rattle.nt_rules.specs.declared.topic.Timed.{Timed}
use Rattle.nt_rules.specs.topics.Topics.{is_value_of}
use Rattle.nt_client.specs.declared.fault.ClientFault.{ClientFault}
use Rattle.nt_client.specs.declared.fault.ClientFault.TheVariants.{UidInUse, NoSuchUid, WrongType}
use Rattle.nt_client.specs.declared.publisher.Publisher.{Publisher}

-- publishers, each with its uid, by rising uid
abbrev pub Publishers : Type 0
Publishers = List (ℤ × Publisher)

-- the topics that it holds by what it was told, by rising id; its publishers and subscriptions; and what waits to be
-- sent, the oldest first
pub record State : Type 0 where
  pub held : List Held
  pub publishers : Publishers
  pub subscriptions : Subs
  pub queue : List Msg

-- it holds nothing, and says nothing
abbrev pub fresh : State
fresh = record { held = []; publishers = []; subscriptions = []; queue = [] }

abbrev pub queued : Msg → List Msg → List Msg
queued m queue = queue ++ m ∷ []

-- ---- publishers

abbrev pub publisher_of : ℤ → Publishers → Option Publisher
publisher_of uid publishers = lookup (is_at (int_cmp uid)) publishers

abbrev pub with_publisher : ℤ → Publisher → Publishers → Publishers
with_publisher uid p publishers = insert_entry int_cmp publishers uid p

abbrev pub without_publisher : ℤ → Publishers → Publishers
without_publisher uid publishers = remove_entry (is_at (int_cmp uid)) publishers

abbrev pub publish_fault : ℤ → State → Option ClientFault
publish_fault uid c = if is_some (publisher_of uid c.publishers) then Some UidInUse else None

-- a new publisher has no last value
abbrev pub published : ℤ → List ℕ → List ℕ → Data → State → State
published uid name typ props c = record c {
  publishers = with_publisher uid (record { name = name; typ = typ; props = props; last = None }) c.publishers;
  queue = queued (Control (Publish name uid typ props)) c.queue;
}

abbrev pub unpublish_fault : ℤ → State → Option ClientFault
unpublish_fault uid c = if is_some (publisher_of uid c.publishers) then None else Some NoSuchUid

abbrev pub unpublished : ℤ → State → State
unpublished uid c = record c {
  publishers = without_publisher uid c.publishers;
  queue = queued (Control (Unpublish uid)) c.queue;
}

-- ---- values

abbrev pub fault_of_value : Value → Option Publisher → Option ClientFault
fault_of_value value None = Some NoSuchUid
fault_of_value value (Some p) = if is_value_of p.typ value then None else Some WrongType

abbrev pub set_fault : ℤ → Value → State → Option ClientFault
set_fault uid value c = fault_of_value value (publisher_of uid c.publishers)

-- the publishers with this last value of the one with this uid
abbrev pub with_last : ℤ → Timed → Publishers → Option Publisher → Publishers
with_last uid timed publishers None = publishers
with_last uid timed publishers (Some p) = with_publisher uid (record p { last = Some timed }) publishers

-- the value is sent under the publisher's uid
abbrev pub message_of : ℤ → Timed → Msg
message_of uid timed = Put (record { id = uid; time = timed.time; value = timed.value })

abbrev pub valued : ℤ → Timed → State → State
valued uid timed c = record c {
  publishers = with_last uid timed c.publishers (publisher_of uid c.publishers);
  queue = queued (message_of uid timed) c.queue;
}

-- ---- subscriptions

-- one at a uid that is in use stands in place of the other
abbrev pub subscribed : ℤ → Sub → State → State
subscribed uid sub c = record c {
  subscriptions = with_sub uid sub c.subscriptions;
  queue = queued (Control (Subscribe uid sub)) c.queue;
}

abbrev pub unsubscribe_fault : ℤ → State → Option ClientFault
unsubscribe_fault uid c = if has_uid uid c.subscriptions then None else Some NoSuchUid

abbrev pub unsubscribed : ℤ → State → State
unsubscribed uid c = record c {
  subscriptions = without_sub uid c.subscriptions;
  queue = queued (Control (Unsubscribe uid)) c.queue;
}

-- ---- the connection

-- what it was told and what waits is forgotten
abbrev pub lost : State → State
lost c = record c { held = []; queue = [] }

abbrev pub subscribe_said : ℤ × Sub → Msg
subscribe_said s = Control (Subscribe s.0 s.1)

abbrev pub publish_said : ℤ × Publisher → Msg
publish_said p = let q = p.1 in Control (Publish q.name p.0 q.typ q.props)

abbrev pub last_said : ℤ → Option Timed → List Msg
last_said uid None = []
last_said uid (Some timed) = message_of uid timed ∷ []

-- the last value of a publisher whose own properties are cached
abbrev pub value_said : ℤ × Publisher → List Msg
value_said p = let q = p.1 in if is_cached q.props then last_said p.0 q.last else []

-- what is said on a new connection: all subscriptions, then all publishers, then their values, each by uid
abbrev pub said_anew : Publishers → Subs → List Msg
said_anew publishers subscriptions =
    map subscribe_said subscriptions ++ (map publish_said publishers ++ flat_map value_said publishers)

abbrev pub rejoined : State → State
rejoined c = record c { queue = said_anew c.publishers c.subscriptions }
