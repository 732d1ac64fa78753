-- Topics and their publishers: what each call makes of them, and the causes that refuse a call (NetworkTables 4.1,
-- "Publish Request Message", "Unpublish Request Message", "Set Properties Message" and "MessagePack Data").
use Rattle.std.specs.Prelude.{ℕ, zero, suc, ℤ, Bool, true, false, List, [], ◌∷◌, ◌++◌, Option, Some, None, map, option_map, filter, length, count_by, not, ◌&&◌, ◌||◌, ◌==◌, nat_lt, nat_le, ◌+◌, bytes_eq, if◌then◌else◌}
use Rattle.std.specs.List.{list_any, find, cons_option}
use Rattle.std.specs.Ordering.{int_eq}
use Rattle.serde_json.specs.Data.{Data}
use Rattle.serde_json.specs.Written.{compact_text}
use Rattle.nt_values.specs.declared.value.Value.{Value}
use Rattle.nt_values.specs.Types.{value_number, number_of}
use Rattle.nt_topics.specs.Names.{is_special}
use Rattle.nt_topics.specs.Properties.{updated, is_persistent, is_retained, is_cached}
use Rattle.nt_rules.specs.declared.topic.Pub.{Pub}
use Rattle.nt_rules.specs.declared.topic.Timed.{Timed}
use Rattle.nt_rules.specs.declared.topic.Topic.{Topic}
use Rattle.nt_rules.specs.declared.topic.Saved.{Saved}
use Rattle.nt_rules.specs.declared.topic.Cause.{Cause}
use Rattle.nt_rules.specs.declared.topic.Cause.TheVariants.{Special, UidInUse, PubsFull, PropsFull, TopicsFull, IdsSpent, NoSuchUid, NoTopic, OtherType, Older}
use Rattle.nt_rules.specs.Limits.{most_publishers, most_topics, last_id, most_properties}

-- what a table holds: its topics by rising id, and the next id. A table that met want of memory has failed
pub record TableState : Type 0 where
  pub failed : Bool
  pub topics : List Topic
  pub next : ℕ

-- ---- publishers and topics

-- the publisher of this connection with this uid
abbrev pub is_publisher : ℕ → ℤ → Pub → Bool
is_publisher conn uid p = (p.conn == conn) && int_eq p.uid uid

-- a publisher of this connection
abbrev pub is_of : ℕ → Pub → Bool
is_of conn p = p.conn == conn

abbrev pub has_publisher : ℕ → ℤ → Topic → Bool
has_publisher conn uid t = list_any (is_publisher conn uid) t.pubs

-- whether the connection publishes to the topic
abbrev pub has_conn : ℕ → Topic → Bool
has_conn conn t = list_any (is_of conn) t.pubs

-- how many publishers the connection has
abbrev pub publishers_of : ℕ → List Topic → ℕ
publishers_of conn [] = 0
publishers_of conn (t ∷ topics) = count_by (is_of conn) t.pubs + publishers_of conn topics

abbrev pub is_named : List ℕ → Topic → Bool
is_named name t = bytes_eq t.name name

-- properties whose compact text is too long
abbrev pub is_too_long : Data → Bool
is_too_long props = nat_lt most_properties (length (compact_text props))

-- whether a topic lives on: it has a publisher, or a flag keeps it
abbrev pub lives_on : Topic → Bool
lives_on t = nat_lt 0 (length t.pubs) || (is_persistent t.props || is_retained t.props)

-- what is left of a topic that lost a publisher or was updated
abbrev pub if_it_lives_on : Topic → Option Topic
if_it_lives_on t = if lives_on t then Some t else None

-- the list with its first item that passes the test changed, or taken out where nothing is left of it
abbrev pub change_first : {X : Type 0} → (X → Bool) → (X → Option X) → List X → List X
change_first test f [] = []
change_first test f (x ∷ xs) = if test x then cons_option (f x) xs else x ∷ change_first test f xs

-- the list with the item at a position changed, or taken out where nothing is left of it
abbrev pub change_at : {X : Type 0} → (X → Option X) → ℕ → List X → List X
change_at f i [] = []
change_at f zero (x ∷ xs) = cons_option (f x) xs
change_at f (suc i) (x ∷ xs) = x ∷ change_at f i xs

-- what a call leaves, by the cause that refuses it
abbrev pub if_counts : {X : Type 0} → Option Cause → X → X → X
if_counts None after before = after
if_counts (Some cause) after before = before

-- ---- publish

-- the first cause that refuses a further topic, where there are so many and this id is next
abbrev pub room_cause : ℕ → ℕ → Option Cause
room_cause count next =
    if nat_le most_topics count then Some TopicsFull else (if nat_lt last_id next then Some IdsSpent else None)

-- the first cause that refuses a new topic with these properties
abbrev pub new_cause : ℕ → ℕ → Data → Option Cause
new_cause count next props = if is_too_long props then Some PropsFull else room_cause count next

-- the first cause that refuses a publish. What is published to a living topic says nothing of its properties
abbrev pub publish_cause : List Topic → ℕ → ℕ → ℤ → List ℕ → Data → Option Cause
publish_cause topics next conn uid name props =
    if is_special name then Some Special else (
    if list_any (has_publisher conn uid) topics then Some UidInUse else (
    if nat_le most_publishers (publishers_of conn topics) then Some PubsFull else (
    if list_any (is_named name) topics then None else new_cause (length topics) next props)))

-- a living topic keeps its type and properties
abbrev pub with_publisher : Pub → Topic → Topic
with_publisher p t = record t { pubs = t.pubs ++ p ∷ [] }

-- a topic that begins
abbrev pub new_topic : ℕ → List ℕ → List ℕ → Data → List Pub → Topic
new_topic id name typ props pubs =
    record { id = id; name = name; typ = typ; props = props; value = None; pubs = pubs }

-- the topics after a publish
abbrev pub published : List Topic → ℕ → List ℕ → List ℕ → Data → Pub → List Topic
published topics next name typ props p =
    if list_any (is_named name) topics
    then change_first (is_named name) (λ t. Some (with_publisher p t)) topics
    else topics ++ new_topic next name typ props (p ∷ []) ∷ []

-- the next id after a publish
abbrev pub next_after : List Topic → ℕ → List ℕ → ℕ
next_after topics next name = if list_any (is_named name) topics then next else next + 1

-- ---- unpublish

abbrev pub unpublish_cause : List Topic → ℕ → ℤ → Option Cause
unpublish_cause topics conn uid = if list_any (has_publisher conn uid) topics then None else Some NoSuchUid

abbrev pub without_publisher : ℕ → ℤ → Topic → Topic
without_publisher conn uid t = record t { pubs = filter (λ p. not (is_publisher conn uid p)) t.pubs }

-- the topics after an unpublish
abbrev pub unpublished : List Topic → ℕ → ℤ → List Topic
unpublished topics conn uid =
    change_first (has_publisher conn uid) (λ t. if_it_lives_on (without_publisher conn uid t)) topics

-- ---- the end of a connection

abbrev pub without_conn : ℕ → Topic → Topic
without_conn conn t = record t { pubs = filter (λ p. not (is_of conn p)) t.pubs }

-- whether the topic goes on when the connection ends: one to which it doesn't publish isn't touched
abbrev pub outlives : ℕ → Topic → Bool
outlives conn t = not (has_conn conn t) || lives_on (without_conn conn t)

-- the topics after the end of a connection
abbrev pub dropped : List Topic → ℕ → List Topic
dropped topics conn = map (without_conn conn) (filter (outlives conn) topics)

-- ---- properties

-- an update turns a topic where it changes whether it is cached
abbrev pub is_turned : Data → Data → Bool
is_turned before after = if is_cached before then not (is_cached after) else is_cached after

-- a turn drops the held value
abbrev pub with_update : Data → Topic → Topic
with_update u t =
    record t {
      props = updated t.props u;
      value = if is_turned t.props (updated t.props u) then None else t.value;
    }

-- the cause that refuses an update of what was found
abbrev pub update_cause_at : Data → Option Topic → Option Cause
update_cause_at u None = Some NoTopic
update_cause_at u (Some t) = if is_too_long (updated t.props u) then Some PropsFull else None

abbrev pub update_cause : List Topic → List ℕ → Data → Option Cause
update_cause topics name u = update_cause_at u (find (is_named name) topics)

-- the topics after an update
abbrev pub with_props : List Topic → List ℕ → Data → List Topic
with_props topics name u = change_first (is_named name) (λ t. if_it_lives_on (with_update u t)) topics

-- ---- put

-- a value is of a type where its variant has the type's number
abbrev pub is_value_of : List ℕ → Value → Bool
is_value_of typ value = value_number value == number_of typ

-- whether this publisher has the topic's type, and the value is of it
abbrev pub is_fit : ℕ → ℤ → Value → Topic → Bool
is_fit conn uid value t =
    list_any (λ p. is_publisher conn uid p && bytes_eq p.typ t.typ) t.pubs && is_value_of t.typ value

-- whether the held value has a greater time
abbrev pub is_older : ℕ → Option Timed → Bool
is_older time None = false
is_older time (Some v) = nat_lt time v.time

-- the first cause that refuses a put to the publisher's topic
abbrev pub put_cause_to : ℕ → ℤ → ℕ → Value → Topic → Option Cause
put_cause_to conn uid time value t =
    if is_fit conn uid value t then (if is_older time t.value then Some Older else None) else Some OtherType

-- the cause that refuses a put to what was found
abbrev pub put_cause_at : ℕ → ℤ → ℕ → Value → Option Topic → Option Cause
put_cause_at conn uid time value None = Some NoSuchUid
put_cause_at conn uid time value (Some t) = put_cause_to conn uid time value t

abbrev pub put_cause : List Topic → ℕ → ℤ → ℕ → Value → Option Cause
put_cause topics conn uid time value = put_cause_at conn uid time value (find (has_publisher conn uid) topics)

-- a topic that isn't cached holds no value
abbrev pub with_value : ℕ → Value → Topic → Topic
with_value time value t =
    if is_cached t.props then record t { value = Some (record { time = time; value = value }) } else t

-- the topics after a put
abbrev pub with_put : List Topic → ℕ → ℤ → ℕ → Value → List Topic
with_put topics conn uid time value =
    change_first (has_publisher conn uid) (λ t. Some (with_value time value t)) topics

-- ---- restore

-- whether a saved value, where there is one, is of the type
abbrev pub is_saved_fit : List ℕ → Option Value → Bool
is_saved_fit typ None = true
is_saved_fit typ (Some value) = is_value_of typ value

-- the first cause that refuses a saved topic
abbrev pub restore_cause : List Topic → ℕ → Saved → Option Cause
restore_cause topics next saved =
    refusal (room_cause (length topics) next)
  where
    refusal : Option Cause → Option Cause
    refusal (Some cause) = Some cause
    refusal None = if is_saved_fit saved.typ saved.value then None else Some OtherType

-- a restored value has the time 0
abbrev pub at_zero : Value → Timed
at_zero value = record { time = 0; value = value }

-- a saved topic, as it begins again
abbrev pub restored_topic : ℕ → Saved → Topic
restored_topic id saved =
    record {
      id = id;
      name = saved.name;
      typ = saved.typ;
      props = saved.props;
      value = option_map at_zero saved.value;
      pubs = [];
    }

-- the topics after a restore
abbrev pub restored : List Topic → ℕ → Saved → List Topic
restored topics next saved = topics ++ restored_topic next saved ∷ []
