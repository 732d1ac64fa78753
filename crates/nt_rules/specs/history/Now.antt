-- What a history says of the present. A history is its start and its entries, the newest first.
use Rattle.std.specs.Prelude.{ℕ, ℤ, Bool, true, false, List, [], ◌∷◌, ◌++◌, Option, Some, None, is_none, map, filter, length, ◌&&◌, ◌==◌, ◌+◌, if◌then◌else◌}
use Rattle.std.specs.List.{list_any}
use Rattle.nt_control.specs.declared.message.ClientMsg.{ClientMsg}
use Rattle.nt_control.specs.declared.message.ClientMsg.TheVariants.{Publish, Unpublish, SetProps, Subscribe, Unsubscribe}
use Rattle.nt_subs.specs.Subscriptions.{Subs, are_within, has_uid, with_sub, without_sub}
use Rattle.nt_rules.specs.declared.topic.Pub.{Pub}
use Rattle.nt_rules.specs.declared.topic.Topic.{Topic}
use Rattle.nt_rules.specs.declared.topic.Saved.{Saved}
use Rattle.nt_rules.specs.declared.topic.Cause.{Cause}
use Rattle.nt_rules.specs.declared.topic.Cause.TheVariants.{NoConn, NoSuchUid, Older, TooMany}
use Rattle.nt_rules.specs.topics.Topics.{publish_cause, unpublish_cause, update_cause, put_cause, is_named, has_publisher}
use Rattle.nt_rules.specs.declared.start.Start.{Start}
use Rattle.nt_rules.specs.declared.act.Msg.{Msg}
use Rattle.nt_rules.specs.declared.act.Msg.TheVariants.{Control, Put}
use Rattle.nt_rules.specs.declared.act.Deed.{Deed}
use Rattle.nt_rules.specs.declared.act.Deed.TheVariants.{Opened, NotOpened, Said, Drained, Closed, Permitted, NoPermit, Shut}
use Rattle.nt_rules.specs.declared.act.Entry.{Entry}
use Rattle.nt_rules.specs.history.Lives.{Life, topics, at_living, or_ended, with_publishing, born, without_publisher, with_setting, with_a_put, closed_for, restored}

-- a connection that was opened: its number, the worker that serves it, the name that it was given, its subscriptions,
-- and the place at which it was closed
pub record Connection : Type 0 where
  pub number : ℕ
  pub worker : ℕ
  pub name : List ℕ
  pub subs : Subs
  pub over : Option ℕ

-- the present: how many entries there are, the last moment, the permits and how many were granted, whether the server
-- is shut, all connections by rising number, and all lives by rising id
pub record Now : Type 0 where
  pub place : ℕ
  pub moment : ℕ
  pub permits : ℕ
  pub granted : ℕ
  pub shut : Bool
  pub connections : List Connection
  pub lives : List Life

-- ---- connections

abbrev pub is_open : Connection → Bool
is_open c = is_none c.over

-- the open connection of this number
abbrev pub is_conn : ℕ → Connection → Bool
is_conn conn c = is_open c && (c.number == conn)

-- whether the connection is open, and whether it is open for this worker
abbrev pub is_there : List Connection → ℕ → Bool
is_there connections conn = list_any (is_conn conn) connections

abbrev pub is_open_for : List Connection → ℕ → ℕ → Bool
is_open_for connections worker conn = list_any (λ c. is_conn conn c && (c.worker == worker)) connections

-- the open connections
abbrev pub open_ones : List Connection → List Connection
open_ones connections = filter is_open connections

-- ---- subscriptions

-- those of an open connection
abbrev pub subs_of : List Connection → ℕ → Subs
subs_of [] conn = []
subs_of (c ∷ connections) conn = if is_conn conn c then c.subs else subs_of connections conn

-- the connections with other subscriptions of one
abbrev pub with_subs : ℕ → (Subs → Subs) → List Connection → List Connection
with_subs conn f connections = map (λ c. if is_conn conn c then record c { subs = f c.subs } else c) connections

abbrev pub subscribe_cause : Subs → Option Cause
subscribe_cause subs = if are_within subs then None else Some TooMany

abbrev pub unsubscribe_cause : Subs → ℤ → Option Cause
unsubscribe_cause subs uid = if has_uid uid subs then None else Some NoSuchUid

-- ---- what is said

-- the first cause that refuses a message of an open connection, over the topics, the next id and its subscriptions
abbrev pub control_cause : List Topic → ℕ → Subs → ℕ → ClientMsg → Option Cause
control_cause ts next subs conn (Publish name uid typ props) = publish_cause ts next conn uid name props
control_cause ts next subs conn (Unpublish uid) = unpublish_cause ts conn uid
control_cause ts next subs conn (SetProps name update) = update_cause ts name update
control_cause ts next subs conn (Subscribe uid sub) = subscribe_cause (with_sub uid sub subs)
control_cause ts next subs conn (Unsubscribe uid) = unsubscribe_cause subs uid

abbrev pub said_cause : List Topic → ℕ → Subs → ℕ → Msg → Option Cause
said_cause ts next subs conn (Control m) = control_cause ts next subs conn m
said_cause ts next subs conn (Put v) = put_cause ts conn v.id v.time v.value

abbrev pub cause_of : Now → ℕ → ℕ → Msg → Option Cause
cause_of n worker conn m =
    if is_open_for n.connections worker conn
    then said_cause (topics n.lives) (length n.lives + 1) (subs_of n.connections conn) conn m
    else Some NoConn

-- whether a message with this answer leaves a trace in a life: one that counts, and a put that is older
abbrev pub is_traced : Msg → Option Cause → Bool
is_traced m None = true
is_traced (Put v) (Some Older) = true
is_traced m (Some cause) = false

-- the lives after a traced message at a place
abbrev pub lives_after : ℕ → List Life → ℕ → Msg → List Life
lives_after place lives conn (Control (Publish name uid typ props)) =
    let p : Pub = record { conn = conn; uid = uid; typ = typ } in
    if list_any (is_named name) (topics lives)
    then at_living (is_named name) (with_publishing place p) lives
    else lives ++ born place (length lives + 1) name typ props p ∷ []
lives_after place lives conn (Control (Unpublish uid)) =
    at_living (has_publisher conn uid) (λ l. or_ended place (without_publisher conn uid l)) lives
lives_after place lives conn (Control (SetProps name update)) =
    at_living (is_named name) (λ l. or_ended place (with_setting place conn update l)) lives
lives_after place lives conn (Control (Subscribe uid sub)) = lives
lives_after place lives conn (Control (Unsubscribe uid)) = lives
lives_after place lives conn (Put v) =
    at_living (has_publisher conn v.id) (with_a_put (record { place = place; time = v.time; value = v.value })) lives

-- the connections after a traced message
abbrev pub connections_after : List Connection → ℕ → Msg → List Connection
connections_after connections conn (Control (Subscribe uid sub)) = with_subs conn (with_sub uid sub) connections
connections_after connections conn (Control (Unsubscribe uid)) = with_subs conn (without_sub uid) connections
connections_after connections conn m = connections

abbrev pub after_said : Now → ℕ → ℕ → Msg → Now
after_said n worker conn m =
    if is_traced m (cause_of n worker conn m)
    then record n {
      connections = connections_after n.connections conn m;
      lives = lives_after (n.place + 1) n.lives conn m;
    }
    else n

-- ---- entries

-- the connections after one was closed at a place
abbrev pub closed : ℕ → ℕ → List Connection → List Connection
closed place conn connections = map (λ c. if is_conn conn c then record c { over = Some place } else c) connections

abbrev pub after_closed : Now → ℕ → ℕ → Now
after_closed n worker conn =
    if is_open_for n.connections worker conn
    then record n {
      connections = closed (n.place + 1) conn n.connections;
      lives = map (closed_for (n.place + 1) conn) n.lives;
    }
    else n

abbrev pub opened : ℕ → ℕ → List ℕ → Connection
opened worker conn name = record { number = conn; worker = worker; name = name; subs = []; over = None }

-- what a deed changes
abbrev pub after_deed : Now → ℕ → ℕ → Deed → Now
after_deed n worker conn (Opened name) = record n { connections = n.connections ++ opened worker conn name ∷ [] }
after_deed n worker conn NotOpened = n
after_deed n worker conn (Said m) = after_said n worker conn m
after_deed n worker conn (Drained batch) = n
after_deed n worker conn Closed = after_closed n worker conn
after_deed n worker conn Permitted = record n { granted = n.granted + 1 }
after_deed n worker conn NoPermit = n
after_deed n worker conn Shut = record n { shut = true }

-- the present after an entry
abbrev pub after : Now → Entry → Now
after n e = record (after_deed n e.worker e.conn e.deed) { place = n.place + 1; moment = e.now }

abbrev pub beginning : Start → Now
beginning start =
    record {
      place = 0;
      moment = 0;
      permits = start.permits;
      granted = 0;
      shut = false;
      connections = [];
      lives = restored 1 start.saved;
    }

-- the present after these entries, the newest of which stands first
abbrev pub now_of : Start → List Entry → Now
now_of start [] = beginning start
now_of start (e ∷ past) = after (now_of start past) e
