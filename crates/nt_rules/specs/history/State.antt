-- What a server keeps, what it answers by that, and what an act does to it.
use Rattle.std.specs.Prelude.{ℕ, ℤ, Bool, true, false, max, List, [], ◌∷◌, ◌++◌, Option, Some, None, is_some, option_map, unwrap_or, map, filter, not, ◌&&◌, ◌==◌, nat_lt, nat_le, ◌+◌, bytes_eq, if◌then◌else◌}
use Rattle.std.specs.List.{list_any, find}
use Rattle.nt_topics.specs.Properties.{is_cached}
use Rattle.nt_control.specs.declared.message.ClientMsg.{ClientMsg}
use Rattle.nt_control.specs.declared.message.ClientMsg.TheVariants.{Publish, Unpublish, SetProps, Subscribe, Unsubscribe}
use Rattle.nt_subs.specs.declared.wish.Wanted.{Wanted}
use Rattle.nt_subs.specs.declared.wish.Wanted.TheVariants.{No}
use Rattle.nt_subs.specs.Subscriptions.{Subs, with_sub, without_sub}
use Rattle.nt_subs.specs.Wishes.{wanted}
use Rattle.nt_rules.specs.Limits.{last_connection}
use Rattle.nt_rules.specs.declared.topic.Topic.{Topic}
use Rattle.nt_rules.specs.declared.topic.Change.{Change}
use Rattle.nt_rules.specs.declared.topic.Change.TheVariants as change
use Rattle.nt_rules.specs.declared.topic.Cause.{Cause}
use Rattle.nt_rules.specs.declared.topic.Cause.TheVariants.{NoConn, ConnsSpent}
use Rattle.nt_rules.specs.topics.Topics.{is_named, is_turned, published, next_after, unpublished, with_put, with_props, dropped}
use Rattle.nt_rules.specs.topics.Changes.{publish_changes, unpublish_changes, update_changes, put_changes, drop_changes}
use Rattle.nt_rules.specs.declared.roster.Roster.{Roster}
use Rattle.nt_rules.specs.declared.roster.ConnRow.{ConnRow}
use Rattle.nt_rules.specs.declared.meta.MetaNow.{MetaNow}
use Rattle.nt_rules.specs.meta.Meta.{metas}
use Rattle.nt_rules.specs.outbox.Marks.{is_empty}
use Rattle.nt_rules.specs.outbox.Calls.{OutboxState, id_of, nothing_owed, behind, reached, noted, turned_to, replied_publish_to, replied_setting_to, rewanted_to, meta_rewanted, meta_changed, meta_ended, drained, drained_batch}
use Rattle.nt_rules.specs.declared.act.Act.{Act}
use Rattle.nt_rules.specs.declared.act.Act.TheVariants as act
use Rattle.nt_rules.specs.declared.act.Msg.{Msg}
use Rattle.nt_rules.specs.declared.act.Msg.TheVariants.{Control, Put}
use Rattle.nt_rules.specs.declared.act.StepOut.{StepOut}
use Rattle.nt_rules.specs.declared.act.StepOut.TheVariants as out
use Rattle.nt_rules.specs.declared.taken.Taken.{Taken}
use Rattle.nt_rules.specs.declared.meta.Difference.{Difference}
use Rattle.nt_rules.specs.declared.meta.Difference.TheVariants.{Began, Changed, Ended}
use Rattle.nt_rules.specs.history.Now.{said_cause}
use Rattle.nt_rules.specs.history.Metas.{pub_rows, sub_row, life_row}
use Rattle.nt_rules.specs.history.Answer.{given_name, said_out, drained_out}

-- an open connection: its number, the worker that serves it, the name that it was given, its subscriptions and what it
-- is owed
pub record Open : Type 0 where
  pub conn : ℕ
  pub worker : ℕ
  pub name : List ℕ
  pub subs : Subs
  pub outbox : OutboxState

-- what a server keeps: the permits and how many were granted, whether it is shut, the last moment and how many entries
-- there are, how many connections were opened, the open ones by rising number, the living topics by rising id and the
-- next id, and for each topic that holds a value the place at which it was taken, by rising id of the topics
pub record State : Type 0 where
  pub permits : ℕ
  pub granted : ℕ
  pub shut : Bool
  pub moment : ℕ
  pub place : ℕ
  pub opened : ℕ
  pub opens : List Open
  pub topics : List Topic
  pub next : ℕ
  pub taken : List Taken

-- ---- open connections

abbrev pub is_number : ℕ → Open → Bool
is_number conn o = o.conn == conn

abbrev pub serves : List Open → ℕ → ℕ → Bool
serves opens worker conn = list_any (λ o. is_number conn o && (o.worker == worker)) opens

abbrev pub subs_at : List Open → ℕ → Subs
subs_at [] conn = []
subs_at (o ∷ opens) conn = if is_number conn o then o.subs else subs_at opens conn

abbrev pub outbox_at : List Open → ℕ → OutboxState
outbox_at [] conn = nothing_owed
outbox_at (o ∷ opens) conn = if is_number conn o then o.outbox else outbox_at opens conn

abbrev pub given_names : List Open → List (List ℕ)
given_names [] = []
given_names (o ∷ opens) = o.name ∷ given_names opens

-- the connection with another outbox
abbrev pub with_outbox : OutboxState → Open → Open
with_outbox b o = record o { outbox = b }

-- ---- meta topics

abbrev pub open_row : List Topic → Open → ConnRow
open_row ts o = record { conn = o.conn; name = o.name; pubs = pub_rows o.conn ts; subs = map sub_row o.subs }

abbrev pub open_roster : List Open → List Topic → Roster
open_roster opens ts = record { conns = map (open_row ts) opens; topics = map life_row ts }

-- the living meta topics, by rising id
unfoldable pub open_metas : List Open → List Topic → List MetaNow
open_metas opens ts = metas (open_roster opens ts)

abbrev pub difference_of : MetaNow → MetaNow → List Difference
difference_of before after = if bytes_eq before.bytes after.bytes then [] else Changed after ∷ []

-- the differences up to those of a meta topic that was there, where `rest` gives the others
abbrev pub differences_from : (List MetaNow → List Difference) → MetaNow → List MetaNow → List Difference
differences_from rest m [] = Ended m.id ∷ rest []
differences_from rest m (k ∷ after) =
    if m.id == k.id then difference_of m k ++ rest after
    else if nat_lt m.id k.id then Ended m.id ∷ rest (k ∷ after)
    else Began k ∷ differences_from rest m after

-- what is different between the meta topics before and those after, each by rising id
abbrev pub differences : List MetaNow → List MetaNow → List Difference
differences [] after = map Began after
differences (m ∷ before) after = differences_from (λ k. differences before k) m after

-- what an outbox is told of a difference, whose connection wants topics so
abbrev pub noted_difference : ℕ → (List ℕ → Wanted) → Difference → OutboxState → OutboxState
noted_difference place wish (Began m) b = meta_rewanted place m No (wish m.name) b
noted_difference place wish (Changed m) b = meta_changed place m (wish m.name) b
noted_difference place wish (Ended id) b = meta_ended place id b

abbrev pub noted_differences : ℕ → (List ℕ → Wanted) → List Difference → OutboxState → OutboxState
noted_differences place wish [] b = b
noted_differences place wish (d ∷ ds) b = noted_differences place wish ds (noted_difference place wish d b)

-- the open connections are told what is different of the meta topics since they were these, each outbox after it came to
-- the place: so one that wants no meta topic is the same whatever is different
abbrev pub refreshed : ℕ → List MetaNow → List Topic → List Open → List Open
refreshed place before ts opens =
    map
    (λ o. with_outbox
    (noted_differences place (wanted o.subs) (differences before (open_metas opens ts)) (reached place o.outbox)) o)
    opens

-- ---- changes

abbrev pub name_in : Change → List ℕ
name_in (change.Started id name typ props) = name
name_in (change.Changed id name time value) = name
name_in (change.Props id name update) = name
name_in (change.Ended id name) = name

abbrev pub is_end : Change → Bool
is_end (change.Ended id name) = true
is_end c = false

-- whether the topic of a name is cached, as each is that isn't there
abbrev pub cached_in : List Topic → List ℕ → Bool
cached_in ts name = unwrap_or (option_map (λ t. is_cached t.props) (find (is_named name) ts)) true

-- whether the topic of a name holds a value
abbrev pub holds_in : List Topic → List ℕ → Bool
holds_in ts name = unwrap_or (option_map (λ t. is_some t.value) (find (is_named name) ts)) false

-- an outbox is told of changes, over the topics after them
abbrev pub noted_all : ℕ → List Topic → (List ℕ → Wanted) → List Change → OutboxState → OutboxState
noted_all place ts wish [] b = b
noted_all place ts wish (c ∷ changes) b =
    noted_all place ts wish changes (noted place c (cached_in ts (name_in c)) (wish (name_in c)) b)

abbrev pub changes_noted : ℕ → List Topic → List Change → Open → Open
changes_noted place ts changes o = with_outbox (noted_all place ts (wanted o.subs) changes o.outbox) o

-- ---- the places at which values were taken

abbrev pub taken_at : ℕ → List Taken → ℕ
taken_at id [] = 0
taken_at id (t ∷ taken) = if t.topic == id then t.place else taken_at id taken

abbrev pub with_taken : ℕ → ℕ → List Taken → List Taken
with_taken id place [] = record { topic = id; place = place } ∷ []
with_taken id place (t ∷ taken) =
    if t.topic == id then record { topic = id; place = place } ∷ taken
    else if nat_lt id t.topic then record { topic = id; place = place } ∷ t ∷ taken
    else t ∷ with_taken id place taken

abbrev pub without_taken : ℕ → List Taken → List Taken
without_taken id taken = filter (λ t. not (t.topic == id)) taken

abbrev pub if_id : Option ℕ → (ℕ → List Taken) → List Taken → List Taken
if_id None f taken = taken
if_id (Some id) f taken = f id

-- over the topics after a change: the place of a value that is held is kept, and that of one that isn't is forgotten
abbrev pub taken_by : ℕ → List Topic → Change → List Taken → List Taken
taken_by place ts (change.Changed id name time value) taken =
    if_id (id_of id) (λ n. if holds_in ts name then with_taken n place taken else taken) taken
taken_by place ts (change.Props id name update) taken =
    if_id (id_of id) (λ n. if holds_in ts name then taken else without_taken n taken) taken
taken_by place ts (change.Ended id name) taken = if_id (id_of id) (λ n. without_taken n taken) taken
taken_by place ts c taken = taken

abbrev pub taken_after : ℕ → List Topic → List Change → List Taken → List Taken
taken_after place ts [] taken = taken
taken_after place ts (c ∷ changes) taken = taken_after place ts changes (taken_by place ts c taken)

-- ---- what is said

abbrev pub cause_at : State → ℕ → ℕ → Msg → Option Cause
cause_at s worker conn m =
    if serves s.opens worker conn then said_cause s.topics s.next (subs_at s.opens conn) conn m else Some NoConn

-- the topics and the next id after a message that counts, and its changes
abbrev pub topics_said : List Topic → ℕ → ℕ → Msg → List Topic
topics_said ts next conn (Control (Publish name uid typ props)) =
    published ts next name typ props (record { conn = conn; uid = uid; typ = typ })
topics_said ts next conn (Control (Unpublish uid)) = unpublished ts conn uid
topics_said ts next conn (Control (SetProps name update)) = with_props ts name update
topics_said ts next conn (Put v) = with_put ts conn v.id v.time v.value
topics_said ts next conn m = ts

abbrev pub next_said : List Topic → ℕ → Msg → ℕ
next_said ts next (Control (Publish name uid typ props)) = next_after ts next name
next_said ts next m = next

abbrev pub changes_said : List Topic → ℕ → ℕ → Msg → List Change
changes_said ts next conn (Control (Publish name uid typ props)) = publish_changes ts next name typ props
changes_said ts next conn (Control (Unpublish uid)) = unpublish_changes ts conn uid
changes_said ts next conn (Control (SetProps name update)) = update_changes ts name update
changes_said ts next conn (Put v) = put_changes ts conn v.id v.time v.value
changes_said ts next conn m = []

-- the sender of a publish is answered, and a topic that it began is wanted from then on
abbrev pub published_to : ℕ → Option Topic → ℤ → Bool → (List ℕ → Wanted) → OutboxState → OutboxState
published_to place None uid begins wish b = b
published_to place (Some t) uid begins wish b =
    let answered = replied_publish_to place t uid b in
    if begins then rewanted_to place t 0 No (wish t.name) answered else answered

-- the sender of a change of properties is answered, where the topic lives on
abbrev pub set_to : ℕ → Option Topic → ClientMsg → OutboxState → OutboxState
set_to place (Some t) (SetProps name update) b = replied_setting_to place t update b
set_to place t m b = b

-- what the sender is told, over the topics after its message and its changes. What it did itself it is answered, and
-- isn't told besides
abbrev pub sender_noted : ℕ → List Topic → Msg → List Change → Open → Open
sender_noted place ts (Control (Publish name uid typ props)) changes o =
    with_outbox (published_to place (find (is_named name) ts) uid (not (is_empty changes)) (wanted o.subs) o.outbox) o
sender_noted place ts (Control (SetProps name update)) changes o =
    with_outbox (noted_all place ts (wanted o.subs) (filter is_end changes)
    (set_to place (find (is_named name) ts) (SetProps name update) o.outbox)) o
sender_noted place ts m changes o = changes_noted place ts changes o

abbrev pub message_noted : ℕ → List Topic → ℕ → Msg → List Change → Open → Open
message_noted place ts conn m changes o =
    if is_number conn o then sender_noted place ts m changes o else changes_noted place ts changes o

-- the id of a topic that turned, as it was before and is after
abbrev pub turned_of : Option Topic → Option Topic → Option ℕ
turned_of (Some before) (Some after) = if is_turned before.props after.props then Some after.id else None
turned_of before after = None

-- that of the topic that a message turns, by the topics before and after it
abbrev pub turned_id : List Topic → List Topic → Msg → Option ℕ
turned_id before after (Control (SetProps name update)) =
    turned_of (find (is_named name) before) (find (is_named name) after)
turned_id before after m = None

-- a turn is told to each connection, before anything else at its place. A topic that ends by the same update has none
abbrev pub turn_noted : ℕ → Option ℕ → Open → Open
turn_noted place None o = o
turn_noted place (Some id) o = with_outbox (turned_to place id o.outbox) o

-- ---- subscriptions

-- an outbox is told of another wish for each topic
abbrev pub rewanted_all : ℕ → List Taken → (List ℕ → Wanted) → (List ℕ → Wanted) → List Topic → OutboxState
    → OutboxState
rewanted_all place taken old wish [] b = b
rewanted_all place taken old wish (t ∷ ts) b =
    rewanted_all place taken old wish ts (rewanted_to place t (taken_at t.id taken) (old t.name) (wish t.name) b)

abbrev pub meta_rewanted_all : ℕ → (List ℕ → Wanted) → (List ℕ → Wanted) → List MetaNow → OutboxState → OutboxState
meta_rewanted_all place old wish [] b = b
meta_rewanted_all place old wish (m ∷ ms) b =
    meta_rewanted_all place old wish ms (meta_rewanted place m (old m.name) (wish m.name) b)

abbrev pub with_subs_of : ℕ → Subs → List Open → List Open
with_subs_of conn subs opens = map (λ o. if is_number conn o then record o { subs = subs } else o) opens

-- the connections, where one of them, that had these subscriptions, has other ones
abbrev pub rewanting : ℕ → List Taken → List Topic → List MetaNow → ℕ → Subs → List Open → List Open
rewanting place taken ts ms conn old opens =
    map (λ o. if is_number conn o
    then with_outbox (meta_rewanted_all place (wanted old) (wanted o.subs) ms
    (rewanted_all place taken (wanted old) (wanted o.subs) ts o.outbox)) o
    else o) opens

abbrev pub subscribed : State → ℕ → ℕ → Subs → State
subscribed s place conn subs =
    let opens = with_subs_of conn subs s.opens in
    record s {
      opens = refreshed place (open_metas s.opens s.topics) s.topics
          (rewanting place s.taken s.topics (open_metas opens s.topics) conn (subs_at s.opens conn) opens);
    }

-- ---- acts

-- whether a message may change what the meta topics tell
abbrev pub is_structural : Msg → Bool
is_structural (Control m) = true
is_structural (Put v) = false

abbrev pub if_structural : Msg → ℕ → List MetaNow → List Topic → List Open → List Open
if_structural (Control m) place before ts opens = refreshed place before ts opens
if_structural (Put v) place before ts opens = opens

-- a message that counts, but for subscriptions
abbrev pub counted : State → ℕ → ℕ → Msg → State
counted s place conn m =
    let changes = changes_said s.topics s.next conn m in
    let ts = topics_said s.topics s.next conn m in
    record s {
      opens = if_structural m place (open_metas s.opens s.topics) ts
          (map (λ o. message_noted place ts conn m changes (turn_noted place (turned_id s.topics ts m) o)) s.opens);
      topics = ts;
      next = next_said s.topics s.next m;
      taken = taken_after place ts changes s.taken;
    }

abbrev pub said_to : State → ℕ → ℕ → Msg → State
said_to s place conn (Control (Subscribe uid sub)) = subscribed s place conn (with_sub uid sub (subs_at s.opens conn))
said_to s place conn (Control (Unsubscribe uid)) = subscribed s place conn (without_sub uid (subs_at s.opens conn))
said_to s place conn m = counted s place conn m

abbrev pub if_taken : Option Cause → State → State → State
if_taken None after before = after
if_taken (Some cause) after before = before

abbrev pub opened_by : State → ℕ → ℕ → List ℕ → State
opened_by s place worker name =
    let opens = s.opens ++ record {
      conn = s.opened + 1;
      worker = worker;
      name = given_name (given_names s.opens) name;
      subs = [];
      outbox = nothing_owed;
    } ∷ [] in
    record s { opened = s.opened + 1; opens = refreshed place (open_metas s.opens s.topics) s.topics opens }

abbrev pub closed_by : State → ℕ → ℕ → State
closed_by s place conn =
    let changes = drop_changes s.topics conn in
    let ts = dropped s.topics conn in
    record s {
      opens = refreshed place (open_metas s.opens s.topics) ts
          (map (changes_noted place ts changes) (filter (λ o. not (is_number conn o)) s.opens));
      topics = ts;
      taken = taken_after place ts changes s.taken;
    }

-- a drain of a connection that fell behind changes nothing
abbrev pub drained_by : ℕ → OutboxState → OutboxState
drained_by budget b = by_weight (behind b)
  where
    by_weight : Option ℕ → OutboxState
    by_weight None = drained budget b
    by_weight (Some weight) = b

abbrev pub drained_from : ℕ → ℕ → Open → Open
drained_from conn budget o = if is_number conn o then with_outbox (drained_by budget o.outbox) o else o

abbrev pub may_grant : State → Bool
may_grant s = nat_lt s.granted s.permits && not s.shut

-- what an act at a place changes
abbrev pub acted_at : State → ℕ → ℕ → Act → State
acted_at s place worker (act.Open name version) =
    if nat_le last_connection s.opened then s else opened_by s place worker name
acted_at s place worker (act.Said conn m) = if_taken (cause_at s worker conn m) (said_to s place conn m) s
acted_at s place worker (act.Drain conn budget) =
    if serves s.opens worker conn then record s { opens = map (drained_from conn budget) s.opens } else s
acted_at s place worker (act.Close conn) = if serves s.opens worker conn then closed_by s place conn else s
acted_at s place worker act.Permit = if may_grant s then record s { granted = s.granted + 1 } else s
acted_at s place worker act.Shut = record s { shut = true }

-- what is kept after an act
abbrev pub acted : State → ℕ → ℕ → Act → State
acted s worker now a =
    record (acted_at s (s.place + 1) worker a) { place = s.place + 1; moment = max s.moment now }

-- ---- answers

abbrev pub drained_answer : State → ℕ → ℕ → ℕ → StepOut
drained_answer s moment conn budget =
    let b = outbox_at s.opens conn in
    drained_out (behind b)
    (drained_batch (record { topics = s.topics; metas = open_metas s.opens s.topics }) moment budget b)

abbrev pub reply : State → ℕ → ℕ → Act → StepOut
reply s worker now (act.Open name version) =
    if nat_le last_connection s.opened
    then out.Ignored ConnsSpent
    else out.Opened (s.opened + 1) (given_name (given_names s.opens) name)
reply s worker now (act.Said conn m) = said_out (cause_at s worker conn m)
reply s worker now (act.Drain conn budget) =
    if serves s.opens worker conn
    then drained_answer s (max s.moment now) conn budget
    else out.Ignored NoConn
reply s worker now (act.Close conn) = if serves s.opens worker conn then out.Closed else out.Ignored NoConn
reply s worker now act.Permit = if may_grant s then out.Permitted else out.NoPermit
reply s worker now act.Shut = out.Shut

-- ---- the changes that an act makes

abbrev pub if_counted : Option Cause → List Change → List Change
if_counted None changes = changes
if_counted (Some cause) changes = []

abbrev pub changes_by : State → ℕ → Act → List Change
changes_by s worker (act.Said conn m) = if_counted (cause_at s worker conn m) (changes_said s.topics s.next conn m)
changes_by s worker (act.Close conn) = if serves s.opens worker conn then drop_changes s.topics conn else []
changes_by s worker a = []
