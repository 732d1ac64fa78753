-- What an outbox keeps under ids below the first meta topic: what it is told of client topics keeps all ids there.
use Rattle.std.proofs.Common.{◌≡◌, ◌<◌, ◌==◌, ◌^◌, not, ℕ, ℤ, pos, negsuc, Bool, true, false, cond, ltb}
use Rattle.std.proofs.Common.{List, [], ◌∷◌, Option, Some, None, map, filter, refl, sym, subst}
use Rattle.std.specs.Prelude.{is_some}
use Rattle.std.specs.List.{AllByRecursion, list_any, find}
use Rattle.std.proofs.lemmas.Option.{none-some, same_Some}
use Rattle.nt_subs.specs.declared.wish.Wanted.{Wanted}
use Rattle.nt_subs.specs.Wishes.{wanted}
use Rattle.nt_control.specs.declared.message.ClientMsg.TheVariants.{Publish, Unpublish, SetProps, Subscribe}
use Rattle.nt_control.specs.declared.message.ClientMsg.TheVariants.{Unsubscribe}
use Rattle.nt_rules.specs.Limits.{first_meta}
use Rattle.nt_rules.specs.declared.topic.Topic.{Topic}
use Rattle.nt_rules.specs.declared.topic.Change.{Change}
use Rattle.nt_rules.specs.declared.topic.Change.TheVariants as change
use Rattle.nt_rules.specs.topics.Topics.{is_named, has_publisher, lives_on, outlives, is_turned, with_update}
use Rattle.nt_rules.specs.topics.Topics as table
use Rattle.nt_rules.specs.topics.Changes.{if_found, end_of, update_change, put_change, drop_changes}
use Rattle.nt_rules.specs.topics.Changes as told
use Rattle.nt_rules.specs.outbox.Keys.{Key}
use Rattle.nt_rules.specs.outbox.Marks.{Mark, fresh, is_blank, is_empty, unless_blank, at_id, handed, handed_all}
use Rattle.nt_rules.specs.outbox.Calls.{OutboxState, behind, unless_behind, with_call, reached, id_of, handed_keys}
use Rattle.nt_rules.specs.declared.act.Msg.{Msg}
use Rattle.nt_rules.specs.declared.act.Msg.TheVariants as msg
use Rattle.nt_rules.specs.declared.taken.Taken.{Taken}
use Rattle.nt_rules.specs.history.State.{Open, is_end, is_number, cached_in, noted_all, changes_noted, published_to}
use Rattle.nt_rules.specs.history.State.{set_to, sender_noted, message_noted, turn_noted, turned_of, turned_id}
use Rattle.nt_rules.specs.history.State.{rewanted_all, changes_said, drained_by, drained_from}
use Rattle.nt_laws.specs.Ids.{AreLow, AreLowTopics, IsLowNumber, IsLowChange, AreLowChanges}
use Rattle.nt_laws.proofs.marks.ClientIds.{IsClient, AreClient}
use Rattle.nt_laws.proofs.outboxes.OutboxCalls.{Op, at_op, called_all, KeepIds, change_op, change_ops, noted-calls}
use Rattle.nt_laws.proofs.outboxes.OutboxCalls.{keep-changes, turn_ops, keep-turn, publish_ops}
use Rattle.nt_laws.proofs.outboxes.OutboxCalls.{published-calls, keep-publish, setting_ops, set-calls, keep-setting}
use Rattle.nt_laws.proofs.outboxes.OutboxCalls.{rewanted_op, rewanted-calls, keep-rewanted}

-- ---- lists

-- what holds of each item holds of the one that is found
each-found : {X : Type 0} (P : X → Type 0) (test : X → Bool) (xs : List X) → AllByRecursion P xs
    → (Q : Option X → Type 0) → Q None → ((x : X) → P x → Q (Some x)) → Q (find test xs)
each-found P test [] each Q none some = none
each-found P test (x ∷ xs) each Q none some = by (test x) (each-found P test xs each.1 Q none some)
  where
    by : (b : Bool) → Q (find test xs) → Q (cond b (Some x) (find test xs))
    by true more = some x each.0
    by false more = more

each-filter : {X : Type 0} (P : X → Type 0) (test : X → Bool) (xs : List X) → AllByRecursion P xs
    → AllByRecursion P (filter test xs)
each-filter P test [] each = tt
each-filter P test (x ∷ xs) each = by (test x) (each-filter P test xs each.1)
  where
    by : (b : Bool) → AllByRecursion P (filter test xs)
        → AllByRecursion P (cond b (x ∷ filter test xs) (filter test xs))
    by true more = (each.0, more)
    by false more = more

low-found : (test : Topic → Bool) (ts : List Topic) → AreLowTopics ts → (Q : Option Topic → Type 0) → Q None
    → ((t : Topic) → t.id < first_meta → Q (Some t)) → Q (find test ts)
low-found test ts low Q none some = each-found (λ (t : Topic). t.id < first_meta) test ts low Q none some

-- ---- a change at an id, and a call

low-kept : (m : Mark) (marks : List Mark) → m.id < first_meta → AreLow marks → AreLow (unless_blank m marks)
low-kept m marks less low = by (is_blank m)
  where
    by : (b : Bool) → AreLow (cond b marks (m ∷ marks))
    by true = low
    by false = (less, low)

pub low-at : (id : ℕ) (name : List ℕ) (f : Mark → Mark) → ((m : Mark) → (f m).id ≡ m.id) → id < first_meta
    → (marks : List Mark) → AreLow marks → AreLow (at_id id name f marks)
low-at id name f keeps less [] low =
    low-kept (f (fresh id name)) [] (subst (λ n. n < first_meta) (sym (keeps (fresh id name))) less) tt
low-at id name f keeps less (m ∷ marks) low =
    by (m.id == id) (ltb id m.id) (low-at id name f keeps less marks low.1)
  where
    by : (here before : Bool) → AreLow (at_id id name f marks)
        → AreLow (cond here (unless_blank (f m) marks)
        (cond before (unless_blank (f (fresh id name)) (m ∷ marks)) (m ∷ at_id id name f marks)))
    by true before more = low-kept (f m) marks (subst (λ n. n < first_meta) (sym (keeps m)) low.0) low.1
    by false true more =
        low-kept (f (fresh id name)) (m ∷ marks)
        (subst (λ n. n < first_meta) (sym (keeps (fresh id name))) less) low
    by false false more = (low.0, more)

low-unless : (fell : Option ℕ) (marks : List Mark) → AreLow marks → AreLow (unless_behind fell marks)
low-unless None marks low = low
low-unless (Some w) marks low = tt

low-emptied : (fell : Option ℕ) (marks : List Mark) → AreLow marks → AreLow (cond (is_some fell) [] marks)
low-emptied None marks low = low
low-emptied (Some w) marks low = tt

pub low-call : (place : ℕ) (f : List Mark → List Mark) (b : OutboxState)
    → ((marks : List Mark) → AreLow marks → AreLow (f marks))
    → AreLow b.marks → AreLow (with_call place f b).marks
low-call place f b keeps low = by (ltb b.place place)
  where
    came : Bool → OutboxState
    came later = cond later (record b { place = place; fell = behind b; marks = unless_behind (behind b) b.marks }) b

    by : (later : Bool) → AreLow (cond (is_some (came later).fell) [] (f (came later).marks))
    by true =
        low-emptied (behind b) (f (unless_behind (behind b) b.marks))
        (keeps (unless_behind (behind b) b.marks) (low-unless (behind b) b.marks low))
    by false = low-emptied b.fell (f b.marks) (keeps b.marks low)

pub low-reached : (place : ℕ) (b : OutboxState) → AreLow b.marks → AreLow (reached place b).marks
low-reached place b low = low-call place (λ marks. marks) b (λ marks h. h) low

-- calls at ids of client topics
pub low-called : (place : ℕ) (ops : List Op) (b : OutboxState) → KeepIds ops → AreClient ops → AreLow b.marks
    → AreLow (called_all place ops b).marks
low-called place [] b keep client low = low
low-called place (o ∷ ops) b keep client low =
    low-called place ops (with_call place (at_op o) b) keep.1 client.1
    (low-call place (at_op o) b (by o.id client.0) low)
  where
    by : (id : Option ℕ) → IsClient id → (marks : List Mark) → AreLow marks
        → AreLow (at_op (record { id = id; name = o.name; f = o.f }) marks)
    by None h marks low = low
    by (Some id) h marks low = low-at id o.name o.f keep.0 h marks low

-- ---- changes of topics

low-id : (id : ℤ) → IsLowNumber id → IsClient (id_of id)
low-id (pos n) less = by (ltb n (2 ^ 32))
  where
    by : (b : Bool) → IsClient (cond b (Some n) None)
    by true = less
    by false = tt
low-id (negsuc n) h = tt

low-ops : (place : ℕ) (cached : List ℕ → Bool) (wish : List ℕ → Wanted) (changes : List Change)
    → AreLowChanges changes → AreClient (change_ops place cached wish changes)
low-ops place cached wish [] h = tt
low-ops place cached wish (c ∷ changes) h = (by c h.0, low-ops place cached wish changes h.1)
  where
    by : (c : Change) → IsLowChange c → IsClient (change_op place cached wish c).id
    by (change.Started id name typ props) h = low-id id h
    by (change.Changed id name time value) h = low-id id h
    by (change.Props id name update) h = low-id id h
    by (change.Ended id name) h = low-id id h

pub low-noted-all : (place : ℕ) (ts : List Topic) (wish : List ℕ → Wanted) (changes : List Change) (b : OutboxState)
    → AreLowChanges changes → AreLow b.marks → AreLow (noted_all place ts wish changes b).marks
low-noted-all place ts wish changes b h low =
    subst (λ (x : OutboxState). AreLow x.marks) (sym (noted-calls place ts wish changes b))
    (low-called place (change_ops place (cached_in ts) wish changes) b
    (keep-changes place (cached_in ts) wish changes) (low-ops place (cached_in ts) wish changes h) low)

pub low-changes-noted : (place : ℕ) (ts : List Topic) (changes : List Change) (o : Open) → AreLowChanges changes
    → AreLow o.outbox.marks → AreLow (changes_noted place ts changes o).outbox.marks
low-changes-noted place ts changes o h low = low-noted-all place ts (wanted o.subs) changes o.outbox h low

-- ---- what a message tells

low-published : (place : ℕ) (found : Option Topic) (uid : ℤ) (begins : Bool) (wish : List ℕ → Wanted)
    (b : OutboxState)
    → AreClient (publish_ops place found uid begins wish)
    → AreLow b.marks → AreLow (published_to place found uid begins wish b).marks
low-published place found uid begins wish b client low =
    subst (λ (x : OutboxState). AreLow x.marks) (sym (published-calls place found uid begins wish b))
    (low-called place (publish_ops place found uid begins wish) b (keep-publish place found uid begins wish) client low)

low-sender : (place : ℕ) (ts : List Topic) (m : Msg) (changes : List Change) (o : Open) → AreLowTopics ts
    → AreLowChanges changes → AreLow o.outbox.marks → AreLow (sender_noted place ts m changes o).outbox.marks
low-sender place ts (msg.Control (Publish name uid typ props)) changes o topics h low =
    low-published place (find (is_named name) ts) uid begins (wanted o.subs) o.outbox
    (low-found (is_named name) ts topics (λ found. AreClient (publish_ops place found uid begins (wanted o.subs))) tt
    (λ t less. by t less begins)) low
  where
    begins : Bool
    begins = not (is_empty changes)

    by : (t : Topic) → t.id < first_meta → (b : Bool) → AreClient (publish_ops place (Some t) uid b (wanted o.subs))
    by t less true = (less, (less, tt))
    by t less false = (less, tt)
low-sender place ts (msg.Control (SetProps name update)) changes o topics h low =
    low-noted-all place ts (wanted o.subs) (filter is_end changes)
    (set_to place (find (is_named name) ts) (SetProps name update) o.outbox)
    (each-filter IsLowChange is_end changes h)
    (subst (λ (x : OutboxState). AreLow x.marks) (sym (set-calls place (find (is_named name) ts) name update o.outbox))
    (low-called place (setting_ops place (find (is_named name) ts) update) o.outbox
    (keep-setting place (find (is_named name) ts) update)
    (low-found (is_named name) ts topics (λ found. AreClient (setting_ops place found update)) tt
    (λ t less. (less, tt))) low))
low-sender place ts (msg.Control (Unpublish uid)) changes o topics h low = low-changes-noted place ts changes o h low
low-sender place ts (msg.Control (Subscribe uid sub)) changes o topics h low =
    low-changes-noted place ts changes o h low
low-sender place ts (msg.Control (Unsubscribe uid)) changes o topics h low =
    low-changes-noted place ts changes o h low
low-sender place ts (msg.Put v) changes o topics h low = low-changes-noted place ts changes o h low

low-message : (place : ℕ) (ts : List Topic) (conn : ℕ) (m : Msg) (changes : List Change) (o : Open) → AreLowTopics ts
    → AreLowChanges changes → AreLow o.outbox.marks → AreLow (message_noted place ts conn m changes o).outbox.marks
low-message place ts conn m changes o topics h low = by (is_number conn o)
  where
    by : (b : Bool)
        → AreLow (cond b (sender_noted place ts m changes o) (changes_noted place ts changes o)).outbox.marks
    by true = low-sender place ts m changes o topics h low
    by false = low-changes-noted place ts changes o h low

low-turn : (place : ℕ) (turned : Option ℕ) (o : Open) → ((id : ℕ) → turned ≡ Some id → id < first_meta)
    → AreLow o.outbox.marks → AreLow (turn_noted place turned o).outbox.marks
low-turn place None o less low = low
low-turn place (Some id) o less low =
    low-called place (turn_ops (Some id)) o.outbox (keep-turn (Some id)) (less id refl, tt) low

pub low-told : (place : ℕ) (ts : List Topic) (conn : ℕ) (m : Msg) (changes : List Change) (turned : Option ℕ)
    (o : Open)
    → AreLowTopics ts → AreLowChanges changes
    → ((id : ℕ) → turned ≡ Some id → id < first_meta)
    → AreLow o.outbox.marks
    → AreLow (message_noted place ts conn m changes (turn_noted place turned o)).outbox.marks
low-told place ts conn m changes turned o topics h less low =
    low-message place ts conn m changes (turn_noted place turned o) topics h (low-turn place turned o less low)

-- ---- another wish

pub low-rewanted-all : (place : ℕ) (taken : List Taken) (old wish : List ℕ → Wanted) (ts : List Topic)
    (b : OutboxState)
    → AreLowTopics ts → AreLow b.marks → AreLow (rewanted_all place taken old wish ts b).marks
low-rewanted-all place taken old wish ts b topics low =
    subst (λ (x : OutboxState). AreLow x.marks) (sym (rewanted-calls place taken old wish ts b))
    (low-called place (map (rewanted_op taken old wish) ts) b (keep-rewanted taken old wish ts) (client ts topics) low)
  where
    client : (ts : List Topic) → AreLowTopics ts → AreClient (map (rewanted_op taken old wish) ts)
    client [] h = tt
    client (t ∷ ts) h = (h.0, client ts h.1)

-- ---- a drain

low-handed : (keys : List Key) (marks : List Mark) → AreLow marks → AreLow (handed_all keys marks)
low-handed keys marks low =
    each-filter (λ (m : Mark). m.id < first_meta) (λ m. not (is_blank m)) (map (handed keys) marks) (by marks low)
  where
    by : (marks : List Mark) → AreLow marks → AreLow (map (handed keys) marks)
    by [] low = tt
    by (m ∷ marks) low = (low.0, by marks low.1)

low-drained-by : (budget : ℕ) (b : OutboxState) → AreLow b.marks → AreLow (drained_by budget b).marks
low-drained-by budget b low = by (behind b) refl
  where
    by : (fell : Option ℕ) → behind b ≡ fell → AreLow (drained_by budget b).marks
    by None e = rw e (low-handed (handed_keys budget b) b.marks low)
    by (Some w) e = rw e low

pub low-drained : (conn budget : ℕ) (o : Open) → AreLow o.outbox.marks
    → AreLow (drained_from conn budget o).outbox.marks
low-drained conn budget o low = by (is_number conn o)
  where
    by : (b : Bool) → AreLow (cond b (record o { outbox = drained_by budget o.outbox }) o).outbox.marks
    by true = low-drained-by budget o.outbox low
    by false = low

-- ---- the changes of a message, and of the end of a connection

low-end : (t : Topic) → t.id < first_meta → AreLowChanges (end_of t)
low-end t less = by (lives_on t)
  where
    by : (b : Bool) → AreLowChanges (cond b [] (told.ended t ∷ []))
    by true = tt
    by false = (less, tt)

pub low-changes : (ts : List Topic) (next conn : ℕ) (m : Msg) → AreLowTopics ts → next < first_meta
    → AreLowChanges (changes_said ts next conn m)
low-changes ts next conn (msg.Control (Publish name uid typ props)) low less = by (list_any (is_named name) ts)
  where
    by : (b : Bool) → AreLowChanges (cond b [] (change.Started (pos next) name typ props ∷ []))
    by true = tt
    by false = (less, tt)
low-changes ts next conn (msg.Control (Unpublish uid)) low less =
    low-found (has_publisher conn uid) ts low
    (λ found. AreLowChanges (if_found (λ t. end_of (table.without_publisher conn uid t)) found)) tt
    (λ t h. low-end (table.without_publisher conn uid t) h)
low-changes ts next conn (msg.Control (SetProps name update)) low less =
    low-found (is_named name) ts low (λ found. AreLowChanges (if_found (update_change update) found)) tt
    (λ t h. (h, low-end (with_update update t) h))
low-changes ts next conn (msg.Control (Subscribe uid sub)) low less = tt
low-changes ts next conn (msg.Control (Unsubscribe uid)) low less = tt
low-changes ts next conn (msg.Put v) low less =
    low-found (has_publisher conn v.id) ts low
    (λ found. AreLowChanges (if_found (put_change v.time v.value) found)) tt
    (λ t h. (h, tt))

pub low-drop : (ts : List Topic) (conn : ℕ) → AreLowTopics ts → AreLowChanges (drop_changes ts conn)
low-drop ts conn low =
    ends (filter (λ t. not (outlives conn t)) ts)
    (each-filter (λ (t : Topic). t.id < first_meta) (λ t. not (outlives conn t)) ts low)
  where
    ends : (ts : List Topic) → AreLowTopics ts → AreLowChanges (map told.ended ts)
    ends [] low = tt
    ends (t ∷ ts) low = (low.0, ends ts low.1)

-- ---- a topic that turns is one of those after it

pub low-turned : (before after : List Topic) (m : Msg) (id : ℕ) → AreLowTopics after
    → turned_id before after m ≡ Some id → id < first_meta
low-turned before after (msg.Control (Publish name uid typ props)) id low e = absurd (none-some id e)
low-turned before after (msg.Control (Unpublish uid)) id low e = absurd (none-some id e)
low-turned before after (msg.Control (Subscribe uid sub)) id low e = absurd (none-some id e)
low-turned before after (msg.Control (Unsubscribe uid)) id low e = absurd (none-some id e)
low-turned before after (msg.Put v) id low e = absurd (none-some id e)
low-turned before after (msg.Control (SetProps name update)) id low e =
    low-found (is_named name) after low
    (λ found. turned_of (find (is_named name) before) found ≡ Some id → id < first_meta)
    (none (find (is_named name) before)) (λ t h. some t h (find (is_named name) before)) e
  where
    none : (was : Option Topic) → turned_of was None ≡ Some id → id < first_meta
    none None e = absurd (none-some id e)
    none (Some t) e = absurd (none-some id e)

    some : (t : Topic) → t.id < first_meta → (was : Option Topic) → turned_of was (Some t) ≡ Some id → id < first_meta
    some t h None e = absurd (none-some id e)
    some t h (Some was) e = by (is_turned was.props t.props) e
      where
        by : (b : Bool) → cond b (Some t.id) None ≡ Some id → id < first_meta
        by true e = subst (λ n. n < first_meta) (same_Some t.id id e) h
        by false e = absurd (none-some id e)
