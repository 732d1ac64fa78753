-- What an outbox is told of client topics are changes at ids below the first meta topic.
use Rattle.std.proofs.Common.{◌≡◌, ◌<◌, ◌≤◌, ◌+◌, ◌^◌, not, ℕ, ℤ, pos, negsuc, suc, Bool, true, false, cond, ltb}
use Rattle.std.proofs.Common.{List}
use Rattle.std.proofs.Common.{[], ◌∷◌, ◌++◌, Option, Some, None, map, filter, length, refl, subst, arith}
use Rattle.std.specs.List.{list_any, find, cons_option}
use Rattle.std.proofs.lemmas.Bool.Decides.{nat_tests}
use Rattle.std.proofs.lemmas.Option.{none-some, same_Some}
use Rattle.nt_subs.specs.declared.wish.Wanted.{Wanted}
use Rattle.nt_control.specs.declared.message.ClientMsg.TheVariants.{Publish, Unpublish, SetProps, Subscribe}
use Rattle.nt_control.specs.declared.message.ClientMsg.TheVariants.{Unsubscribe}
use Rattle.nt_rules.specs.Limits.{first_meta}
use Rattle.nt_rules.specs.declared.topic.Topic.{Topic}
use Rattle.nt_rules.specs.declared.topic.Change.{Change}
use Rattle.nt_rules.specs.declared.topic.Change.TheVariants as change
use Rattle.nt_rules.specs.topics.Topics.{is_named, has_publisher, lives_on, outlives, is_turned, with_update}
use Rattle.nt_rules.specs.topics.Topics as table
use Rattle.nt_rules.specs.topics.Changes.{if_found, end_of, ended, update_change, put_change, drop_changes}
use Rattle.nt_rules.specs.outbox.Marks.{is_empty}
use Rattle.nt_rules.specs.outbox.Calls.{id_of}
use Rattle.nt_rules.specs.declared.act.Msg.{Msg}
use Rattle.nt_rules.specs.declared.act.Msg.TheVariants as msg
use Rattle.nt_rules.specs.declared.taken.Taken.{Taken}
use Rattle.nt_rules.specs.history.Lives.{Life, is_living, topic_of, topics}
use Rattle.nt_rules.specs.history.State.{is_end, cached_in, changes_said, turned_of, turned_id}
use Rattle.nt_laws.proofs.histories.Facts.{IsNumberedLives}
use Rattle.nt_laws.proofs.outboxes.OutboxCalls.{Op, is_id, NoneAt, change_op, change_ops, publish_ops, setting_ops}
use Rattle.nt_laws.proofs.outboxes.OutboxCalls.{turn_ops, rewanted_op}
use Rattle.nt_laws.proofs.outboxes.MessageCalls.{message_ops, said_ops}

-- ---- changes at ids of client topics

abbrev pub IsClient : Option ℕ → Type 0
IsClient None = Unit {0}
IsClient (Some id) = id < first_meta

abbrev pub AreClient : List Op → Type 0
AreClient [] = Unit {0}
AreClient (o ∷ ops) = IsClient o.id × AreClient ops

pub none-client : (k : ℕ) (ops : List Op) → first_meta ≤ k → AreClient ops → NoneAt k ops
none-client k [] le h = tt
none-client k (o ∷ ops) le h = (by o.id h.0, none-client k ops le h.1)
  where
    by : (id : Option ℕ) → IsClient id → is_id k id ≡ false
    by None less = refl
    by (Some id) less = grind (arith, nat_tests)

append-client : (xs ys : List Op) → AreClient xs → AreClient ys → AreClient (xs ++ ys)
append-client [] ys h k = k
append-client (x ∷ xs) ys h k = (h.0, append-client xs ys h.1 k)

-- ---- topics and changes with such ids

abbrev pub AreLow : List Topic → Type 0
AreLow [] = Unit {0}
AreLow (t ∷ ts) = (t.id < first_meta) × AreLow ts

pub low-topics : (k : ℕ) (lives : List Life) → IsNumberedLives k lives → k + length lives ≤ first_meta
    → AreLow (topics lives)
low-topics k [] h le = tt
low-topics k (l ∷ lives) h le = by (is_living l) (low-topics (suc k) lives h.1 (omega arith))
  where
    by : (b : Bool) → AreLow (topics lives)
        → AreLow (cons_option (cond b (Some (topic_of l)) None) (topics lives))
    by true more = (let e = h.0 in omega arith, more)
    by false more = more

low-found : (test : Topic → Bool) (ts : List Topic) → AreLow ts → (P : Option Topic → Type 0) → P None
    → ((t : Topic) → t.id < first_meta → P (Some t)) → P (find test ts)
low-found test [] low P none some = none
low-found test (t ∷ ts) low P none some = by (test t) (low-found test ts low.1 P none some)
  where
    by : (b : Bool) → P (find test ts) → P (cond b (Some t) (find test ts))
    by true more = some t low.0
    by false more = more

pub low-one : (test : Topic → Bool) (ts : List Topic) → AreLow ts → (t : Topic) → find test ts ≡ Some t
    → t.id < first_meta
low-one test ts low t =
    low-found test ts low (λ o. o ≡ Some t → t.id < first_meta) (λ e. absurd (none-some t e))
    (λ s h e. subst (λ (x : Topic). x.id < first_meta) (same_Some s t e) h)

abbrev IsLow : ℤ → Type 0
IsLow (pos n) = n < first_meta
IsLow (negsuc n) = Unit {0}

abbrev LowChange : Change → Type 0
LowChange (change.Started id name typ props) = IsLow id
LowChange (change.Changed id name time value) = IsLow id
LowChange (change.Props id name update) = IsLow id
LowChange (change.Ended id name) = IsLow id

abbrev LowChanges : List Change → Type 0
LowChanges [] = Unit {0}
LowChanges (c ∷ changes) = LowChange c × LowChanges changes

low-id : (id : ℤ) → IsLow id → IsClient (id_of id)
low-id (pos n) less = by (ltb n (2 ^ 32))
  where
    by : (b : Bool) → IsClient (cond b (Some n) None)
    by true = less
    by false = tt
low-id (negsuc n) h = tt

low-ops : (place : ℕ) (cached : List ℕ → Bool) (wish : List ℕ → Wanted) (changes : List Change)
    → LowChanges changes
    → AreClient (change_ops place cached wish changes)
low-ops place cached wish [] h = tt
low-ops place cached wish (c ∷ changes) h = (by c h.0, low-ops place cached wish changes h.1)
  where
    by : (c : Change) → LowChange c → IsClient (change_op place cached wish c).id
    by (change.Started id name typ props) h = low-id id h
    by (change.Changed id name time value) h = low-id id h
    by (change.Props id name update) h = low-id id h
    by (change.Ended id name) h = low-id id h

low-filter : (test : Change → Bool) (changes : List Change) → LowChanges changes
    → LowChanges (filter test changes)
low-filter test [] h = tt
low-filter test (c ∷ changes) h = by (test c) (low-filter test changes h.1)
  where
    by : (b : Bool) → LowChanges (filter test changes)
        → LowChanges (cond b (c ∷ filter test changes) (filter test changes))
    by true more = (h.0, more)
    by false more = more

low-end : (t : Topic) → t.id < first_meta → LowChanges (end_of t)
low-end t less = by (lives_on t)
  where
    by : (b : Bool) → LowChanges (cond b [] (ended t ∷ []))
    by true = tt
    by false = (less, tt)

low-changes : (ts : List Topic) → AreLow ts → (next : ℕ) → next < first_meta → (conn : ℕ) (m : Msg)
    → LowChanges (changes_said ts next conn m)
low-changes ts low next less conn (msg.Control (Publish name uid typ props)) =
    by (list_any (is_named name) ts)
  where
    by : (b : Bool) → LowChanges (cond b [] (change.Started (pos next) name typ props ∷ []))
    by true = tt
    by false = (less, tt)
low-changes ts low next less conn (msg.Control (Unpublish uid)) =
    low-found (has_publisher conn uid) ts low
    (λ o. LowChanges (if_found (λ t. end_of (table.without_publisher conn uid t)) o)) tt
    (λ t h. low-end (table.without_publisher conn uid t) h)
low-changes ts low next less conn (msg.Control (SetProps name update)) =
    low-found (is_named name) ts low (λ o. LowChanges (if_found (update_change update) o)) tt
    (λ t h. (h, low-end (with_update update t) h))
low-changes ts low next less conn (msg.Control (Subscribe uid sub)) = tt
low-changes ts low next less conn (msg.Control (Unsubscribe uid)) = tt
low-changes ts low next less conn (msg.Put v) =
    low-found (has_publisher conn v.id) ts low (λ o. LowChanges (if_found (put_change v.time v.value) o)) tt
    (λ t h. (h, tt))

-- ---- what is told

low-message : (place : ℕ) (cached : List ℕ → Bool) (wish : List ℕ → Wanted) (ts after : List Topic) → AreLow ts
    → AreLow after → (next : ℕ) → next < first_meta → (conn : ℕ) (m : Msg) (own : Bool)
    → AreClient (message_ops place cached wish after (changes_said ts next conn m) own m)
low-message place cached wish ts after low still next less conn m false =
    low-ops place cached wish (changes_said ts next conn m) (low-changes ts low next less conn m)
low-message place cached wish ts after low still next less conn (msg.Control (Publish name uid typ props)) true =
    low-found (is_named name) after still (λ o. AreClient (publish_ops place o uid begins wish)) tt
    (λ t h. by t h begins)
  where
    begins : Bool
    begins = not (is_empty (changes_said ts next conn (msg.Control (Publish name uid typ props))))

    by : (t : Topic) → t.id < first_meta → (b : Bool) → AreClient (publish_ops place (Some t) uid b wish)
    by t h true = (h, (h, tt))
    by t h false = (h, tt)
low-message place cached wish ts after low still next less conn (msg.Control (SetProps name update)) true =
    append-client (setting_ops place (find (is_named name) after) update)
    (change_ops place cached wish (filter is_end changes))
    (low-found (is_named name) after still (λ o. AreClient (setting_ops place o update)) tt (λ t h. (h, tt)))
    (low-ops place cached wish (filter is_end changes)
    (low-filter is_end changes (low-changes ts low next less conn (msg.Control (SetProps name update)))))
  where
    changes : List Change
    changes = changes_said ts next conn (msg.Control (SetProps name update))
low-message place cached wish ts after low still next less conn (msg.Control (Unpublish uid)) true =
    low-ops place cached wish _ (low-changes ts low next less conn (msg.Control (Unpublish uid)))
low-message place cached wish ts after low still next less conn (msg.Control (Subscribe uid sub)) true = tt
low-message place cached wish ts after low still next less conn (msg.Control (Unsubscribe uid)) true = tt
low-message place cached wish ts after low still next less conn (msg.Put v) true =
    low-ops place cached wish _ (low-changes ts low next less conn (msg.Put v))

-- a topic that turns is one of those after it
low-turn : (before after : List Topic) → AreLow after → (m : Msg) → AreClient (turn_ops (turned_id before after m))
low-turn before after low (msg.Control (Publish name uid typ props)) = tt
low-turn before after low (msg.Control (Unpublish uid)) = tt
low-turn before after low (msg.Control (Subscribe uid sub)) = tt
low-turn before after low (msg.Control (Unsubscribe uid)) = tt
low-turn before after low (msg.Put v) = tt
low-turn before after low (msg.Control (SetProps name update)) =
    low-found (is_named name) after low (λ o. AreClient (turn_ops (turned_of (find (is_named name) before) o)))
    (none (find (is_named name) before)) (λ t h. some t h (find (is_named name) before))
  where
    none : (o : Option Topic) → AreClient (turn_ops (turned_of o None))
    none None = tt
    none (Some t) = tt

    some : (t : Topic) → t.id < first_meta → (o : Option Topic) → AreClient (turn_ops (turned_of o (Some t)))
    some t h None = tt
    some t h (Some was) = by (is_turned was.props t.props)
      where
        by : (b : Bool) → AreClient (turn_ops (cond b (Some t.id) None))
        by true = (h, tt)
        by false = tt

pub low-said : (place : ℕ) (wish : List ℕ → Wanted) (ts after : List Topic) → AreLow ts → AreLow after
    → (next : ℕ) → next < first_meta
    → (conn : ℕ) (m : Msg) (own : Bool)
    → AreClient (said_ops place wish ts after (changes_said ts next conn m) own m)
low-said place wish ts after low still next less conn m own =
    append-client (turn_ops (turned_id ts after m))
    (message_ops place (cached_in after) wish after (changes_said ts next conn m) own m)
    (low-turn ts after still m) (low-message place (cached_in after) wish ts after low still next less conn m own)

pub low-dropped : (place : ℕ) (cached : List ℕ → Bool) (wish : List ℕ → Wanted) (ts : List Topic) → AreLow ts
    → (conn : ℕ) → AreClient (change_ops place cached wish (drop_changes ts conn))
low-dropped place cached wish ts low conn =
    low-ops place cached wish (drop_changes ts conn) (ends (λ t. not (outlives conn t)) ts low)
  where
    ends : (test : Topic → Bool) (ts : List Topic) → AreLow ts → LowChanges (map ended (filter test ts))
    ends test [] h = tt
    ends test (t ∷ ts) h = by (test t) (ends test ts h.1)
      where
        by : (b : Bool) → LowChanges (map ended (filter test ts))
            → LowChanges (map ended (cond b (t ∷ filter test ts) (filter test ts)))
        by true more = (h.0, more)
        by false more = more

pub low-rewanted : (taken : List Taken) (old wish : List ℕ → Wanted) (ts : List Topic) → AreLow ts
    → AreClient (map (rewanted_op taken old wish) ts)
low-rewanted taken old wish [] h = tt
low-rewanted taken old wish (t ∷ ts) h = (h.0, low-rewanted taken old wish ts h.1)
