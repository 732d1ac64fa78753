-- Ids of topics stay below those of meta topics: after a message, the end of a connection and a restore.
use Rattle.std.proofs.Common.{◌≡◌, ◌<◌, ◌≤◌, ◌+◌, ℕ, ℤ, Bool, true, false, cond, ltb, leb, List, [], ◌∷◌, ◌++◌}
use Rattle.std.proofs.Common.{Option, Some, None, filter, length, refl, sym, arith}
use Rattle.std.specs.List.{list_any, cons_option}
use Rattle.std.proofs.lemmas.Bool.Decides.{nat_tests}
use Rattle.std.proofs.lemmas.Option.{none-some}
use Rattle.serde_json.specs.Data.{Data}
use Rattle.nt_topics.specs.Names.{is_special}
use Rattle.nt_topics.specs.Properties.{is_cached}
use Rattle.nt_subs.specs.Subscriptions.{Subs}
use Rattle.nt_control.specs.declared.message.ClientMsg.TheVariants.{Publish, Unpublish, SetProps, Subscribe}
use Rattle.nt_control.specs.declared.message.ClientMsg.TheVariants.{Unsubscribe}
use Rattle.nt_values.specs.declared.value.Value.{Value}
use Rattle.nt_rules.specs.Limits.{first_meta, last_id, most_topics, most_publishers}
use Rattle.nt_rules.specs.declared.topic.Pub.{Pub}
use Rattle.nt_rules.specs.declared.topic.Topic.{Topic}
use Rattle.nt_rules.specs.declared.topic.Saved.{Saved}
use Rattle.nt_rules.specs.declared.topic.Cause.{Cause}
use Rattle.nt_rules.specs.declared.topic.Cause.TheVariants.{Special, UidInUse, PubsFull}
use Rattle.nt_rules.specs.declared.topic.Cause.TheVariants.{PropsFull, TopicsFull, IdsSpent}
use Rattle.nt_rules.specs.topics.Topics.{is_named, has_publisher, publishers_of, is_too_long, lives_on, if_it_lives_on}
use Rattle.nt_rules.specs.topics.Topics.{change_first, if_counts, new_cause, room_cause, publish_cause, with_publisher}
use Rattle.nt_rules.specs.topics.Topics.{new_topic, published, next_after, without_publisher, without_conn, outlives}
use Rattle.nt_rules.specs.topics.Topics.{dropped, with_update, with_value}
use Rattle.nt_rules.specs.declared.act.Msg.{Msg}
use Rattle.nt_rules.specs.declared.act.Msg.TheVariants.{Control, Put}
use Rattle.nt_rules.specs.history.Lives.{topics, restored}
use Rattle.nt_rules.specs.history.Now.{said_cause}
use Rattle.nt_rules.specs.history.State.{topics_said, next_said, changes_said, if_counted}
use Rattle.nt_laws.specs.Ids.{AreLowTopics, HaveLowIds, AreLowChanges}
use Rattle.nt_laws.proofs.outboxes.LowIds.{low-changes}
use Rattle.nt_laws.proofs.topics.ItemFacts.{each-append, each-filter, each-map}

-- ---- one topic that changes

low-changed-first : (test : Topic → Bool) (f : Topic → Option Topic)
    → ((t : Topic) → t.id < first_meta → (ts : List Topic) → AreLowTopics ts → AreLowTopics (cons_option (f t) ts))
    → (ts : List Topic) → AreLowTopics ts → AreLowTopics (change_first test f ts)
low-changed-first test f keeps [] low = tt
low-changed-first test f keeps (t ∷ ts) low = by (test t) (low-changed-first test f keeps ts low.1)
  where
    by : (b : Bool) → AreLowTopics (change_first test f ts)
        → AreLowTopics (cond b (cons_option (f t) ts) (t ∷ change_first test f ts))
    by true more = keeps t low.0 ts low.1
    by false more = (low.0, more)

low-left : (t : Topic) → t.id < first_meta → (ts : List Topic) → AreLowTopics ts
    → AreLowTopics (cons_option (if_it_lives_on t) ts)
low-left t less ts low = by (lives_on t)
  where
    by : (b : Bool) → AreLowTopics (cons_option (cond b (Some t) None) ts)
    by true = (less, low)
    by false = low

low-valued : (time : ℕ) (v : Value) (t : Topic) → t.id < first_meta → (with_value time v t).id < first_meta
low-valued time v t less = by (is_cached t.props)
  where
    by : (b : Bool) → (cond b (record t { value = Some (record { time = time; value = v }) }) t).id < first_meta
    by true = less
    by false = less

-- ---- a publish

unrefused : (b : Bool) (cause : Cause) (rest : Option Cause) → cond b (Some cause) rest ≡ None → rest ≡ None
unrefused true cause rest e = absurd (none-some cause (sym e))
unrefused false cause rest e = e

-- a new topic has an id that isn't beyond the last
unspent : (count next : ℕ) (props : Data) → new_cause count next props ≡ None → next ≤ last_id
unspent count next props e =
    by (ltb last_id next) refl
    (unrefused (leb most_topics count) TopicsFull (cond (ltb last_id next) (Some IdsSpent) None)
    (unrefused (is_too_long props) PropsFull (room_cause count next) e))
  where
    by : (b : Bool) → ltb last_id next ≡ b → cond b (Some IdsSpent) None ≡ None → next ≤ last_id
    by true less e = absurd (none-some IdsSpent (sym e))
    by false less e = grind (arith, nat_tests)

low-published : (ts : List Topic) (next conn : ℕ) (name : List ℕ) (uid : ℤ) (typ : List ℕ) (props : Data)
    → HaveLowIds ts next → publish_cause ts next conn uid name props ≡ None
    → HaveLowIds (published ts next name typ props (record { conn = conn; uid = uid; typ = typ }))
    (next_after ts next name)
low-published ts next conn name uid typ props h e =
    by (list_any (is_named name) ts)
    (unrefused (leb most_publishers (publishers_of conn ts)) PubsFull _
    (unrefused (list_any (has_publisher conn uid) ts) UidInUse _ (unrefused (is_special name) Special _ e)))
  where
    p : Pub
    p = record { conn = conn; uid = uid; typ = typ }

    by : (b : Bool) → cond b None (new_cause (length ts) next props) ≡ None
        → HaveLowIds
        (cond b (change_first (is_named name) (λ t. Some (with_publisher p t)) ts)
        (ts ++ new_topic next name typ props (p ∷ []) ∷ [])) (cond b next (next + 1))
    by true e =
        record {
          topics = low-changed-first (is_named name) (λ t. Some (with_publisher p t)) (λ t less ts low. (less, low)) ts
              h.topics;
          next = h.next;
        }
    by false e =
        let last : next ≤ last_id = unspent (length ts) next props e in
        record {
          topics = each-append (λ (t : Topic). t.id < first_meta) ts (new_topic next name typ props (p ∷ []) ∷ [])
              h.topics (omega arith, tt);
          next = omega arith;
        }

-- ---- what is said

low-topics-said : (subs : Subs) (ts : List Topic) (next conn : ℕ) (m : Msg) → HaveLowIds ts next
    → said_cause ts next subs conn m ≡ None → HaveLowIds (topics_said ts next conn m) (next_said ts next m)
low-topics-said subs ts next conn (Control (Publish name uid typ props)) h e =
    low-published ts next conn name uid typ props h e
low-topics-said subs ts next conn (Control (Unpublish uid)) h e =
    record {
      topics = low-changed-first (has_publisher conn uid) (λ t. if_it_lives_on (without_publisher conn uid t))
          (λ t less. low-left (without_publisher conn uid t) less) ts h.topics;
      next = h.next;
    }
low-topics-said subs ts next conn (Control (SetProps name update)) h e =
    record {
      topics = low-changed-first (is_named name) (λ t. if_it_lives_on (with_update update t))
          (λ t less. low-left (with_update update t) less) ts h.topics;
      next = h.next;
    }
low-topics-said subs ts next conn (Control (Subscribe uid sub)) h e = h
low-topics-said subs ts next conn (Control (Unsubscribe uid)) h e = h
low-topics-said subs ts next conn (Put v) h e =
    record {
      topics = low-changed-first (has_publisher conn v.id) (λ t. Some (with_value v.time v.value t))
          (λ t less ts low. (low-valued v.time v.value t less, low)) ts h.topics;
      next = h.next;
    }

-- the topics and the next id after a message, which counts or is refused
pub low-counted : (cause : Option Cause) (subs : Subs) (ts : List Topic) (next conn : ℕ) (m : Msg)
    → HaveLowIds ts next → said_cause ts next subs conn m ≡ cause
    → HaveLowIds (if_counts cause (topics_said ts next conn m) ts) (if_counts cause (next_said ts next m) next)
low-counted None subs ts next conn m h e = low-topics-said subs ts next conn m h e
low-counted (Some cause) subs ts next conn m h e = h

-- the changes that it tells
pub low-told-changes : (cause : Option Cause) (subs : Subs) (ts : List Topic) (next conn : ℕ) (m : Msg)
    → HaveLowIds ts next → said_cause ts next subs conn m ≡ cause
    → AreLowChanges (if_counted cause (changes_said ts next conn m))
low-told-changes None subs ts next conn m h e =
    let last : next ≤ last_id + 1 = h.next in low-changes ts next conn m h.topics (omega arith)
low-told-changes (Some cause) subs ts next conn m h e = tt

-- ---- the end of a connection

pub low-dropped : (ts : List Topic) (next conn : ℕ) → HaveLowIds ts next → HaveLowIds (dropped ts conn) next
low-dropped ts next conn h =
    record {
      topics = each-map (λ (t : Topic). t.id < first_meta) (without_conn conn) (filter (outlives conn) ts)
          (each-filter (λ (t : Topic). t.id < first_meta) (outlives conn) ts h.topics);
      next = h.next;
    }

-- ---- saved topics

low-restored-from : (id : ℕ) (saved : List Saved) → id + length saved ≤ most_topics + 1
    → AreLowTopics (topics (restored id saved))
low-restored-from id [] few = tt
low-restored-from id (s ∷ saved) few = (omega arith, low-restored-from (id + 1) saved (omega arith))

pub low-restored : (saved : List Saved) → length saved ≤ most_topics
    → HaveLowIds (topics (restored 1 saved)) (length saved + 1)
low-restored saved few = record { topics = low-restored-from 1 saved (omega arith); next = omega arith }
