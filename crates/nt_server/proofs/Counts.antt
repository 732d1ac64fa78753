-- What counts and what doesn't.
use Rattle.std.proofs.Common.{◌≡◌, ℕ, Bool, true, false, cond, not, List, [], Option, option_map, Some, None, Result, Ok, Err, OnOk, map, refl, sym, ◌∙◌, ap, subst}
use Rattle.std.specs.List.{find}
use Rattle.nt_topics.specs.Properties.{is_cached}
use Rattle.nt_rules.specs.declared.topic.Cause.{Cause}
use Rattle.nt_rules.specs.declared.topic.Change.{Change}
use Rattle.nt_rules.specs.declared.topic.Topic.{Topic}
use Rattle.nt_rules.specs.declared.topic.Outcome.{Outcome}
use Rattle.nt_rules.specs.declared.topic.Outcome.TheVariants.{Done, Ignored}
use Rattle.nt_rules.specs.declared.meta.MetaNow.{MetaNow}
use Rattle.nt_rules.specs.declared.taken.Taken.{Taken}
use Rattle.nt_rules.specs.declared.act.StepOut.TheVariants as out
use Rattle.nt_frames.specs.declared.message.ValueMsg.{ValueMsg}
use Rattle.nt_control.specs.declared.message.ClientMsg.{ClientMsg}
use Rattle.nt_control.specs.declared.message.ClientMsg.TheVariants.{Publish, Unpublish, SetProps, Subscribe, Unsubscribe}
use Rattle.nt_rules.specs.topics.Topics.{TableState, if_counts, is_named}
use Rattle.nt_rules.specs.topics.Changes.{outcome_of}
use Rattle.nt_rules.specs.declared.act.Msg.{Msg}
use Rattle.nt_rules.specs.declared.act.Msg.TheVariants.{Control, Put}
use Rattle.nt_rules.specs.declared.topic.Cause.TheVariants.{NoConn}
use Rattle.nt_rules.specs.history.Now.{said_cause}
use Rattle.nt_rules.specs.history.Answer.{said_out}
use Rattle.nt_rules.specs.history.State.{Open, State, serves, subs_at, cause_at, said_to, topics_said, next_said, changes_said, counted, if_structural, refreshed, message_noted, turn_noted, turned_of, turned_id, taken_after, if_taken, if_counted, open_metas}
use Rattle.nt_server.specs.declared.inner.Inner.{Inner}
use Rattle.nt_server.specs.Connections.{Connections}
use Rattle.nt_laws.specs.Ids.{HaveLowIds, AreLowChanges}
use Rattle.nt_laws.proofs.topics.LowTopics.{low-counted, low-told-changes}
use Rattle.nt_subs.specs.Subscriptions.{Subs}
use Rattle.nt_server.specs.MetaWishes.{WereKept}
use Rattle.nt_server.specs.View.{IsKept, IsKeptAfter, AreKeptAfter, changes_of, cached_of, turned_one, turned_since, settled}
use Rattle.nt_server.proofs.MetaWishes.{may-be-wanted}
use Rattle.nt_server.proofs.RosterRows.{metas_put}

-- what an outcome answers, and the changes that were made
pub said_done : (cause : Option Cause) (changes done : List Change) → outcome_of cause changes ≡ Done done
    → (said_out cause ≡ out.Done) × (if_counted cause changes ≡ done)
said_done None changes done h = (refl, cc)
said_done (Some cause) changes done h = absurd (cc)

pub said_ignored : (cause : Option Cause) (changes : List Change) (why : Cause) → outcome_of cause changes ≡ Ignored why
    → (said_out cause ≡ out.Ignored why) × (if_counted cause changes ≡ [])
said_ignored None changes why h = absurd (cc)
said_ignored (Some cause) changes why h = (cc, refl)

-- what stays the same where it counts stays the same
pub counts-same : {X : Type 0} (cause : Option Cause) (x : X) → if_counts cause x x ≡ x
counts-same None x = refl
counts-same (Some cause) x = refl

-- the state with other topics, by the cause that refuses a message
abbrev pub with_topics : Option Cause → List Topic → ℕ → State → State
with_topics cause ts next s = record s { topics = if_counts cause ts s.topics; next = if_counts cause next s.next }

-- the topic that a message turned is known by whether it was cached before
turned-known : (before after : List Topic) (m : Msg) → turned_since (cached_of before m) after m
    ≡ turned_id before after m
turned-known before after (Put v) = refl
turned-known before after (Control (Publish name uid typ props)) = refl
turned-known before after (Control (Unpublish uid)) = refl
turned-known before after (Control (Subscribe uid sub)) = refl
turned-known before after (Control (Unsubscribe uid)) = refl
turned-known before after (Control (SetProps name update)) = by (find (is_named name) before)
    (find (is_named name) after)
  where
    differs : (now : Bool) (id : ℕ) → cond now None (Some id) ≡ cond (not now) (Some id) None
    differs true id = refl
    differs false id = refl

    one : (was : Bool) (t : Topic)
        → turned_one (Some was) (Some t) ≡ cond (cond was (not (is_cached t.props)) (is_cached t.props)) (Some t.id)
        None
    one true t = differs (is_cached t.props) t.id
    one false t = refl

    none : (was : Bool) → turned_one (Some was) None ≡ None
    none true = refl
    none false = refl

    by : (b a : Option Topic) → turned_one (option_map (λ t. is_cached t.props) b) a ≡ turned_of b a
    by None None = refl
    by None (Some t) = refl
    by (Some u) None = none (is_cached u.props)
    by (Some u) (Some t) = one (is_cached u.props) t

-- a message to a topic that was told is one that counted
pub settled_said : (cause : Option Cause) (s : State) (before : List MetaNow) (cached : Option Bool) (place conn : ℕ)
    (m : Msg) (o : Outcome) → before ≡ open_metas s.opens s.topics → cached ≡ cached_of s.topics m
    → o ≡ outcome_of cause (changes_said s.topics s.next conn m)
    → settled before cached place conn m o
    (with_topics cause (topics_said s.topics s.next conn m) (next_said s.topics s.next m) s)
    ≡ if_taken cause (counted s place conn m) s
settled_said None s before cached place conn m o k known e =
    ap (λ o. settled before cached place conn m o
    (with_topics None (topics_said s.topics s.next conn m) (next_said s.topics s.next m) s)) e
    ∙ ap (λ ms. settled ms cached place conn m (Done (changes_said s.topics s.next conn m))
    (with_topics None (topics_said s.topics s.next conn m) (next_said s.topics s.next m) s)) k
    ∙ ap (λ c. settled (open_metas s.opens s.topics) c place conn m (Done (changes_said s.topics s.next conn m))
    (with_topics None (topics_said s.topics s.next conn m) (next_said s.topics s.next m) s)) known
    ∙ ap turned (turned-known s.topics (topics_said s.topics s.next conn m) m)
  where
    turned : Option ℕ → State
    turned id =
        let ts = topics_said s.topics s.next conn m in
        let changes = changes_said s.topics s.next conn m in
        record s {
          opens = if_structural m place (open_metas s.opens s.topics) ts
              (map (λ o. message_noted place ts conn m changes (turn_noted place id o)) s.opens);
          topics = ts;
          next = next_said s.topics s.next m;
          taken = taken_after place ts changes s.taken;
        }
settled_said (Some cause) s before cached place conn m o k known e =
    ap (λ o. settled before cached place conn m o
    (with_topics (Some cause) (topics_said s.topics s.next conn m) (next_said s.topics s.next m) s)) e

-- a control message that counted, where the topic that it turned and then its changes were told, and then what is different
-- of the meta topics
pub settled-done : (before : List MetaNow) (cached : Option Bool) (place conn : ℕ) (m : Msg) (said : ClientMsg)
    (o : Outcome) (changes : List Change) (s : State) (turned : Option ℕ) (told new : Connections) (taken : List Taken)
    → m ≡ Control said → o ≡ Done changes → turned ≡ turned_since cached s.topics m
    → told ≡ record {
      opened = s.opened;
      opens = map (λ o. message_noted place s.topics conn m changes (turn_noted place turned o)) s.opens;
    }
    → new ≡ record told { opens = refreshed place before s.topics told.opens }
    → taken ≡ taken_after place s.topics changes s.taken
    → record s { opened = new.opened; opens = new.opens; taken = taken } ≡ settled before cached place conn m o s
settled-done before cached place conn m said o changes s turned told new taken m_is o_is turned_is told_is new_is taken_is =
    ap (λ (k : Connections). record s { opened = k.opened; opens = k.opens; taken = taken }) new_is
    ∙ ap (λ (k : Connections). with_opens k.opened (refreshed place before s.topics k.opens) taken) told_is
    ∙ ap (with_opens s.opened (refreshed place before s.topics (tell turned))) taken_is
    ∙ ap (λ t. with_opens s.opened (refreshed place before s.topics (tell t)) all) turned_is
    ∙ ap (λ os. with_opens s.opened os all)
    (sym (ap (λ n. if_structural n place before s.topics (tell (turned_since cached s.topics m))) m_is))
    ∙ sym (ap (λ o. settled before cached place conn m o s) o_is)
  where
    all : List Taken
    all = taken_after place s.topics changes s.taken

    tell : Option ℕ → List Open
    tell t = map (λ o. message_noted place s.topics conn m changes (turn_noted place t o)) s.opens

    with_opens : ℕ → List Open → List Taken → State
    with_opens n os t = record s { opened = n; opens = os; taken = t }

-- what an open connection said to a topic, once it was told
pub said-settled : {E : Type 0} (r : Result Outcome E) (cause : Option Cause) (s new : State) (t : TableState)
    (before : List MetaNow) (cached : Option Bool) (worker place conn : ℕ) (m : Msg) (o : Outcome)
    → serves s.opens worker conn ≡ true
    → said_cause s.topics s.next (subs_at s.opens conn) conn m ≡ cause
    → said_to s place conn m ≡ counted s place conn m → before ≡ open_metas s.opens s.topics
    → cached ≡ cached_of s.topics m → o ≡ outcome_of cause (changes_said s.topics s.next conn m)
    → t.topics ≡ if_counts cause (topics_said s.topics s.next conn m) s.topics
    → t.next ≡ if_counts cause (next_said s.topics s.next m) s.next
    → OnOk r (new ≡ settled before cached place conn m o (record s { topics = t.topics; next = t.next }))
    → OnOk r (new ≡ if_taken (cause_at s worker conn m) (said_to s place conn m) s)
said-settled (Ok x) cause s new t before cached worker place conn m o served is said kept known answer topics next h =
    h
    ∙ ap (λ ts. settled before cached place conn m o (record s { topics = ts; next = t.next })) topics
    ∙ ap (λ n. settled before cached place conn m o (record s {
      topics = if_counts cause (topics_said s.topics s.next conn m) s.topics;
      next = n;
    })) next
    ∙ settled_said cause s before cached place conn m o kept known answer
    ∙ ap (λ after. if_taken cause after s) (sym said)
    ∙ ap (λ why. if_taken why (said_to s place conn m) s)
    (sym (ap (λ b. cond b (said_cause s.topics s.next (subs_at s.opens conn) conn m) (Some NoConn)) served ∙ is))
said-settled (Err error) cause s new t before cached worker place conn m o served is said kept known answer topics next
    h = tt

-- ---- what is kept once the table took a message

-- the changes that it was answered are of topics
low-answer : (subs : Subs) (conn : ℕ) (cause : Option Cause) (m : Msg) (o : Outcome) (i : Inner) → IsKept i
    → said_cause i.table.topics i.table.next subs conn m ≡ cause
    → o ≡ outcome_of cause (changes_said i.table.topics i.table.next conn m) → AreLowChanges (changes_of o)
low-answer subs conn cause m o i k is answer =
    subst (λ o. AreLowChanges (changes_of o)) (sym answer)
    (by cause (low-told-changes cause subs i.table.topics i.table.next conn m k.ids is))
  where
    by : (cause : Option Cause)
        → AreLowChanges (if_counted cause (changes_said i.table.topics i.table.next conn m))
        → AreLowChanges (changes_of (outcome_of cause (changes_said i.table.topics i.table.next conn m)))
    by None h = h
    by (Some cause) h = tt

-- a control message
pub kept-control : (subs : Subs) (conn : ℕ) (cause : Option Cause) (m : ClientMsg) (o : Outcome) (i : Inner)
    (t : TableState) → IsKept i → said_cause i.table.topics i.table.next subs conn (Control m) ≡ cause
    → o ≡ outcome_of cause (changes_said i.table.topics i.table.next conn (Control m))
    → t.topics ≡ if_counts cause (topics_said i.table.topics i.table.next conn (Control m)) i.table.topics
    → t.next ≡ if_counts cause (next_said i.table.topics i.table.next (Control m)) i.table.next
    → IsKeptAfter (Control m) o (record i { table = t })
kept-control subs conn cause m o i t k is answer topics next =
    record {
      ids =
          rw (topics, next) (low-counted cause subs i.table.topics i.table.next conn (Control m) k.ids is);
      changes = low-answer subs conn cause (Control m) o i k is answer;
      metas = metas o cause answer topics;
    }
  where
    metas : (o : Outcome) (cause : Option Cause)
        → o ≡ outcome_of cause (changes_said i.table.topics i.table.next conn (Control m))
        → t.topics ≡ if_counts cause (topics_said i.table.topics i.table.next conn (Control m)) i.table.topics
        → AreKeptAfter (Control m) o (record i { table = t })
    metas (Done made) cause e ts =
        may-be-wanted i.metas (open_metas i.connections.opens i.table.topics) i.connections.opens k.metas
    metas (Ignored why) None e ts = absurd (cc)
    metas (Ignored why) (Some cause) e ts =
        subst (λ ts. WereKept i.metas (open_metas i.connections.opens ts) i.connections.opens) (sym ts) k.metas

-- and a put
pub kept-put : (subs : Subs) (conn : ℕ) (cause : Option Cause) (v : ValueMsg) (o : Outcome) (i : Inner) (t : TableState)
    → IsKept i → said_cause i.table.topics i.table.next subs conn (Put v) ≡ cause
    → o ≡ outcome_of cause (changes_said i.table.topics i.table.next conn (Put v))
    → t.topics ≡ if_counts cause (topics_said i.table.topics i.table.next conn (Put v)) i.table.topics
    → t.next ≡ i.table.next → IsKeptAfter (Put v) o (record i { table = t })
kept-put subs conn cause v o i t k is answer topics next =
    record {
      ids =
          rw (topics, next) (subst (λ n. HaveLowIds (if_counts cause (topics_said i.table.topics i.table.next conn
          (Put v)) i.table.topics) n) (counts-same cause i.table.next)
          (low-counted cause subs i.table.topics i.table.next conn (Put v) k.ids is));
      changes = low-answer subs conn cause (Put v) o i k is answer;
      metas = subst (λ ts. WereKept i.metas (open_metas i.connections.opens ts) i.connections.opens) (sym topics) (metas cause);
    }
  where
    metas : (cause : Option Cause)
        → WereKept i.metas (open_metas i.connections.opens (if_counts cause (topics_said i.table.topics
        i.table.next conn (Put v)) i.table.topics)) i.connections.opens
    metas None =
        subst (λ ms. WereKept i.metas ms i.connections.opens)
        (sym (metas_put conn v.id v.time v.value i.table.topics i.connections.opens)) k.metas
    metas (Some cause) = k.metas
