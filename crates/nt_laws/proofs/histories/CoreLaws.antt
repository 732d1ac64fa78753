-- What a server keeps and answers, but for outboxes, is what the history says.
use Rattle.std.proofs.Common.{◌≡◌, ◌≤◌, ◌+◌, ◌&&◌, not, max, ℕ, Bool, true, false, cond, leb, ltb, List, [], ◌∷◌, ◌++◌}
use Rattle.std.proofs.Common.{Option, Some, None, map, length, filter, length-append, refl, sym, ◌∙◌, ap, arith}
use Rattle.std.specs.List.{filter_map, cons_option}
use Rattle.std.proofs.lemmas.List.{length-map}
use Rattle.nt_topics.specs.declared.version.Version.{Version}
use Rattle.nt_control.specs.declared.message.ClientMsg.TheVariants.{Publish, Unpublish, SetProps, Subscribe}
use Rattle.nt_control.specs.declared.message.ClientMsg.TheVariants.{Unsubscribe}
use Rattle.nt_subs.specs.Subscriptions.{Subs, with_sub, without_sub}
use Rattle.nt_rules.specs.Limits.{last_connection, last_id}
use Rattle.nt_rules.specs.declared.topic.Saved.{Saved}
use Rattle.nt_rules.specs.declared.topic.Topic.{Topic}
use Rattle.nt_rules.specs.declared.topic.Cause.{Cause}
use Rattle.nt_rules.specs.declared.topic.Cause.TheVariants.{NoConn, ConnsSpent, Older}
use Rattle.nt_rules.specs.topics.Topics.{dropped}
use Rattle.nt_rules.specs.topics.Changes.{drop_changes}
use Rattle.nt_rules.specs.declared.meta.MetaNow.{MetaNow}
use Rattle.nt_rules.specs.outbox.Calls.{nothing_owed}
use Rattle.nt_rules.specs.declared.act.Act.{Act}
use Rattle.nt_rules.specs.declared.act.Act.TheVariants as act
use Rattle.nt_rules.specs.declared.act.Msg.{Msg}
use Rattle.nt_rules.specs.declared.act.Msg.TheVariants as msg
use Rattle.nt_rules.specs.declared.act.StepOut.{StepOut}
use Rattle.nt_rules.specs.declared.act.StepOut.TheVariants as out
use Rattle.nt_rules.specs.declared.act.Entry.{Entry}
use Rattle.nt_rules.specs.history.State.{Open}
use Rattle.nt_rules.specs.declared.taken.Taken.{Taken}
use Rattle.nt_rules.specs.history.Lives.{Life, topics, closed_for, restored, restored_life}
use Rattle.nt_rules.specs.declared.start.Start.{Start}
use Rattle.nt_rules.specs.history.Now.{Now, beginning, Connection, with_subs, now_of, after, after_said, is_open_for}
use Rattle.nt_rules.specs.history.Now.{open_ones, opened, closed, subs_of, said_cause, cause_of, is_traced, lives_after}
use Rattle.nt_rules.specs.history.Now.{connections_after}
use Rattle.nt_rules.specs.history.Answer.{answer, entry, Legal, moment_of, said_out, given_name}
use Rattle.nt_rules.specs.history.Marks.{held_place}
use Rattle.nt_rules.specs.history.State.{State, serves, subs_at, given_names, cause_at, topics_said, next_said}
use Rattle.nt_rules.specs.history.State.{changes_said, taken_after, if_taken, said_to, opened_by, closed_by, refreshed}
use Rattle.nt_rules.specs.history.State.{open_metas, message_noted, with_subs_of, rewanting, is_number, drained_from}
use Rattle.nt_rules.specs.history.State.{may_grant, acted, reply, turned_id, turn_noted}
use Rattle.nt_rules.specs.history.Saved.{HasDistinctNames}
use Rattle.nt_rules.specs.history.Step.{Core, Plain, core, core_of, plain, plain_of}
use Rattle.nt_laws.proofs.histories.Histories.{traced_now, closed_now}
use Rattle.nt_laws.proofs.histories.Facts.{length-restored, IsNumberedLives, IsNumberedConnections, lives-numbered}
use Rattle.nt_laws.proofs.histories.Facts.{lives-few, connections-numbered}
use Rattle.nt_laws.proofs.topics.TopicLaws.{topics-said-are, next-said-is, topics-older, topics-closed}
use Rattle.nt_laws.proofs.topics.OneName.{HasOneName, lives-named}
use Rattle.nt_laws.proofs.topics.TakenLaws.{unplaced-restored, taken-said-are, taken-older-at, taken-closed-are}
use Rattle.nt_laws.proofs.histories.ConnectionLaws.{serves-is, subs-are, names-are, plain-refreshed, plain-told}
use Rattle.nt_laws.proofs.histories.ConnectionLaws.{plain-said, plain-rewanting, plain-drained, plain-closed}
use Rattle.nt_laws.proofs.histories.ConnectionLaws.{plain-opened, plain-with-subs}

-- what is kept is what the history says, but for outboxes
pub record IsKeptOf (s : State) (n : Now) : Type 0 where
  pub core_is : core s ≡ core_of n
  pub opens_are : map plain s.opens ≡ map plain_of (open_ones n.connections)

-- how a present is numbered
pub record IsOrderly (n : Now) : Type 0 where
  pub lives_numbered : IsNumberedLives 1 n.lives
  pub lives_named : HasOneName n.lives
  pub lives_few : length n.lives ≤ last_id
  pub connections_numbered : IsNumberedConnections 1 n.connections

pub orderly : (start : Start) (past : List Entry) → length start.saved ≤ last_id → HasDistinctNames start.saved
    → Legal start past
    → IsOrderly (now_of start past)
orderly start past few distinct legal = record {
  lives_numbered = lives-numbered start past;
  lives_named = lives-named start past distinct;
  lives_few = lives-few start past few;
  connections_numbered = connections-numbered start past legal;
}

-- ---- the beginning

-- a restored value was taken at no entry
taken-restored : (id : ℕ) (saved : List Saved) → filter_map held_place (restored id saved) ≡ []
taken-restored id [] = refl
taken-restored id (s ∷ saved) =
    ap (λ ts. cons_option (held_place (restored_life id s)) ts) (taken-restored (id + 1) saved)
    ∙ ap (λ o. cons_option o []) (unplaced-restored id s)

-- what is kept of no entries
pub core-begun : (start : Start) → core_of (beginning start)
    ≡ record {
      permits = start.permits;
      granted = 0;
      shut = false;
      moment = 0;
      place = 0;
      opened = 0;
      topics = topics (restored 1 start.saved);
      next = length start.saved + 1;
      taken = [];
    }
core-begun start =
    ap (λ taken. record (core_of (beginning start)) { taken = taken }) (taken-restored 1 start.saved)
    ∙ ap (λ n. record (core_of (beginning start)) { next = n + 1; taken = [] })
    (length-restored 1 start.saved)

-- ---- what is kept reads the present

module _ (s : State) (n : Now) (kept : IsKeptOf s n) where
  pub topics-are : s.topics ≡ topics n.lives
  topics-are = ap (λ (c : Core). c.topics) kept.core_is

  pub next-is : s.next ≡ length n.lives + 1
  next-is = ap (λ (c : Core). c.next) kept.core_is

  pub place-kept : s.place ≡ n.place
  place-kept = ap (λ (c : Core). c.place) kept.core_is

  pub moment-kept : s.moment ≡ n.moment
  moment-kept = ap (λ (c : Core). c.moment) kept.core_is

  pub opened-is : s.opened ≡ length n.connections
  opened-is = ap (λ (c : Core). c.opened) kept.core_is

  pub open-is : (worker conn : ℕ) → serves s.opens worker conn ≡ is_open_for n.connections worker conn
  open-is = serves-is s.opens n.connections kept.opens_are

  pub subs-kept : (conn : ℕ) → subs_at s.opens conn ≡ subs_of n.connections conn
  subs-kept = subs-are s.opens n.connections kept.opens_are

  -- the cause that refuses a message
  pub cause-is : (worker conn : ℕ) (m : Msg) → cause_at s worker conn m ≡ cause_of n worker conn m
  cause-is worker conn m =
      ap (λ b. cond b (said_cause s.topics s.next (subs_at s.opens conn) conn m) (Some NoConn))
      (open-is worker conn)
      ∙ ap (λ c. cond (is_open_for n.connections worker conn) c (Some NoConn)) there
    where
      there : said_cause s.topics s.next (subs_at s.opens conn) conn m
          ≡ said_cause (topics n.lives) (length n.lives + 1) (subs_of n.connections conn) conn m
      there =
          ap (λ ts. said_cause ts s.next (subs_at s.opens conn) conn m) topics-are
          ∙ ap (λ k. said_cause (topics n.lives) k (subs_at s.opens conn) conn m) next-is
          ∙ ap (λ subs. said_cause (topics n.lives) (length n.lives + 1) subs conn m) (subs-kept conn)

-- ---- the core after a message

-- what an act leaves of a state at the next place, and of a core
abbrev entered : State → ℕ → State → State
entered s now t = record t { place = s.place + 1; moment = max s.moment now }

abbrev entered_core : ℕ → ℕ → Core → Core
entered_core place moment c = record c { place = place + 1; moment = moment }

abbrev stepped : ℕ → Core → Core
stepped now c = entered_core c.place (max c.moment now) c

-- what a message that counts makes of it
abbrev core_said : ℕ → Msg → Core → Core
core_said conn m c =
    record c {
      topics = topics_said c.topics c.next conn m;
      next = next_said c.topics c.next m;
      taken = taken_after (c.place + 1) (topics_said c.topics c.next conn m)
          (changes_said c.topics c.next conn m) c.taken;
    }

abbrev if_said : Option Cause → Core → Core → Core
if_said None after before = after
if_said (Some cause) after before = before

abbrev stepped_said : ℕ → Option Cause → ℕ → Msg → Core → Core
stepped_said now cause conn m c =
    entered_core c.place (max c.moment now) (if_said cause (core_said conn m c) c)

core-said_to : (s : State) (conn : ℕ) (m : Msg) → core (said_to s (s.place + 1) conn m)
    ≡ core_said conn m (core s)
core-said_to s conn (msg.Control (Publish name uid typ props)) = refl
core-said_to s conn (msg.Control (Unpublish uid)) = refl
core-said_to s conn (msg.Control (SetProps name update)) = refl
core-said_to s conn (msg.Control (Subscribe uid sub)) = refl
core-said_to s conn (msg.Control (Unsubscribe uid)) = refl
core-said_to s conn (msg.Put v) = refl

core-acted-said : (s : State) (worker now conn : ℕ) (m : Msg)
    → core (acted s worker now (act.Said conn m))
    ≡ entered_core s.place (max s.moment now)
    (if_said (cause_at s worker conn m) (core_said conn m (core s)) (core s))
core-acted-said s worker now conn m = by (cause_at s worker conn m)
  where
    by : (c : Option Cause)
        → core (entered s now (if_taken c (said_to s (s.place + 1) conn m) s))
        ≡ entered_core s.place (max s.moment now) (if_said c (core_said conn m (core s)) (core s))
    by None =
        ap (entered_core s.place (max s.moment now)) (core-said_to s conn m)
    by (Some cause) = refl

length-connections_after : (cs : List Connection) (conn : ℕ) (m : Msg) → length (connections_after cs conn m)
    ≡ length cs
length-connections_after cs conn (msg.Control (Publish name uid typ props)) = refl
length-connections_after cs conn (msg.Control (Unpublish uid)) = refl
length-connections_after cs conn (msg.Control (SetProps name update)) = refl
length-connections_after cs conn (msg.Control (Subscribe uid sub)) = length-map cs _
length-connections_after cs conn (msg.Control (Unsubscribe uid)) = length-map cs _
length-connections_after cs conn (msg.Put v) = refl

-- the core of a present with other connections and lives
core-parts : (n : Now) (cs : List Connection) (lives : List Life)
    (opened : ℕ) (ts : List Topic) (next : ℕ) (taken : List Taken)
    → length cs ≡ opened → topics lives ≡ ts → length lives + 1 ≡ next → filter_map held_place lives ≡ taken
    → core_of (record n { connections = cs; lives = lives })
    ≡ record (core_of n) { opened = opened; topics = ts; next = next; taken = taken }
core-parts n cs lives opened ts next taken a b c d =
    ap (λ k. parts k (topics lives) (length lives + 1) (filter_map held_place lives)) a
    ∙ ap (λ us. parts opened us (length lives + 1) (filter_map held_place lives)) b
    ∙ ap (λ k. parts opened ts k (filter_map held_place lives)) c
    ∙ ap (λ us. parts opened ts next us) d
  where
    parts : ℕ → List Topic → ℕ → List Taken → Core
    parts opened ts next taken =
        record (core_of n) { opened = opened; topics = ts; next = next; taken = taken }

core-after-said : (n : Now) (worker conn : ℕ) (m : Msg) → IsOrderly n
    → core_of (after_said n worker conn m)
    ≡ if_said (cause_of n worker conn m) (core_said conn m (core_of n)) (core_of n)
core-after-said n worker conn m tidy = by (is_open_for n.connections worker conn)
  where
    c : Option Cause
    c = said_cause (topics n.lives) (length n.lives + 1) (subs_of n.connections conn) conn m

    counts : c ≡ None → core_of (traced_now n conn m) ≡ core_said conn m (core_of n)
    counts e =
        core-parts n (connections_after n.connections conn m) (lives_after (n.place + 1) n.lives conn m)
        (length n.connections) _ _ _
        (length-connections_after n.connections conn m)
        (topics-said-are (n.place + 1) n.lives (subs_of n.connections conn) conn m e)
        (next-said-is (n.place + 1) n.lives conn m)
        (taken-said-are (n.place + 1) n.lives (subs_of n.connections conn) conn m
        tidy.lives_numbered tidy.lives_named tidy.lives_few (omega arith) e)

    there : (m : Msg)
        → (said_cause (topics n.lives) (length n.lives + 1) (subs_of n.connections conn) conn m ≡ None
        → core_of (traced_now n conn m) ≡ core_said conn m (core_of n))
        → (k : Option Cause)
        → said_cause (topics n.lives) (length n.lives + 1) (subs_of n.connections conn) conn m ≡ k
        → core_of (cond (is_traced m k) (traced_now n conn m) n)
        ≡ if_said k (core_said conn m (core_of n)) (core_of n)
    there m counts None e = counts e
    there (msg.Put v) counts (Some Older) e =
        core-parts n n.connections (lives_after (n.place + 1) n.lives conn (msg.Put v)) (length n.connections)
        (topics n.lives) (length n.lives + 1) (filter_map held_place n.lives)
        refl
        (topics-older conn v.id (record { place = n.place + 1; time = v.time; value = v.value }) n.lives e)
        (next-said-is (n.place + 1) n.lives conn (msg.Put v))
        (taken-older-at (n.place + 1) n.lives tidy.lives_numbered tidy.lives_few conn v.id
        (record { place = n.place + 1; time = v.time; value = v.value }) e)
    there (msg.Put v) counts (Some cause) e = refl
    there (msg.Control m) counts (Some cause) e = refl

    unknown : (m : Msg) → is_traced m (Some NoConn) ≡ false
    unknown (msg.Control m) = refl
    unknown (msg.Put v) = refl

    by : (b : Bool) → core_of (cond (is_traced m (cond b c (Some NoConn))) (traced_now n conn m) n)
        ≡ if_said (cond b c (Some NoConn)) (core_said conn m (core_of n)) (core_of n)
    by true = there m counts c refl
    by false = ap (λ b. core_of (cond b (traced_now n conn m) n)) (unknown m)

-- ---- the core after an act

-- what the end of a connection makes of it
abbrev core_dropped : ℕ → Core → Core
core_dropped conn c =
    record c {
      topics = dropped c.topics conn;
      taken = taken_after (c.place + 1) (dropped c.topics conn) (drop_changes c.topics conn) c.taken;
    }

core-closed : (n : Now) (conn : ℕ) → IsOrderly n → core_of (closed_now n conn) ≡ core_dropped conn (core_of n)
core-closed n conn tidy =
    core-parts n (closed (n.place + 1) conn n.connections) (map (closed_for (n.place + 1) conn) n.lives)
    (length n.connections) _ (length n.lives + 1) _
    (length-map n.connections _)
    (topics-closed (n.place + 1) conn n.lives)
    (ap (λ k. k + 1) (length-map n.lives (closed_for (n.place + 1) conn)))
    (let few = tidy.lives_few in
    taken-closed-are (n.place + 1) conn 1 (dropped (topics n.lives) conn) n.lives tidy.lives_numbered (omega arith))

-- the present after the entry of an open
abbrev after_open : Now → ℕ → ℕ → List ℕ → Version → Bool → ℕ → List ℕ → Now
after_open n worker now name version spent number given =
    let o = cond spent (out.Ignored ConnsSpent) (out.Opened number given) in
    after n (entry worker (moment_of n now) (act.Open name version) o)

-- what an act does to the core, the entry of the answered act does to the present
pub core-acted : (s : State) (n : Now) (worker now : ℕ) (a : Act) → IsOrderly n → IsKeptOf s n
    → core (acted s worker now a)
    ≡ core_of (after n (entry worker (moment_of n now) a (reply s worker now a)))
core-acted s n worker now (act.Open name version) tidy kept = by (leb last_connection s.opened)
  where
    given : List ℕ
    given = given_name (given_names s.opens) name

    next : Bool → Now
    next spent = after_open n worker now name version spent (s.opened + 1) given

    by : (b : Bool) → core (entered s now (cond b s (opened_by s (s.place + 1) worker name)))
        ≡ core_of (next b)
    by true = ap (stepped now) kept.core_is
    by false =
        ap (λ (c : Core). stepped now (record c { opened = c.opened + 1 })) kept.core_is
        ∙ ap (λ k. stepped now (record (core_of n) { opened = k }))
        (sym (length-append n.connections (opened worker (s.opened + 1) given ∷ [])))
core-acted s n worker now (act.Said conn m) tidy kept =
    core-acted-said s worker now conn m
    ∙ ap (λ k. entered_core s.place (max s.moment now) (if_said k (core_said conn m (core s)) (core s)))
    (cause-is s n kept worker conn m)
    ∙ ap (λ c. stepped_said now (cause_of n worker conn m) conn m c) kept.core_is
    ∙ sym (ap (entered_core n.place (moment_of n now)) (core-after-said n worker conn m tidy))
core-acted s n worker now (act.Drain conn budget) tidy kept = by (serves s.opens worker conn)
  where
    by : (b : Bool)
        → core (entered s now (cond b (record s { opens = map (drained_from conn budget) s.opens }) s))
        ≡ stepped now (core_of n)
    by true = ap (stepped now) kept.core_is
    by false = ap (stepped now) kept.core_is
core-acted s n worker now (act.Close conn) tidy kept =
    by (serves s.opens worker conn) (is_open_for n.connections worker conn) (open-is s n kept worker conn)
  where
    by : (b d : Bool) → b ≡ d
        → core (entered s now (cond b (closed_by s (s.place + 1) conn) s))
        ≡ core_of (record (cond d (closed_now n conn) n) { place = n.place + 1; moment = moment_of n now })
    by true true e =
        ap (λ c. stepped now (core_dropped conn c)) kept.core_is
        ∙ sym (ap (entered_core n.place (moment_of n now)) (core-closed n conn tidy))
    by false false e = ap (stepped now) kept.core_is
    by true false e = absurd (cc)
    by false true e = absurd (cc)
core-acted s n worker now act.Permit tidy kept = by (may_grant s)
  where
    by : (b : Bool)
        → core (entered s now (cond b (record s { granted = s.granted + 1 }) s))
        ≡ core_of (after n (entry worker (moment_of n now) act.Permit (cond b out.Permitted out.NoPermit)))
    by true = ap (λ (c : Core). stepped now (record c { granted = c.granted + 1 })) kept.core_is
    by false = ap (stepped now) kept.core_is
core-acted s n worker now act.Shut tidy kept =
    ap (λ (c : Core). stepped now (record c { shut = true })) kept.core_is

-- ---- the open connections after an act

abbrev plain_now : Now → List Plain
plain_now n = map plain_of (open_ones n.connections)

-- a message that counts
plain-said_to : (s : State) (n : Now) (conn : ℕ) (m : Msg) → IsOrderly n → IsKeptOf s n
    → map plain (said_to s (s.place + 1) conn m).opens
    ≡ map plain_of (open_ones (connections_after n.connections conn m))
plain-said_to s n conn m tidy kept = by m
  where
    place : ℕ
    place = s.place + 1

    before : List MetaNow
    before = open_metas s.opens s.topics

    turned : Msg → Option ℕ
    turned m = turned_id s.topics (topics_said s.topics s.next conn m) m

    told : Msg → List Open
    told m =
        map (λ o. message_noted place (topics_said s.topics s.next conn m) conn m
        (changes_said s.topics s.next conn m) (turn_noted place (turned m) o))
        s.opens

    told-is : (m : Msg) → map plain (told m) ≡ plain_now n
    told-is m =
        plain-said place (topics_said s.topics s.next conn m) (turned m) conn m
        (changes_said s.topics s.next conn m) s.opens
        ∙ kept.opens_are

    counted : (m : Msg) → map plain (refreshed place before (topics_said s.topics s.next conn m) (told m))
        ≡ plain_now n
    counted m = plain-refreshed place before (topics_said s.topics s.next conn m) (told m) ∙ told-is m

    resubscribed : (Subs → Subs) → List Open
    resubscribed f = with_subs_of conn (f (subs_at s.opens conn)) s.opens

    after : (Subs → Subs) → List MetaNow
    after f = open_metas (resubscribed f) s.topics

    rewanted : (Subs → Subs) → List Open
    rewanted f = rewanting place s.taken s.topics (after f) conn (subs_at s.opens conn) (resubscribed f)

    subscribed : (f : Subs → Subs)
        → map plain (refreshed place before s.topics (rewanted f))
        ≡ map plain_of (open_ones (with_subs conn f n.connections))
    subscribed f =
        plain-refreshed place before s.topics (rewanted f)
        ∙ plain-rewanting place s.taken s.topics (after f) conn (subs_at s.opens conn) (resubscribed f)
        ∙ plain-with-subs conn f s.opens n.connections tidy.connections_numbered kept.opens_are

    by : (m : Msg)
        → map plain (said_to s (s.place + 1) conn m).opens
        ≡ map plain_of (open_ones (connections_after n.connections conn m))
    by (msg.Control (Publish name uid typ props)) = counted (msg.Control (Publish name uid typ props))
    by (msg.Control (Unpublish uid)) = counted (msg.Control (Unpublish uid))
    by (msg.Control (SetProps name update)) = counted (msg.Control (SetProps name update))
    by (msg.Control (Subscribe uid sub)) = subscribed (with_sub uid sub)
    by (msg.Control (Unsubscribe uid)) = subscribed (without_sub uid)
    by (msg.Put v) = told-is (msg.Put v)

plain-acted-said : (s : State) (n : Now) (conn : ℕ) (m : Msg) (c : Option Cause) → IsOrderly n → IsKeptOf s n
    → map plain (if_taken c (said_to s (s.place + 1) conn m) s).opens
    ≡ plain_now (cond (is_traced m c) (traced_now n conn m) n)
plain-acted-said s n conn m None tidy kept = plain-said_to s n conn m tidy kept
plain-acted-said s n conn m (Some cause) tidy kept = by m (is_traced m (Some cause)) refl
  where
    by : (m : Msg) (b : Bool) → is_traced m (Some cause) ≡ b
        → map plain s.opens
        ≡ plain_now (cond b (traced_now n conn m) n)
    by m false e = kept.opens_are
    by (msg.Put v) true e = kept.opens_are
    by (msg.Control m) true e = let f : is_traced (msg.Control m) (Some cause) ≡ false = refl in absurd (cc)

-- what an act does to the open connections, the entry of the answered act does to those of the present
pub plain-acted : (s : State) (n : Now) (worker now : ℕ) (a : Act) → IsOrderly n → IsKeptOf s n
    → map plain (acted s worker now a).opens
    ≡ map plain_of (open_ones (after n (entry worker (moment_of n now) a (reply s worker now a))).connections)
plain-acted s n worker now (act.Open name version) tidy kept = by (leb last_connection s.opened)
  where
    given : List ℕ
    given = given_name (given_names s.opens) name

    new : Open
    new = record { conn = s.opened + 1; worker = worker; name = given; subs = []; outbox = nothing_owed }

    next : Bool → Now
    next spent = after_open n worker now name version spent (s.opened + 1) given

    by : (b : Bool)
        → map plain (entered s now (cond b s (opened_by s (s.place + 1) worker name))).opens
        ≡ plain_now (next b)
    by true = kept.opens_are
    by false =
        plain-refreshed (s.place + 1) (open_metas s.opens s.topics) s.topics (s.opens ++ new ∷ [])
        ∙ plain-opened new (opened worker (s.opened + 1) given) s.opens n.connections kept.opens_are refl refl
plain-acted s n worker now (act.Said conn m) tidy kept =
    opens_of (cause_at s worker conn m)
    ∙ plain-acted-said s n conn m (cause_at s worker conn m) tidy kept
    ∙ ap (λ c. plain_now (cond (is_traced m c) (traced_now n conn m) n)) (cause-is s n kept worker conn m)
  where
    opens_of : (c : Option Cause)
        → map plain (entered s now (if_taken c (said_to s (s.place + 1) conn m) s)).opens
        ≡ map plain (if_taken c (said_to s (s.place + 1) conn m) s).opens
    opens_of c = refl
plain-acted s n worker now (act.Drain conn budget) tidy kept = by (serves s.opens worker conn)
  where
    by : (b : Bool)
        → map plain (cond b (record s { opens = map (drained_from conn budget) s.opens }) s).opens
        ≡ plain_now n
    by true = plain-drained conn budget s.opens ∙ kept.opens_are
    by false = kept.opens_are
plain-acted s n worker now (act.Close conn) tidy kept =
    by (serves s.opens worker conn) (is_open_for n.connections worker conn) (open-is s n kept worker conn)
  where
    by : (b d : Bool) → b ≡ d
        → map plain (cond b (closed_by s (s.place + 1) conn) s).opens
        ≡ plain_now (cond d (closed_now n conn) n)
    by true true e =
        plain-refreshed (s.place + 1) (open_metas s.opens s.topics) (dropped s.topics conn) _
        ∙ plain-told (s.place + 1) (dropped s.topics conn) (drop_changes s.topics conn)
        (filter (λ o. not (is_number conn o)) s.opens)
        ∙ plain-closed (n.place + 1) conn s.opens n.connections kept.opens_are
    by false false e = kept.opens_are
    by true false e = absurd (cc)
    by false true e = absurd (cc)
plain-acted s n worker now act.Permit tidy kept = by (may_grant s)
  where
    by : (b : Bool)
        → map plain (cond b (record s { granted = s.granted + 1 }) s).opens
        ≡ plain_now (after n (entry worker (moment_of n now) act.Permit (cond b out.Permitted out.NoPermit)))
    by true = kept.opens_are
    by false = kept.opens_are
plain-acted s n worker now act.Shut tidy kept = kept.opens_are

-- what is kept after an act is what the history with its entry says
pub kept-acted : (s : State) (n : Now) (worker now : ℕ) (a : Act) → IsOrderly n → IsKeptOf s n
    → IsKeptOf (acted s worker now a) (after n (entry worker (moment_of n now) a (reply s worker now a)))
kept-acted s n worker now a tidy kept = record {
  core_is = core-acted s n worker now a tidy kept;
  opens_are = plain-acted s n worker now a tidy kept;
}

-- ---- answers

-- an act that hands nothing over
abbrev pub IsNoDrain : Act → Type 0
IsNoDrain (act.Drain conn budget) = ⊥
IsNoDrain a = Unit {0}

-- the answer to an open, after so many that were opened and among these names
abbrev open_out : ℕ → List (List ℕ) → List ℕ → StepOut
open_out opened names name =
    cond (leb last_connection opened) (out.Ignored ConnsSpent)
    (out.Opened (opened + 1) (given_name names name))

-- what is answered by what is kept is the answer
pub reply-answer : (s : State) (start : Start) (past : List Entry) (worker now : ℕ) (a : Act) → IsNoDrain a
    → IsKeptOf s (now_of start past) → reply s worker now a ≡ answer start past worker now a
reply-answer s start past worker now (act.Open name version) hands kept =
    ap (λ k. open_out k (given_names s.opens) name) (opened-is s n kept)
    ∙ ap (λ names. open_out (length n.connections) names name)
    (names-are s.opens n.connections kept.opens_are)
  where
    n : Now
    n = now_of start past
reply-answer s start past worker now (act.Said conn m) hands kept =
    ap said_out (cause-is s (now_of start past) kept worker conn m)
reply-answer s start past worker now (act.Drain conn budget) hands kept = absurd hands
reply-answer s start past worker now (act.Close conn) hands kept =
    ap (λ b. cond b out.Closed (out.Ignored NoConn)) (open-is s (now_of start past) kept worker conn)
reply-answer s start past worker now act.Permit hands kept =
    ap (λ (c : Core). cond (ltb c.granted c.permits && not c.shut) out.Permitted out.NoPermit) kept.core_is
reply-answer s start past worker now act.Shut hands kept = refl
