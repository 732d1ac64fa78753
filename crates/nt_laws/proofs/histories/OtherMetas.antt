-- An entry leaves each meta topic that it doesn't touch as it was.
use Rattle.std.proofs.Common.{◌≡◌, ◌+◌, ◌&&◌, ◌||◌, ◌==◌, not, ℕ, Bool, true, false, cond, leb, List, [], ◌∷◌, ◌++◌}
use Rattle.std.proofs.Common.{Option, Some, None, map, filter, find, length, ℤ, refl, sym, ◌∙◌, ap, arith}
use Rattle.std.specs.Prelude.{is_none}
use Rattle.std.specs.List.{list_any}
use Rattle.std.proofs.lemmas.Slice.Eq.{bytes_eq-Decides}
use Rattle.nt_control.specs.declared.message.ClientMsg.{ClientMsg}
use Rattle.nt_control.specs.declared.message.ClientMsg.TheVariants.{Publish, Unpublish, SetProps, Subscribe}
use Rattle.nt_control.specs.declared.message.ClientMsg.TheVariants.{Unsubscribe}
use Rattle.nt_subs.specs.Subscriptions.{Subs, with_sub, without_sub}
use Rattle.nt_rules.specs.Limits.{last_connection}
use Rattle.nt_rules.specs.declared.topic.Topic.{Topic}
use Rattle.nt_rules.specs.declared.topic.Cause.{Cause}
use Rattle.nt_rules.specs.declared.topic.Cause.TheVariants.{NoConn, NoSuchUid, ConnsSpent}
use Rattle.nt_rules.specs.topics.Topics.{has_publisher, unpublish_cause, dropped}
use Rattle.nt_rules.specs.declared.meta.MetaNow.{MetaNow}
use Rattle.nt_rules.specs.meta.Meta.{is_named, metas, named_in}
use Rattle.nt_rules.specs.declared.act.Act.{Act}
use Rattle.nt_rules.specs.declared.act.Act.TheVariants as act
use Rattle.nt_rules.specs.declared.act.Msg.TheVariants as msg
use Rattle.nt_rules.specs.declared.act.StepOut.TheVariants as out
use Rattle.nt_rules.specs.declared.act.Deed.{Deed}
use Rattle.nt_rules.specs.declared.act.Deed.TheVariants.{Opened, NotOpened, Said, Drained, Closed, Permitted, NoPermit}
use Rattle.nt_rules.specs.declared.act.Deed.TheVariants.{Shut}
use Rattle.nt_rules.specs.declared.act.Entry.{Entry}
use Rattle.nt_rules.specs.declared.start.Start.{Start}
use Rattle.nt_rules.specs.history.Lives.{topics, closed_for}
use Rattle.nt_rules.specs.history.Now.{Now, Connection, is_open, open_ones, opened, closed, with_subs, subs_of}
use Rattle.nt_rules.specs.history.Now.{is_open_for, said_cause, cause_of, is_traced, lives_after}
use Rattle.nt_rules.specs.history.Now.{after, now_of}
use Rattle.nt_rules.specs.history.Metas.{pub_rows, roster_of, roster_now, metas_now}
use Rattle.nt_rules.specs.history.Answer.{Legal, IsLawful, entry, moment_of, given_name, is_used}
use Rattle.nt_rules.specs.history.State.{State, topics_said, given_names, reply, acted, may_grant}
use Rattle.nt_rules.specs.history.State.{open_metas}
use Rattle.nt_rules.specs.history.Step.{Plain, plain, plain_of, ServerState, Represents}
use Rattle.nt_laws.specs.Touched.{touched_by_open, touched_by_close, touched_by_message, of_connection, opens_now}
use Rattle.nt_laws.specs.Touched.{touched, touched_by_act, untouched}
use Rattle.nt_laws.proofs.histories.ConnectionLaws.{is_numbered, others, closed-others}
use Rattle.nt_laws.proofs.histories.CoreLaws.{IsKeptOf, orderly, kept-acted, topics-are, opened-is, open-is, cause-is}
use Rattle.nt_laws.proofs.histories.Histories.{traced_now, closed_now}
use Rattle.nt_laws.proofs.histories.Publishers.{unpublished}
use Rattle.nt_laws.proofs.histories.StepLaw.{kept-of}
use Rattle.nt_laws.proofs.metas.PlainRosters.{plain_metas, metas-plain, no-rows}
use Rattle.nt_laws.proofs.metas.Rosters.{metas-kept, metas-stay}
use Rattle.nt_laws.proofs.metas.TouchedMetas.{opened-stay, published-stay, updated-stay, unpublished-stay}
use Rattle.nt_laws.proofs.metas.TouchedMetas.{subscribed-stay, closed-stay}
use Rattle.nt_laws.proofs.metas.UntouchedMetas.{resubscribed}
use Rattle.nt_laws.proofs.topics.TopicLaws.{topics-said-are, topics-closed}

-- ---- open connections

opens-joined : (cs : List Connection) (c : Connection) → is_open c ≡ true
    → map plain_of (open_ones (cs ++ c ∷ [])) ≡ map plain_of (open_ones cs) ++ plain_of c ∷ []
opens-joined [] c there = ap (λ b. map plain_of (cond b (c ∷ []) [])) there
opens-joined (d ∷ cs) c there = by (opens-joined cs c there) (is_open d)
  where
    by : map plain_of (open_ones (cs ++ c ∷ [])) ≡ map plain_of (open_ones cs) ++ plain_of c ∷ [] → (b : Bool)
        → map plain_of (cond b (d ∷ open_ones (cs ++ c ∷ [])) (open_ones (cs ++ c ∷ [])))
        ≡ map plain_of (cond b (d ∷ open_ones cs) (open_ones cs)) ++ plain_of c ∷ []
    by more true = ap (λ ps. plain_of d ∷ ps) more
    by more false = more

opens-resubscribed : (conn : ℕ) (f : Subs → Subs) (cs : List Connection)
    → map plain_of (open_ones (with_subs conn f cs)) ≡ map (resubscribed conn f) (map plain_of (open_ones cs))
opens-resubscribed conn f [] = refl
opens-resubscribed conn f (c ∷ cs) = by (is_open c) refl (opens-resubscribed conn f cs)
  where
    rest : List Connection
    rest = with_subs conn f cs

    on : is_open c ≡ true
        → map plain_of (open_ones rest) ≡ map (resubscribed conn f) (map plain_of (open_ones cs))
        → (d : Bool)
        → map plain_of (open_ones (cond d (record c { subs = f c.subs }) c ∷ rest))
        ≡ cond d (record (plain_of c) { subs = f c.subs }) (plain_of c)
        ∷ map (resubscribed conn f) (map plain_of (open_ones cs))
    on e more true =
        ap (λ b. map plain_of (cond b (record c { subs = f c.subs } ∷ open_ones rest) (open_ones rest))) e
        ∙ ap (λ ps. plain_of (record c { subs = f c.subs }) ∷ ps) more
    on e more false =
        ap (λ b. map plain_of (cond b (c ∷ open_ones rest) (open_ones rest))) e ∙ ap (λ ps. plain_of c ∷ ps) more

    by : (b : Bool) → is_open c ≡ b
        → map plain_of (open_ones rest) ≡ map (resubscribed conn f) (map plain_of (open_ones cs))
        → map plain_of (open_ones (cond (b && (c.number == conn)) (record c { subs = f c.subs }) c ∷ rest))
        ≡ map (resubscribed conn f) (map plain_of (cond b (c ∷ open_ones cs) (open_ones cs)))
    by true e more = on e more (c.number == conn)
    by false e more = ap (λ b. map plain_of (cond b (c ∷ open_ones rest) (open_ones rest))) e ∙ more

-- one that is open for a worker is among them
open-there : (cs : List Connection) (worker conn : ℕ) → is_open_for cs worker conn ≡ true
    → list_any (is_numbered conn) (map plain_of (open_ones cs)) ≡ true
open-there [] worker conn e = absurd (cc)
open-there (c ∷ cs) worker conn e = by (is_open c) (λ f. open-there cs worker conn f) e
  where
    rest : List Plain
    rest = map plain_of (open_ones cs)

    on : (numbered served : Bool) → (is_open_for cs worker conn ≡ true → list_any (is_numbered conn) rest ≡ true)
        → ((numbered && served) || is_open_for cs worker conn) ≡ true
        → (numbered || list_any (is_numbered conn) rest) ≡ true
    on true served more e = refl
    on false served more e = more e

    by : (b : Bool) → (is_open_for cs worker conn ≡ true → list_any (is_numbered conn) rest ≡ true)
        → (((b && (c.number == conn)) && (c.worker == worker)) || is_open_for cs worker conn) ≡ true
        → list_any (is_numbered conn) (map plain_of (cond b (c ∷ open_ones cs) (open_ones cs))) ≡ true
    by true more e = on (c.number == conn) (c.worker == worker) more e
    by false more e = more e

-- ---- one entry after a present

-- one that opens a connection gives it a number that no publisher has
abbrev pub IsNewcomer : Now → ℕ → Deed → Type 0
IsNewcomer n conn (Opened name) = pub_rows conn (topics n.lives) ≡ []
IsNewcomer n conn d = Unit {0}

module _ (n : Now) where
  abbrev ps : List Plain
  ps = opens_now n

  abbrev ts : List Topic
  ts = topics n.lives

  now-plain : metas_now n ≡ plain_metas ps ts
  now-plain = metas-plain (open_ones n.connections) ts

  -- the meta topics of other connections and topics
  stay : (names : List (List ℕ)) (cs : List Connection) (us : List Topic) (qs : List Plain) (vs : List Topic)
      → map plain_of (open_ones cs) ≡ qs → us ≡ vs
      → untouched names (plain_metas qs vs) ≡ untouched names (plain_metas ps ts)
      → untouched names (metas (roster_of (open_ones cs) us)) ≡ untouched names (metas_now n)
  stay names cs us qs vs opens topics same =
      ap (untouched names) (metas-plain (open_ones cs) us)
      ∙ ap (λ xs. untouched names (plain_metas xs us)) opens
      ∙ ap (λ ys. untouched names (plain_metas qs ys)) topics
      ∙ same
      ∙ sym (ap (untouched names) now-plain)

  -- a message that counts
  module _ (worker conn : ℕ) (m : ClientMsg) (counts : cause_of n worker conn (msg.Control m) ≡ None) where
    abbrev refusal : Option Cause
    refusal = said_cause ts (length n.lives + 1) (subs_of n.connections conn) conn (msg.Control m)

    is-open : is_open_for n.connections worker conn ≡ true
    is-open = by (is_open_for n.connections worker conn) counts
      where
        by : (b : Bool) → cond b refusal (Some NoConn) ≡ None → b ≡ true
        by true e = refl
        by false e = absurd (cc)

    none : refusal ≡ None
    none = ap (λ b. cond b refusal (Some NoConn)) (sym is-open) ∙ counts

    -- its connection is open, so there is one of this number
    there : list_any (is_numbered conn) ps ≡ true
    there = open-there n.connections worker conn is-open

    topics-said : topics (lives_after (n.place + 1) n.lives conn (msg.Control m))
        ≡ topics_said ts (length n.lives + 1) conn (msg.Control m)
    topics-said =
        topics-said-are (n.place + 1) n.lives (subs_of n.connections conn) conn (msg.Control m) none

  unpublishes : (conn : ℕ) (uid : ℤ) → unpublish_cause ts conn uid ≡ None
      → list_any (has_publisher conn uid) ts ≡ true
  unpublishes conn uid e = by (list_any (has_publisher conn uid) ts) e
    where
      by : (b : Bool) → cond b None (Some NoSuchUid) ≡ None → b ≡ true
      by true e = refl
      by false e = absurd (cc)

  -- a message that counts leaves those that it doesn't touch
  said-stay : (worker conn : ℕ) (m : ClientMsg) → cause_of n worker conn (msg.Control m) ≡ None
      → let names = of_connection conn (touched_by_message m ts) ps in
      untouched names (metas_now (traced_now n conn (msg.Control m))) ≡ untouched names (metas_now n)
  said-stay worker conn (Publish name uid typ props) counts =
      let m = Publish name uid typ props in
      stay (of_connection conn (touched_by_message m ts) ps) n.connections _ ps _ refl
      (topics-said worker conn m counts)
      (published-stay conn ps ts (there worker conn m counts) (length n.lives + 1) name typ uid props
      (record { conn = conn; uid = uid; typ = typ }) refl)
  said-stay worker conn (Unpublish uid) counts =
      let m = Unpublish uid in
      stay (of_connection conn (touched_by_message m ts) ps) n.connections _ ps _ refl
      (topics-said worker conn m counts)
      (unpublished-stay conn ps ts (there worker conn m counts) uid
      (unpublishes conn uid (none worker conn m counts)))
  said-stay worker conn (SetProps name update) counts =
      let m = SetProps name update in
      stay (of_connection conn (touched_by_message m ts) ps) n.connections _ ps _ refl
      (topics-said worker conn m counts)
      (updated-stay conn ps ts (there worker conn m counts) name update)
  said-stay worker conn (Subscribe uid sub) counts =
      stay (of_connection conn (touched_by_message (Subscribe uid sub) ts) ps)
      (with_subs conn (with_sub uid sub) n.connections) ts _ ts
      (opens-resubscribed conn (with_sub uid sub) n.connections) refl
      (subscribed-stay conn ps ts (with_sub uid sub))
  said-stay worker conn (Unsubscribe uid) counts =
      stay (of_connection conn (touched_by_message (Unsubscribe uid) ts) ps)
      (with_subs conn (without_sub uid) n.connections) ts _ ts
      (opens-resubscribed conn (without_sub uid) n.connections) refl
      (subscribed-stay conn ps ts (without_sub uid))

  -- and so does each entry
  deed-stays : (worker conn now : ℕ) (d : Deed) → IsNewcomer n conn d
      → let e : Entry = record { worker = worker; conn = conn; now = now; deed = d } in
      untouched (touched n e) (metas_now (after n e)) ≡ untouched (touched n e) (metas_now n)
  deed-stays worker conn now (Opened name) new =
      let c = opened worker conn name in
      stay (touched_by_open name) (n.connections ++ c ∷ []) ts (ps ++ plain_of c ∷ []) ts
      (opens-joined n.connections c refl) refl (opened-stay (plain_of c) ps ts new refl)
  deed-stays worker conn now NotOpened new = refl
  deed-stays worker conn now (Said (msg.Control m)) new = by (cause_of n worker conn (msg.Control m)) refl
    where
      names : List (List ℕ)
      names = of_connection conn (touched_by_message m ts) ps

      by : (c : Option Cause) → cause_of n worker conn (msg.Control m) ≡ c
          → untouched (cond (is_none c) names [])
          (metas_now (record (cond (is_traced (msg.Control m) c) (traced_now n conn (msg.Control m)) n)
          { place = n.place + 1; moment = now }))
          ≡ untouched (cond (is_none c) names []) (metas_now n)
      by None e = said-stay worker conn m e
      by (Some cause) e = refl
  deed-stays worker conn now (Said (msg.Put v)) new =
      ap (untouched [])
      (metas-stay n (record { worker = worker; conn = conn; now = now; deed = Said (msg.Put v) }) refl)
  deed-stays worker conn now (Drained batch) new = refl
  deed-stays worker conn now Closed new = by (is_open_for n.connections worker conn) refl
    where
      names : List (List ℕ)
      names = of_connection conn (touched_by_close ts) ps

      by : (b : Bool) → is_open_for n.connections worker conn ≡ b
          → untouched (cond b names [])
          (metas_now (record (cond b (closed_now n conn) n) { place = n.place + 1; moment = now }))
          ≡ untouched (cond b names []) (metas_now n)
      by true e =
          stay names (closed (n.place + 1) conn n.connections) (topics (map (closed_for (n.place + 1) conn) n.lives))
          (others conn ps) (dropped ts conn) (closed-others (n.place + 1) conn n.connections)
          (topics-closed (n.place + 1) conn n.lives)
          (closed-stay conn ps ts (open-there n.connections worker conn e))
      by false e = refl
  deed-stays worker conn now Permitted new = refl
  deed-stays worker conn now NoPermit new = refl
  deed-stays worker conn now Shut new = refl

-- ---- histories

newcomer : (start : Start) (past : List Entry) (worker conn moment : ℕ) (d : Deed) → Legal start past
    → IsLawful start past worker conn moment d → IsNewcomer (now_of start past) conn d
newcomer start past worker conn moment (Opened name) legal lawful =
    let next = lawful.1 in
    no-rows conn (topics (now_of start past).lives) (unpublished start past conn legal (omega arith))
newcomer start past worker conn moment NotOpened legal lawful = tt
newcomer start past worker conn moment (Said m) legal lawful = tt
newcomer start past worker conn moment (Drained batch) legal lawful = tt
newcomer start past worker conn moment Closed legal lawful = tt
newcomer start past worker conn moment Permitted legal lawful = tt
newcomer start past worker conn moment NoPermit legal lawful = tt
newcomer start past worker conn moment Shut legal lawful = tt

-- in a lawful history the last entry leaves the meta topics that it doesn't touch
pub entry-stays : (start : Start) (past : List Entry) (e : Entry) → Legal start (e ∷ past)
    → let names = touched (now_of start past) e in
    untouched names (metas_now (now_of start (e ∷ past))) ≡ untouched names (metas_now (now_of start past))
entry-stays start past e legal =
    deed-stays (now_of start past) e.worker e.conn e.now e.deed
    (newcomer start past e.worker e.conn e.now e.deed legal.2 legal.0)

-- ---- by name

-- what is found among those that pass
find-passing : {X : Type 0} (test passes : X → Bool) → ((x : X) → test x ≡ true → passes x ≡ true)
    → (xs : List X) → find test (filter passes xs) ≡ find test xs
find-passing test passes h [] = refl
find-passing {X} test passes h (x ∷ xs) = by (passes x) refl (test x) refl (find-passing test passes h xs)
  where
    by : (b : Bool) → passes x ≡ b → (d : Bool) → test x ≡ d → find test (filter passes xs) ≡ find test xs
        → find test (cond b (x ∷ filter passes xs) (filter passes xs)) ≡ cond d (Some x) (find test xs)
    by true e d f more =
        ap (λ c. cond c (Some x) (find test (filter passes xs))) f ∙ ap (λ o. cond d (Some x) o) more
    by false e true f more = let t : passes x ≡ true = h x f in absurd (cc)
    by false e false f more = more

pub find-untouched : (names : List (List ℕ)) (name : List ℕ) → is_used names name ≡ false → (ms : List MetaNow)
    → find (is_named name) (untouched names ms) ≡ find (is_named name) ms
find-untouched names name e ms =
    find-passing (is_named name) (λ m. not (is_used names m.name))
    (λ m f. ap (λ k. not (is_used names k)) ((bytes_eq-Decides m.name name).0 f) ∙ ap not e) ms

pub named-stays : (start : Start) (past : List Entry) (e : Entry) (name : List ℕ) → Legal start (e ∷ past)
    → is_used (touched (now_of start past) e) name ≡ false
    → named_in (roster_now (now_of start (e ∷ past))) name ≡ named_in (roster_now (now_of start past)) name
named-stays start past e name legal other =
    let names = touched (now_of start past) e in
    sym (find-untouched names name other (metas_now (now_of start (e ∷ past))))
    ∙ ap (find (is_named name)) (entry-stays start past e legal)
    ∙ find-untouched names name other (metas_now (now_of start past))

-- ---- what a server keeps

module _ (server : ServerState) (start : Start) (past : List Entry) (represents : Represents server start past)
    (worker now : ℕ) where
  abbrev s : State
  s = server.state

  abbrev n : Now
  n = now_of start past

  kept : IsKeptOf s n
  kept = kept-of server start past represents

  abbrev entry_of : Act → Entry
  entry_of a = entry worker (moment_of n now) a (reply s worker now a)

  -- an act touches what its entry does
  touched-alike : (a : Act) → touched_by_act s worker a ≡ touched n (entry_of a)
  touched-alike (act.Open name version) = by (leb last_connection s.opened)
    where
      given : List ℕ
      given = given_name (given_names s.opens) name

      by : (b : Bool)
          → cond b [] (touched_by_open given)
          ≡ touched n (entry worker (moment_of n now) (act.Open name version)
          (cond b (out.Ignored ConnsSpent) (out.Opened (s.opened + 1) given)))
      by true = refl
      by false = refl
  touched-alike (act.Said conn (msg.Control m)) =
      ap (λ c. cond (is_none c) (of_connection conn (touched_by_message m s.topics) (map plain s.opens)) [])
      (cause-is s n kept worker conn (msg.Control m))
      ∙ ap (λ ts. cond (is_none cause) (of_connection conn (touched_by_message m ts) (map plain s.opens)) [])
      (topics-are s n kept)
      ∙ ap (λ ps. cond (is_none cause) (of_connection conn (touched_by_message m (topics n.lives)) ps) [])
      kept.opens_are
    where
      cause : Option Cause
      cause = cause_of n worker conn (msg.Control m)
  touched-alike (act.Said conn (msg.Put v)) = refl
  touched-alike (act.Drain conn budget) = refl
  touched-alike (act.Close conn) =
      ap (λ b. cond b (of_connection conn (touched_by_close s.topics) (map plain s.opens)) [])
      (open-is s n kept worker conn)
      ∙ ap (λ ts. cond (is_open_for n.connections worker conn)
      (of_connection conn (touched_by_close ts) (map plain s.opens)) []) (topics-are s n kept)
      ∙ ap (λ ps. cond (is_open_for n.connections worker conn)
      (of_connection conn (touched_by_close (topics n.lives)) ps) []) kept.opens_are
  touched-alike act.Permit = by (may_grant s)
    where
      by : (b : Bool)
          → []
          ≡ touched n (entry worker (moment_of n now) act.Permit (cond b out.Permitted out.NoPermit))
      by true = refl
      by false = refl
  touched-alike act.Shut = refl

  newcomer-of : (a : Act) → IsNewcomer n (entry_of a).conn (entry_of a).deed
  newcomer-of (act.Open name version) = by (leb last_connection s.opened)
    where
      given : List ℕ
      given = given_name (given_names s.opens) name

      fresh : pub_rows (s.opened + 1) (topics n.lives) ≡ []
      fresh =
          let same = opened-is s n kept in
          no-rows (s.opened + 1) (topics n.lives)
          (unpublished start past (s.opened + 1) represents.legal (omega arith))

      by : (b : Bool)
          → let e = entry worker (moment_of n now) (act.Open name version)
          (cond b (out.Ignored ConnsSpent) (out.Opened (s.opened + 1) given)) in
          IsNewcomer n e.conn e.deed
      by true = tt
      by false = fresh
  newcomer-of (act.Said conn m) = tt
  newcomer-of (act.Drain conn budget) = tt
  newcomer-of (act.Close conn) = tt
  newcomer-of act.Permit = by (may_grant s)
    where
      by : (b : Bool)
          → let e = entry worker (moment_of n now) act.Permit (cond b out.Permitted out.NoPermit) in
          IsNewcomer n e.conn e.deed
      by true = tt
      by false = tt
  newcomer-of act.Shut = tt

  kept-after : (a : Act) → IsKeptOf (acted s worker now a) (after n (entry_of a))
  kept-after a =
      let few = represents.start_is.few in
      kept-acted s n worker now a
      (orderly start past (omega arith) represents.start_is.names represents.legal) kept

  -- what an act leaves of the meta topics of what is kept
  pub act-stays : (a : Act)
      → let names = touched_by_act s worker a in
      let new = acted s worker now a in
      untouched names (open_metas new.opens new.topics) ≡ untouched names (open_metas s.opens s.topics)
  act-stays a =
      let after_is = kept-after a in
      let e = entry_of a in
      ap (untouched (touched_by_act s worker a))
      (metas-kept (acted s worker now a) (after n e) after_is.core_is after_is.opens_are)
      ∙ ap (λ names. untouched names (metas_now (after n e))) (touched-alike a)
      ∙ deed-stays n e.worker e.conn e.now e.deed (newcomer-of a)
      ∙ sym (ap (λ names. untouched names (metas_now n)) (touched-alike a))
      ∙ sym (ap (untouched (touched_by_act s worker a)) (metas-kept s n kept.core_is kept.opens_are))
