-- How a fact of every history is shown: what each entry keeps of the lives and of the connections.
use Rattle.std.proofs.Common.{◌≡◌, ◌≢◌, ◌≤◌, ◌+◌, ℕ, ℤ, Bool, true, false, cond, leb, List, [], ◌∷◌, ◌++◌, Option, Some}
use Rattle.std.proofs.Common.{None, map, length, refl, sym, subst}
use Rattle.std.specs.List.{list_any}
use Rattle.serde_json.specs.Data.{Data}
use Rattle.nt_control.specs.declared.message.ClientMsg.{ClientMsg}
use Rattle.nt_control.specs.declared.message.ClientMsg.TheVariants.{Publish, Unpublish, SetProps, Subscribe}
use Rattle.nt_control.specs.declared.message.ClientMsg.TheVariants.{Unsubscribe}
use Rattle.nt_values.specs.declared.value.Value.{Value}
use Rattle.nt_subs.specs.Subscriptions.{Subs, AreByUid, with_sub, without_sub}
use Rattle.nt_subs.proofs.Indices.{by_uid-with_sub, by_uid-without_sub}
use Rattle.nt_topics.specs.Names.{is_special}
use Rattle.nt_rules.specs.Limits.{last_id, most_publishers}
use Rattle.nt_rules.specs.declared.topic.Pub.{Pub}
use Rattle.nt_rules.specs.declared.topic.Topic.{Topic}
use Rattle.nt_rules.specs.declared.topic.Cause.{Cause}
use Rattle.nt_rules.specs.declared.topic.Cause.TheVariants.{NoConn, Special, UidInUse, PubsFull}
use Rattle.nt_rules.specs.topics.Topics.{is_named, has_publisher, publishers_of, publish_cause, new_cause}
use Rattle.nt_rules.proofs.Calls.{next-within}
use Rattle.nt_rules.specs.declared.act.Msg.{Msg}
use Rattle.nt_rules.specs.declared.act.Msg.TheVariants as msg
use Rattle.nt_rules.specs.declared.act.Deed.{Deed}
use Rattle.nt_rules.specs.declared.act.Deed.TheVariants.{Opened, NotOpened, Said, Drained, Closed, Permitted, NoPermit}
use Rattle.nt_rules.specs.declared.act.Deed.TheVariants.{Shut}
use Rattle.nt_rules.specs.declared.act.Entry.{Entry}
use Rattle.nt_rules.specs.history.Lives.{Life, topics, at_living, or_ended, with_publishing, born, without_publisher}
use Rattle.nt_rules.specs.history.Lives.{with_setting, with_a_put, closed_for, restored}
use Rattle.nt_rules.specs.history.Answer.{IsLawful, Legal, is_used, names_of}
use Rattle.nt_rules.specs.declared.start.Start.{Start}
use Rattle.nt_rules.specs.history.Now.{Connection, Now, opened, open_ones, with_subs, is_open_for, is_traced}
use Rattle.nt_rules.specs.history.Now.{said_cause, subs_of, cause_of, connections_after, lives_after, closed}
use Rattle.nt_rules.specs.history.Now.{after_deed, now_of}

-- the present after a traced message, and after a connection was closed
abbrev pub traced_now : Now → ℕ → Msg → Now
traced_now n conn m =
    record n {
      connections = connections_after n.connections conn m;
      lives = lives_after (n.place + 1) n.lives conn m;
    }

abbrev pub closed_now : Now → ℕ → Now
closed_now n conn =
    record n {
      connections = closed (n.place + 1) conn n.connections;
      lives = map (closed_for (n.place + 1) conn) n.lives;
    }

-- ---- lives

-- a statement of a place and of the lives there, which each thing that may happen at the next place keeps
pub record IsKeptByLives (P : ℕ → List Life → Type 0) : Type 0 where
  pub later : (k : ℕ) (lives : List Life) → P k lives → P (k + 1) lives
  pub joined : (k : ℕ) (name : List ℕ) (p : Pub) (lives : List Life)
      → list_any (has_publisher p.conn p.uid) (topics lives) ≡ false → P k lives
      → P (k + 1) (at_living (is_named name) (with_publishing (k + 1) p) lives)
  pub began : (k : ℕ) (name typ : List ℕ) (props : Data) (p : Pub) (lives : List Life)
      → list_any (has_publisher p.conn p.uid) (topics lives) ≡ false
      → list_any (is_named name) (topics lives) ≡ false → length lives + 1 ≤ last_id → P k lives
      → P (k + 1) (lives ++ born (k + 1) (length lives + 1) name typ props p ∷ [])
  pub left : (k conn : ℕ) (uid : ℤ) (lives : List Life) → P k lives
      → P (k + 1)
      (at_living (has_publisher conn uid) (λ l. or_ended (k + 1) (without_publisher conn uid l)) lives)
  pub updated : (k conn : ℕ) (name : List ℕ) (u : Data) (lives : List Life) → P k lives
      → P (k + 1) (at_living (is_named name) (λ l. or_ended (k + 1) (with_setting (k + 1) conn u l)) lives)
  pub put : (k conn : ℕ) (uid : ℤ) (time : ℕ) (value : Value) (lives : List Life) → P k lives
      → P (k + 1)
      (at_living (has_publisher conn uid)
      (with_a_put (record { place = k + 1; time = time; value = value })) lives)
  pub dropped : (k conn : ℕ) (lives : List Life) → P k lives → P (k + 1) (map (closed_for (k + 1) conn) lives)

-- a control message that leaves a trace counts
traced-counts : (m : ClientMsg) (c : Option Cause) → is_traced (msg.Control m) c ≡ true → c ≡ None
traced-counts m None e = refl
traced-counts m (Some cause) e = absurd (cc)

-- one that counts has a uid that its connection uses nowhere
uid-free : (ts : List Topic) (next conn : ℕ) (uid : ℤ) (name : List ℕ) (props : Data)
    → publish_cause ts next conn uid name props ≡ None → list_any (has_publisher conn uid) ts ≡ false
uid-free ts next conn uid name props e =
    by (is_special name) (list_any (has_publisher conn uid) ts) e
  where
    other : Option Cause
    other =
        cond (leb most_publishers (publishers_of conn ts)) (Some PubsFull)
        (cond (list_any (is_named name) ts) None (new_cause (length ts) next props))

    by : (b c : Bool) → cond b (Some Special) (cond c (Some UidInUse) other) ≡ None → c ≡ false
    by true c e = absurd (cc)
    by false true e = absurd (cc)
    by false false e = refl

said-keeps : (P : ℕ → List Life → Type 0) → IsKeptByLives P
    → (k : ℕ) (lives : List Life) (subs : Subs) (conn : ℕ) (m : Msg)
    → is_traced m (said_cause (topics lives) (length lives + 1) subs conn m) ≡ true → P k lives
    → P (k + 1) (lives_after (k + 1) lives conn m)
said-keeps P keeps k lives subs conn (msg.Control (Publish name uid typ props)) traced h =
    by (list_any (is_named name) (topics lives)) refl
  where
    p : Pub
    p = record { conn = conn; uid = uid; typ = typ }

    counts : publish_cause (topics lives) (length lives + 1) conn uid name props ≡ None
    counts =
        traced-counts (Publish name uid typ props)
        (publish_cause (topics lives) (length lives + 1) conn uid name props) traced

    free : list_any (has_publisher conn uid) (topics lives) ≡ false
    free = uid-free (topics lives) (length lives + 1) conn uid name props counts

    by : (b : Bool) → list_any (is_named name) (topics lives) ≡ b
        → P (k + 1)
        (cond b (at_living (is_named name) (with_publishing (k + 1) p) lives)
        (lives ++ born (k + 1) (length lives + 1) name typ props p ∷ []))
    by true e = keeps.joined k name p lives free h
    by false e =
        keeps.began k name typ props p lives free e
        (next-within (topics lives) (length lives + 1) conn uid name props counts e) h
said-keeps P keeps k lives subs conn (msg.Control (Unpublish uid)) traced h = keeps.left k conn uid lives h
said-keeps P keeps k lives subs conn (msg.Control (SetProps name update)) traced h =
    keeps.updated k conn name update lives h
said-keeps P keeps k lives subs conn (msg.Control (Subscribe uid sub)) traced h = keeps.later k lives h
said-keeps P keeps k lives subs conn (msg.Control (Unsubscribe uid)) traced h = keeps.later k lives h
said-keeps P keeps k lives subs conn (msg.Put v) traced h = keeps.put k conn v.id v.time v.value lives h

-- one of a connection that isn't open leaves none
unknown-untraced : (m : Msg) → is_traced m (Some NoConn) ≢ true
unknown-untraced (msg.Control m) e = cc
unknown-untraced (msg.Put v) e = cc

deed-keeps : (P : ℕ → List Life → Type 0) → IsKeptByLives P → (n : Now) (worker conn : ℕ) (d : Deed)
    → P n.place n.lives
    → P (n.place + 1) (after_deed n worker conn d).lives
deed-keeps P keeps n worker conn (Opened name) h = keeps.later n.place n.lives h
deed-keeps P keeps n worker conn NotOpened h = keeps.later n.place n.lives h
deed-keeps P keeps n worker conn (Said m) h = by (is_traced m (cause_of n worker conn m)) refl
  where
    c : Option Cause
    c = said_cause (topics n.lives) (length n.lives + 1) (subs_of n.connections conn) conn m

    is_there : (b : Bool) → is_traced m (cond b c (Some NoConn)) ≡ true → is_traced m c ≡ true
    is_there true e = e
    is_there false e = absurd (unknown-untraced m e)

    by : (b : Bool) → is_traced m (cause_of n worker conn m) ≡ b
        → P (n.place + 1) (cond b (traced_now n conn m) n).lives
    by true e =
        said-keeps P keeps n.place n.lives (subs_of n.connections conn) conn m
        (is_there (is_open_for n.connections worker conn) e) h
    by false e = keeps.later n.place n.lives h
deed-keeps P keeps n worker conn (Drained batch) h = keeps.later n.place n.lives h
deed-keeps P keeps n worker conn Closed h = by (is_open_for n.connections worker conn)
  where
    by : (b : Bool)
        → P (n.place + 1) (cond b (closed_now n conn) n).lives
    by true = keeps.dropped n.place conn n.lives h
    by false = keeps.later n.place n.lives h
deed-keeps P keeps n worker conn Permitted h = keeps.later n.place n.lives h
deed-keeps P keeps n worker conn NoPermit h = keeps.later n.place n.lives h
deed-keeps P keeps n worker conn Shut h = keeps.later n.place n.lives h

-- what holds of the restored lives and is kept holds in every history
pub lives-keep : (P : ℕ → List Life → Type 0) → IsKeptByLives P → (start : Start)
    → P 0 (restored 1 start.saved)
    → (past : List Entry) → P (now_of start past).place (now_of start past).lives
lives-keep P keeps start h [] = h
lives-keep P keeps start h (e ∷ past) =
    deed-keeps P keeps (now_of start past) e.worker e.conn e.deed (lives-keep P keeps start h past)

-- ---- connections

-- subscriptions that stood by rising uid still do
abbrev pub KeepsByUid : (Subs → Subs) → Type 0
KeepsByUid f = (subs : Subs) → AreByUid subs → AreByUid (f subs)

-- a statement of a place and of the connections there, which each thing that may happen at the next place
-- keeps
pub record IsKeptByConnections (P : ℕ → List Connection → Type 0) : Type 0 where
  pub later : (k : ℕ) (cs : List Connection) → P k cs → P (k + 1) cs
  pub subscribed : (k conn : ℕ) (f : Subs → Subs) (cs : List Connection) → KeepsByUid f → P k cs
      → P (k + 1) (with_subs conn f cs)
  pub opened : (k worker : ℕ) (name : List ℕ) (cs : List Connection)
      → is_used (names_of (open_ones cs)) name ≡ false → P k cs
      → P (k + 1) (cs ++ opened worker (length cs + 1) name ∷ [])
  pub closed : (k conn : ℕ) (cs : List Connection) → P k cs → P (k + 1) (closed (k + 1) conn cs)

said-keeps-connections : (P : ℕ → List Connection → Type 0) → IsKeptByConnections P
    → (k : ℕ) (cs : List Connection) (conn : ℕ) (m : Msg)
    → P k cs → P (k + 1) (connections_after cs conn m)
said-keeps-connections P keeps k cs conn (msg.Control (Publish name uid typ props)) h = keeps.later k cs h
said-keeps-connections P keeps k cs conn (msg.Control (Unpublish uid)) h = keeps.later k cs h
said-keeps-connections P keeps k cs conn (msg.Control (SetProps name update)) h = keeps.later k cs h
said-keeps-connections P keeps k cs conn (msg.Control (Subscribe uid sub)) h =
    keeps.subscribed k conn (with_sub uid sub) cs (by_uid-with_sub uid sub) h
said-keeps-connections P keeps k cs conn (msg.Control (Unsubscribe uid)) h =
    keeps.subscribed k conn (without_sub uid) cs (by_uid-without_sub uid) h
said-keeps-connections P keeps k cs conn (msg.Put v) h = keeps.later k cs h

deed-keeps-connections : (P : ℕ → List Connection → Type 0) → IsKeptByConnections P
    → (start : Start) (past : List Entry)
    → (worker conn moment : ℕ) (d : Deed) → IsLawful start past worker conn moment d
    → P (now_of start past).place (now_of start past).connections
    → P ((now_of start past).place + 1) (after_deed (now_of start past) worker conn d).connections
deed-keeps-connections P keeps start past worker conn moment (Opened name) lawful h =
    subst (λ number. P ((now_of start past).place + 1)
    ((now_of start past).connections ++ opened worker number name ∷ [])) (sym lawful.1)
    (keeps.opened (now_of start past).place worker name (now_of start past).connections lawful.2 h)
deed-keeps-connections P keeps start past worker conn moment NotOpened lawful h = keeps.later _ _ h
deed-keeps-connections P keeps start past worker conn moment (Said m) lawful h =
    by (is_traced m (cause_of n worker conn m))
  where
    n : Now
    n = now_of start past

    by : (b : Bool)
        → P (n.place + 1) (cond b (traced_now n conn m) n).connections
    by true = said-keeps-connections P keeps n.place n.connections conn m h
    by false = keeps.later n.place n.connections h
deed-keeps-connections P keeps start past worker conn moment (Drained batch) lawful h = keeps.later _ _ h
deed-keeps-connections P keeps start past worker conn moment Closed lawful h =
    by (is_open_for n.connections worker conn)
  where
    n : Now
    n = now_of start past

    by : (b : Bool)
        → P (n.place + 1) (cond b (closed_now n conn) n).connections
    by true = keeps.closed n.place conn n.connections h
    by false = keeps.later n.place n.connections h
deed-keeps-connections P keeps start past worker conn moment Permitted lawful h = keeps.later _ _ h
deed-keeps-connections P keeps start past worker conn moment NoPermit lawful h = keeps.later _ _ h
deed-keeps-connections P keeps start past worker conn moment Shut lawful h = keeps.later _ _ h

-- what holds of no connections and is kept holds in every lawful history
pub connections-keep : (P : ℕ → List Connection → Type 0) → IsKeptByConnections P → (start : Start) → P 0 []
    → (past : List Entry) → Legal start past → P (now_of start past).place (now_of start past).connections
connections-keep P keeps start h [] legal = h
connections-keep P keeps start h (e ∷ past) legal =
    deed-keeps-connections P keeps start past e.worker e.conn e.now e.deed legal.0
    (connections-keep P keeps start h past legal.2)
