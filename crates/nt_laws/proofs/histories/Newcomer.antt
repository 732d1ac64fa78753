-- A connection that wasn't opened yet is owed nothing.
use Rattle.std.proofs.Common.{◌≡◌, ◌≤◌, ◌<◌, ◌+◌, ◌==◌, ◌++◌, ◌&&◌, ◌||◌, not, ℕ, suc, Bool, true, false, cond, leb}
use Rattle.std.proofs.Common.{List, [], ◌∷◌, Option, Some, None, map, filter, length, refl, sym, ◌∙◌, ap, subst, arith}
use Rattle.std.specs.Prelude.{is_none, is_some, option_map}
use Rattle.std.specs.List.{AllByRecursion, list_any, find}
use Rattle.std.proofs.lemmas.Option.{none-some}
use Rattle.std.proofs.lemmas.Bool.Decides.{nat_tests}
use Rattle.nt_control.specs.declared.message.ClientMsg.TheVariants.{Publish, Unpublish, SetProps, Subscribe}
use Rattle.nt_control.specs.declared.message.ClientMsg.TheVariants.{Unsubscribe}
use Rattle.nt_subs.specs.declared.wish.Wanted.{Wanted}
use Rattle.nt_subs.specs.declared.wish.Wanted.TheVariants.{No}
use Rattle.nt_subs.specs.Wishes.{wanted}
use Rattle.nt_rules.specs.declared.topic.Saved.{Saved}
use Rattle.nt_rules.specs.declared.topic.Pub.{Pub}
use Rattle.nt_rules.specs.declared.topic.Cause.TheVariants.{NoConn}
use Rattle.nt_rules.specs.topics.Topics.{has_publisher, has_conn, is_named, lives_on}
use Rattle.nt_topics.specs.Properties.{is_cached}
use Rattle.nt_rules.specs.outbox.Keys.{Key, is_in, sets, publish_key, setting_key}
use Rattle.nt_rules.specs.outbox.Marks.{fresh, is_blank, is_meta, meta_wish}
use Rattle.nt_rules.specs.outbox.Calls.{fallen, nothing_owed}
use Rattle.nt_rules.specs.declared.act.Msg.{Msg}
use Rattle.nt_rules.specs.declared.act.Msg.TheVariants as msg
use Rattle.nt_rules.specs.declared.act.Deed.{Deed}
use Rattle.nt_rules.specs.declared.act.Deed.TheVariants.{Opened, NotOpened, Said, Drained, Closed, Permitted, NoPermit}
use Rattle.nt_rules.specs.declared.act.Deed.TheVariants.{Shut}
use Rattle.nt_rules.specs.declared.act.Entry.{Entry}
use Rattle.nt_rules.specs.history.Lives.{Life, Publishing, Setting, topics, topic_of, is_living, at_first, at_living}
use Rattle.nt_rules.specs.history.Lives.{or_ended, with_publishing, born, without_publisher, without_conn, with_setting}
use Rattle.nt_rules.specs.history.Lives.{with_a_put, closed_for, restored}
use Rattle.nt_rules.specs.declared.start.Start.{Start}
use Rattle.nt_rules.specs.history.Now.{Now, Connection, is_open, is_conn, is_there, is_open_for, subs_of, closed}
use Rattle.nt_rules.specs.history.Now.{said_cause, cause_of, is_traced, connections_after, lives_after, after_deed}
use Rattle.nt_rules.specs.history.Now.{now_of}
use Rattle.nt_rules.specs.history.Metas.{meta_place, meta_life, meta_lives, all_lives}
use Rattle.nt_rules.specs.history.Owed.{Account, is_announced, owed_by, given_after, set_on, settings_after, account}
use Rattle.nt_rules.specs.history.Owed.{accounted, wish_for, wish_on, since_for, keys_owed, lives_weight, weight_by}
use Rattle.nt_rules.specs.history.Owed.{owed_values, owed_cached, owed_uncached, owed_newest, newest_for}
use Rattle.nt_rules.specs.history.Answer.{Legal}
use Rattle.nt_rules.specs.history.Marks.{waiting_publish, waiting_setting, waiting_put, mark_of, topic_mark, meta_mark}
use Rattle.nt_rules.specs.history.Marks.{end_mark, marks_by, marks_owed}
use Rattle.nt_rules.specs.history.Step.{Owes}
use Rattle.nt_laws.proofs.histories.Facts.{IsNumberedConnections, connections-numbered}
use Rattle.nt_laws.proofs.topics.ItemFacts.{each-more, each-both, each-append}
use Rattle.nt_laws.proofs.metas.AllLives.{IsNumbered, IsMetaLife, metas-are, clients-below}
use Rattle.nt_laws.proofs.metas.MetaOrder.{connections-length, opens}
use Rattle.nt_laws.proofs.marks.WishChanges.{given-other}
use Rattle.nt_laws.proofs.topics.Turns.{setting-by}

-- ---- a number that no connection has

abbrev NoneNumbered : ℕ → List Connection → Type 0
NoneNumbered conn [] = Unit {0}
NoneNumbered conn (c ∷ cs) = ((c.number == conn) ≡ false) × NoneNumbered conn cs

past-last : (conn k : ℕ) (cs : List Connection) → IsNumberedConnections k cs → k + length cs ≤ conn
    → NoneNumbered conn cs
past-last conn k [] h le = tt
past-last conn k (c ∷ cs) h le =
    let number = h.0 in
    let more : k + suc (length cs) ≤ conn = le in
    (grind (arith, nat_tests), past-last conn (suc k) cs h.1 (omega arith))

no-conn : (conn : ℕ) (test : Connection → Bool) (cs : List Connection) → NoneNumbered conn cs
    → list_any (λ c. is_conn conn c && test c) cs ≡ false
no-conn conn test [] h = refl
no-conn conn test (c ∷ cs) h =
    ap (λ b. ((is_open c && b) && test c) || list_any (λ c. is_conn conn c && test c) cs) h.0
    ∙ by (is_open c) (no-conn conn test cs h.1)
  where
    by : (o : Bool) → list_any (λ c. is_conn conn c && test c) cs ≡ false
        → (((o && false) && test c) || list_any (λ c. is_conn conn c && test c) cs) ≡ false
    by true more = more
    by false more = more

not-there : (conn : ℕ) (cs : List Connection) → NoneNumbered conn cs → is_there cs conn ≡ false
not-there conn [] h = refl
not-there conn (c ∷ cs) h = ap (λ b. (is_open c && b) || is_there cs conn) h.0
    ∙ by (is_open c) (not-there conn cs h.1)
  where
    by : (o : Bool) → is_there cs conn ≡ false → ((o && false) || is_there cs conn) ≡ false
    by true more = more
    by false more = more

no-subs : (conn : ℕ) (cs : List Connection) → NoneNumbered conn cs → subs_of cs conn ≡ []
no-subs conn [] h = refl
no-subs conn (c ∷ cs) h = ap (λ b. cond (is_open c && b) c.subs (subs_of cs conn)) h.0
    ∙ by (is_open c) (no-subs conn cs h.1)
  where
    by : (o : Bool) → subs_of cs conn ≡ [] → cond (o && false) c.subs (subs_of cs conn) ≡ []
    by true more = more
    by false more = more

-- in a history: a number past the last one
abbrev pub IsNew : Start → List Entry → ℕ → Type 0
IsNew start past conn = length (now_of start past).connections < conn

none-numbered : (start : Start) (past : List Entry) (conn : ℕ) → Legal start past → IsNew start past conn
    → NoneNumbered conn (now_of start past).connections
none-numbered start past conn legal new =
    past-last conn 1 (now_of start past).connections (connections-numbered start past legal) (omega arith)

was-new : (start : Start) (past : List Entry) (e : Entry) (conn : ℕ) → IsNew start (e ∷ past) conn
    → IsNew start past conn
was-new start past e conn new =
    let more = connections-length (now_of start past) e.worker e.conn e.deed in
    less (length (now_of start past).connections) (length (now_of start (e ∷ past)).connections)
    (opens e.deed) more new
  where
    less : (a b k : ℕ) → b ≡ a + k → b < conn → a < conn
    less a b k e h = omega arith

-- what it says is refused
refused : (n : Now) (worker conn : ℕ) (m : Msg) → is_open_for n.connections worker conn ≡ false
    → cause_of n worker conn m ≡ Some NoConn
refused n worker conn m e =
    ap (λ b. cond b (said_cause (topics n.lives) (length n.lives + 1) (subs_of n.connections conn) conn m)
    (Some NoConn)) e

-- ---- its account

abbrev nothing : Account
nothing = record { given = []; told_settings = []; fell = None }

-- it changes no properties
set-none : (n : Now) (worker conn : ℕ) (d : Deed) → is_open_for n.connections worker conn ≡ false
    → set_on n worker conn d ≡ None
set-none n worker conn (Opened name) e = refl
set-none n worker conn NotOpened e = refl
set-none n worker conn (Said (msg.Control (Publish name uid typ props))) e = refl
set-none n worker conn (Said (msg.Control (Unpublish uid))) e = refl
set-none n worker conn (Said (msg.Control (SetProps name update))) e =
    ap (λ c. cond (is_none c) (option_map (λ t. t.id) (find (is_named name) (topics n.lives))) None)
    (refused n worker conn (msg.Control (SetProps name update)) e)
set-none n worker conn (Said (msg.Control (Subscribe uid sub))) e = refl
set-none n worker conn (Said (msg.Control (Unsubscribe uid))) e = refl
set-none n worker conn (Said (msg.Put v)) e = refl
set-none n worker conn (Drained batch) e = refl
set-none n worker conn Closed e = refl
set-none n worker conn Permitted e = refl
set-none n worker conn NoPermit e = refl
set-none n worker conn Shut e = refl

-- nothing that it is owed weighs anything
weighs-new : (a : Account) (start : Start) (past : List Entry) (conn : ℕ)
    → is_there (now_of start past).connections conn ≡ false
    → weight_by a start past conn ≡ 0
weighs-new a start past conn gone =
    ap (λ b. cond (b && is_none a.fell)
    (lives_weight a conn (wish_on (wish_for start past conn)) (since_for start past conn) (all_lives start past)) 0)
    gone

-- and nothing is owed to it
owes-new : (a : Account) (start : Start) (past : List Entry) (conn : ℕ)
    → is_there (now_of start past).connections conn ≡ false
    → owed_by a start past conn ≡ []
owes-new a start past conn gone =
    ap (λ b. cond (b && is_none a.fell)
    (keys_owed a conn (wish_on (wish_for start past conn)) (since_for start past conn) (all_lives start past)) [])
    gone

nothing-left : (a : Account) → a.given ≡ [] → a.told_settings ≡ [] → a.fell ≡ None → a ≡ nothing
nothing-left a g t f = fields a.given a.told_settings a.fell g t f
  where
    fields : (given : List Key) (told : List ℕ) (fell : Option ℕ) → given ≡ [] → told ≡ [] → fell ≡ None
        → record { given = given; told_settings = told; fell = fell } ≡ nothing
    fields given told fell g t f = cc

-- one entry more
stays-new : (start : Start) (past : List Entry) (e : Entry) (conn : ℕ) → Legal start past
    → IsNew start past conn
    → is_there (now_of start (e ∷ past)).connections conn ≡ false → account start past conn ≡ nothing
    → account start (e ∷ past) conn ≡ nothing
stays-new start past e conn legal new gone before_is =
    nothing-left (account start (e ∷ past) conn) given
    (told (set_on (now_of start past) e.worker e.conn e.deed) (e.conn == conn) refl
    (set-none (now_of start past) e.worker e.conn e.deed)) fell
  where
    shut : (worker : ℕ) → is_open_for (now_of start past).connections worker conn ≡ false
    shut worker = no-conn conn (λ c. c.worker == worker) (now_of start past).connections
        (none-numbered start past conn legal new)

    owed : List Key
    owed = owed_by (account start past conn) start past conn

    none_owed : owed ≡ []
    none_owed =
        owes-new (account start past conn) start past conn
        (not-there conn (now_of start past).connections (none-numbered start past conn legal new))

    given : (account start (e ∷ past) conn).given ≡ []
    given =
        ap (λ b. given_after e.deed ((e.conn == conn) && b) (account start past conn).given owed) (shut e.worker)
        ∙ ap (λ b. given_after e.deed b (account start past conn).given owed) (neither (e.conn == conn))
        ∙ given-other e.deed (account start past conn).given owed
        ∙ ap (λ (a : Account). a.given) before_is
      where
        neither : (b : Bool) → (b && false) ≡ false
        neither true = refl
        neither false = refl

    told : (set : Option ℕ) (b : Bool) → (e.conn == conn) ≡ b
        → (is_open_for (now_of start past).connections e.worker e.conn ≡ false → set ≡ None)
        → settings_after (account start past conn) owed conn ((now_of start past).place + 1) e.conn set ≡ []
    told None b same none = ap (λ (a : Account). a.told_settings) before_is
    told (Some id) true same none =
        let number : e.conn ≡ conn = grind (arith, nat_tests) in
        absurd (none-some id (sym
        (none (ap (λ c. is_open_for (now_of start past).connections e.worker c) number ∙ shut e.worker))))
    told (Some id) false same none =
        ap (λ b. cond (b || (is_announced (account start past conn) id || list_any (sets id) owed))
        (((now_of start past).place + 1) ∷ (account start past conn).told_settings)
        (account start past conn).told_settings) same
        ∙ ap (λ ks. cond (is_announced (account start past conn) id || list_any (sets id) ks)
        (((now_of start past).place + 1) ∷ (account start past conn).told_settings)
        (account start past conn).told_settings) none_owed
        ∙ ap (λ (a : Account). cond (is_announced a id || false) (((now_of start past).place + 1) ∷ a.told_settings)
        a.told_settings) before_is

    fell : (account start (e ∷ past) conn).fell ≡ None
    fell =
        ap (λ w. fallen (account start past conn).fell w)
        (weighs-new (accounted (account start past conn) owed (now_of start past) e conn) start (e ∷ past) conn gone)
        ∙ ap (λ (a : Account). fallen a.fell 0) before_is

pub account-new : (start : Start) (past : List Entry) (conn : ℕ) → Legal start past → IsNew start past conn
    → account start past conn ≡ nothing
account-new start [] conn legal new = refl
account-new start (e ∷ past) conn legal new =
    stays-new start past e conn legal.2 (was-new start past e conn new)
    (not-there conn (now_of start (e ∷ past)).connections (none-numbered start (e ∷ past) conn legal new))
    (account-new start past conn legal.2 (was-new start past e conn new))

-- ---- publishings

-- all publishings are of other connections
abbrev pub OthersPublish : ℕ → Life → Type 0
OthersPublish conn l = AllByRecursion (λ p. (p.conn == conn) ≡ false) l.publishings

others-at : (conn : ℕ) (test : Life → Bool) (f : Life → Life)
    → ((l : Life) → OthersPublish conn l → OthersPublish conn (f l))
    → (lives : List Life) → AllByRecursion (OthersPublish conn) lives
    → AllByRecursion (OthersPublish conn) (at_first test f lives)
others-at conn test f keeps [] h = tt
others-at conn test f keeps (l ∷ lives) h = by (test l) (others-at conn test f keeps lives h.1)
  where
    by : (b : Bool) → AllByRecursion (OthersPublish conn) (at_first test f lives)
        → AllByRecursion (OthersPublish conn) (cond b (f l ∷ lives) (l ∷ at_first test f lives))
    by true more = (keeps l h.0, h.1)
    by false more = (h.0, more)

others-ended : (conn place : ℕ) (l : Life) → OthersPublish conn l → OthersPublish conn (or_ended place l)
others-ended conn place l h = by (lives_on (topic_of l))
  where
    by : (b : Bool) → OthersPublish conn (cond b l (record l { over = Some place }))
    by true = h
    by false = h

others-closed : (conn place sender : ℕ) (lives : List Life) → AllByRecursion (OthersPublish conn) lives
    → AllByRecursion (OthersPublish conn) (map (closed_for place sender) lives)
others-closed conn place sender [] h = tt
others-closed conn place sender (l ∷ lives) h =
    (by (is_living l && has_conn sender (topic_of l)), others-closed conn place sender lives h.1)
  where
    by : (b : Bool) → OthersPublish conn
        (cond b (or_ended place (without_conn sender l)) (without_conn sender l))
    by true = others-ended conn place (without_conn sender l) h.0
    by false = h.0

others-said : (conn place sender : ℕ) (m : Msg) → (sender == conn) ≡ false → (lives : List Life)
    → AllByRecursion (OthersPublish conn) lives
    → AllByRecursion (OthersPublish conn) (lives_after place lives sender m)
others-said conn place sender (msg.Control (Publish name uid typ props)) other lives h =
    by (list_any (is_named name) (topics lives))
  where
    p : Pub
    p = record { conn = sender; uid = uid; typ = typ }

    by : (b : Bool) → AllByRecursion (OthersPublish conn)
        (cond b (at_living (is_named name) (with_publishing place p) lives)
        (lives ++ born place (length lives + 1) name typ props p ∷ []))
    by true =
        others-at conn (λ l. is_living l && is_named name (topic_of l)) (with_publishing place p)
        (λ l k. each-append (λ p. (p.conn == conn) ≡ false) l.publishings
        (record { place = place; conn = sender; uid = uid } ∷ []) k (other, tt)) lives h
    by false = each-append (OthersPublish conn) lives (born place (length lives + 1) name typ props p ∷ []) h
        ((other, tt), tt)
others-said conn place sender (msg.Control (Unpublish uid)) other lives h =
    others-at conn (λ l. is_living l && has_publisher sender uid (topic_of l))
    (λ l. or_ended place (without_publisher sender uid l))
    (λ l k. others-ended conn place (without_publisher sender uid l) k) lives h
others-said conn place sender (msg.Control (SetProps name update)) other lives h =
    others-at conn (λ l. is_living l && is_named name (topic_of l))
    (λ l. or_ended place (with_setting place sender update l))
    (λ l k. others-ended conn place (with_setting place sender update l)
    (setting-by place sender update l (OthersPublish conn) k k)) lives h
others-said conn place sender (msg.Control (Subscribe uid sub)) other lives h = h
others-said conn place sender (msg.Control (Unsubscribe uid)) other lives h = h
others-said conn place sender (msg.Put v) other lives h =
    others-at conn (λ l. is_living l && has_publisher sender v.id (topic_of l))
    (with_a_put (record { place = place; time = v.time; value = v.value })) (λ l k. k) lives h

-- what leaves a trace is said by another
untraced : (m : Msg) → is_traced m (Some NoConn) ≡ true → ⊥
untraced (msg.Control m) e = cc
untraced (msg.Put v) e = cc

others-deed : (n : Now) (conn worker sender : ℕ) (d : Deed) → is_open_for n.connections worker conn ≡ false
    → AllByRecursion (OthersPublish conn) n.lives
    → AllByRecursion (OthersPublish conn) (after_deed n worker sender d).lives
others-deed n conn worker sender (Opened name) shut h = h
others-deed n conn worker sender NotOpened shut h = h
others-deed n conn worker sender (Said m) shut h = by (is_traced m (cause_of n worker sender m)) refl
  where
    apart : (b : Bool) → (sender == conn) ≡ b → is_traced m (cause_of n worker sender m) ≡ true → b ≡ false
    apart true same traced =
        let number : sender ≡ conn = grind (arith, nat_tests) in
        let cause : cause_of n worker sender m ≡ Some NoConn =
        refused n worker sender m (ap (λ k. is_open_for n.connections worker k) number ∙ shut)
        in
        absurd (untraced m (sym (ap (is_traced m) cause) ∙ traced))
    apart false same traced = refl

    by : (b : Bool) → is_traced m (cause_of n worker sender m) ≡ b
        → AllByRecursion (OthersPublish conn)
        (cond b (record n {
          connections = connections_after n.connections sender m;
          lives =
              lives_after (n.place + 1) n.lives sender m;
        }) n).lives
    by true traced = others-said conn (n.place + 1) sender m (apart (sender == conn) refl traced) n.lives h
    by false traced = h
others-deed n conn worker sender (Drained batch) shut h = h
others-deed n conn worker sender Closed shut h = by (is_open_for n.connections worker sender)
  where
    by : (b : Bool)
        → AllByRecursion (OthersPublish conn)
        (cond b (record n {
          connections = closed (n.place + 1) sender n.connections;
          lives =
              map (closed_for (n.place + 1) sender) n.lives;
        }) n).lives
    by true = others-closed conn (n.place + 1) sender n.lives h
    by false = h
others-deed n conn worker sender Permitted shut h = h
others-deed n conn worker sender NoPermit shut h = h
others-deed n conn worker sender Shut shut h = h

others-restored : (conn id : ℕ) (saved : List Saved) → AllByRecursion (OthersPublish conn) (restored id saved)
others-restored conn id [] = tt
others-restored conn id (s ∷ saved) = (tt, others-restored conn (id + 1) saved)

pub others-publish : (start : Start) (past : List Entry) (conn : ℕ) → Legal start past → IsNew start past conn
    → AllByRecursion (OthersPublish conn) (now_of start past).lives
others-publish start [] conn legal new = others-restored conn 1 start.saved
others-publish start (e ∷ past) conn legal new =
    others-deed (now_of start past) conn e.worker e.conn e.deed
    (no-conn conn (λ c. c.worker == e.worker) (now_of start past).connections
    (none-numbered start past conn legal.2 (was-new start past e conn new)))
    (others-publish start past conn legal.2 (was-new start past e conn new))

-- ---- blank marks

none-own : (conn : ℕ) (ps : List Publishing) → AllByRecursion (λ p. (p.conn == conn) ≡ false) ps
    → filter (λ p. p.conn == conn) ps ≡ []
none-own conn [] h = refl
none-own conn (p ∷ ps) h =
    ap (λ b. cond b (p ∷ filter (λ p. p.conn == conn) ps) (filter (λ p. p.conn == conn) ps)) h.0
    ∙ none-own conn ps h.1

none-told : (ss : List Setting) → filter (λ s. false) ss ≡ []
none-told [] = refl
none-told (s ∷ ss) = none-told ss

-- of what isn't wanted no value is owed
unwanted-values : (since : ℕ) (l : Life) → owed_values nothing No since l ≡ []
unwanted-values since l = by (is_cached l.props)
  where
    by : (b : Bool) → cond b (owed_cached nothing No since l) (owed_uncached nothing No since l) ≡ []
    by true = refl
    by false = refl

unwanted-newest : (l : Life) → owed_newest nothing No l ≡ None
unwanted-newest l = by (is_cached l.props)
  where
    by : (b : Bool) → cond b (newest_for nothing No l) None ≡ None
    by true = refl
    by false = refl

blank-topic : (conn since : ℕ) (l : Life) → OthersPublish conn l
    → is_blank (topic_mark nothing conn No since l) ≡ true
blank-topic conn since l h =
    ap (λ ps. is_blank (record (topic_mark nothing conn No since l) { values = map waiting_put ps }))
    (unwanted-values since l)
    ∙ ap (λ o. is_blank (record (topic_mark nothing conn No since l) { values = []; newest = o }))
    (unwanted-newest l)
    ∙ ap (λ ps. is_blank (record (topic_mark nothing conn No since l) {
      values = [];
      newest = None;
      publishes = map waiting_publish
          (filter (λ (p : Publishing). not (is_in [] (publish_key l.id p.place))) ps);
    }))
    (none-own conn l.publishings h)
    ∙ ap (λ ss. is_blank (record (topic_mark nothing conn No since l) {
      values = [];
      newest = None;
      publishes = [];
      settings =
          map (waiting_setting conn) (filter (λ (s : Setting). not (is_in [] (setting_key l.id s.place))) ss);
    })) (none-told l.settings)

blank-meta : (start : Start) (past : List Entry) (id : ℕ) (name : List ℕ) (over : Option ℕ)
    → is_blank (meta_mark nothing No (meta_life start past id name over)) ≡ true
blank-meta start past id name over =
    let from : leb 0 (meta_place start past id) ≡ true = grind (arith, nat_tests) in
    ap (λ b. is_blank (record (fresh id name)
    { next = cond (is_some (cond b (Some (meta_place start past id)) None)) 0 1 })) from

blank-mark : (conn : ℕ) (wish : Life → Wanted) (since : Life → ℕ) (l : Life) → wish l ≡ No
    → OthersPublish conn l
    → (is_meta l.id ≡ true → is_blank (meta_mark nothing No l) ≡ true)
    → is_blank (mark_of nothing conn wish since l) ≡ true
blank-mark conn wish since l none others metas =
    ap (λ w. is_blank (cond (not (is_living l)) (end_mark nothing l)
    (cond (is_meta l.id) (meta_mark nothing w l) (topic_mark nothing conn w (since l) l)))) none
    ∙ by (is_living l) (is_meta l.id) metas
  where
    by : (living meta : Bool) → (meta ≡ true → is_blank (meta_mark nothing No l) ≡ true)
        → is_blank (cond (not living) (end_mark nothing l)
        (cond meta (meta_mark nothing No l) (topic_mark nothing conn No (since l) l))) ≡ true
    by false meta m = refl
    by true true m = m refl
    by true false m = blank-topic conn (since l) l others

all-blank : (a : Account) (conn : ℕ) (wish : Life → Wanted) (since : Life → ℕ) (lives : List Life)
    → AllByRecursion (λ l. is_blank (mark_of a conn wish since l) ≡ true) lives
    → marks_by a conn wish since lives ≡ []
all-blank a conn wish since [] h = refl
all-blank a conn wish since (l ∷ lives) h =
    ap (λ b. cond (not b) (mark_of a conn wish since l ∷ marks_by a conn wish since lives)
    (marks_by a conn wish since lives)) h.0
    ∙ all-blank a conn wish since lives h.1

-- nothing is kept for it
pub marks-new : (start : Start) (past : List Entry) (conn : ℕ) → Legal start past → IsNumbered start past
    → IsNew start past conn
    → marks_owed start past conn ≡ []
marks-new start past conn legal numbered new =
    ap (λ a. marks_by a conn wish since (all_lives start past)) (account-new start past conn legal new)
    ∙ all-blank nothing conn wish since (all_lives start past)
    (each-append (λ l. is_blank (mark_of nothing conn wish since l) ≡ true) (now_of start past).lives
    (meta_lives start past)
    (each-both (OthersPublish conn) (λ l. is_meta l.id ≡ false)
    (λ l. is_blank (mark_of nothing conn wish since l) ≡ true)
    (λ l others client. blank-mark conn wish since l (no-wish l) others
    (λ meta. absurd (differ (is_meta l.id) client meta)))
    (now_of start past).lives (others-publish start past conn legal new)
    (clients-below 1 (now_of start past).lives numbered.lives_numbered (let few = numbered.lives_few
    in omega arith)))
    (each-more (IsMetaLife start past) (λ l. is_blank (mark_of nothing conn wish since l) ≡ true)
    (λ l m. blank-mark conn wish since l (no-wish l) (subst (OthersPublish conn) (sym m.life_is) tt)
    (λ meta. ap (λ (l : Life). is_blank (meta_mark nothing No l)) m.life_is
    ∙ blank-meta start past l.id l.name l.over))
    (meta_lives start past) (metas-are start past)))
  where
    wish : Life → Wanted
    wish l = wish_on (wish_for start past conn) l

    since : Life → ℕ
    since l = since_for start past conn l

    differ : (b : Bool) → b ≡ false → b ≡ true → ⊥
    differ b e f = cc

    no-wish : (l : Life) → wish_on (wish_for start past conn) l ≡ No
    no-wish l =
        ap (λ subs. cond (is_meta l.id) (meta_wish (wanted subs l.name)) (wanted subs l.name))
        (no-subs conn (now_of start past).connections (none-numbered start past conn legal new))
        ∙ by (is_meta l.id)
      where
        by : (b : Bool) → cond b (meta_wish No) No ≡ No
        by true = refl
        by false = refl

-- an outbox that was told nothing holds what it is owed
pub newcomer-owes : (start : Start) (past : List Entry) (conn : ℕ) → Legal start past → IsNumbered start past
    → IsNew start past conn
    → Owes start past conn nothing_owed
newcomer-owes start past conn legal numbered new =
    record {
      is_well = refl;
      not_later = omega arith;
      behind_is = sym (ap (λ (a : Account). a.fell) (account-new start past conn legal new));
      marks_are = sym (marks-new start past conn legal numbered new);
    }
