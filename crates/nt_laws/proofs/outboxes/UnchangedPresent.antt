-- An entry that leaves lives and connections as they were leaves the marks that are owed, but for what it
-- hands.
use Rattle.std.proofs.Common.{◌≡◌, ◌≤◌, ◌+◌, ◌&&◌, ◌==◌, ℕ, Bool, true, false, cond, not, List, [], ◌∷◌, ◌++◌, Option}
use Rattle.std.proofs.Common.{Some, None, map, filter, length, unwrap_or, codes, is_none, option_map, find, refl, sym}
use Rattle.std.proofs.Common.{◌∙◌, ap, subst}
use Rattle.std.proofs.lemmas.Slice.Eq.{bytes_eq-Decides}
use Rattle.serde_json.specs.Data.{object, no_members}
use Rattle.nt_values.specs.declared.value.Value.TheVariants.{Bytes}
use Rattle.nt_topics.specs.Properties.{is_cached}
use Rattle.nt_subs.specs.declared.wish.Wanted.{Wanted}
use Rattle.nt_subs.specs.declared.wish.Wanted.TheVariants.{No, TopicOnly, Newest, All}
use Rattle.nt_subs.specs.Wishes.{wanted}
use Rattle.nt_rules.specs.Limits.{last_connection, last_id}
use Rattle.nt_rules.specs.declared.meta.MetaNow.{MetaNow}
use Rattle.nt_rules.specs.meta.Meta.{metas}
use Rattle.nt_rules.specs.outbox.Marks.{Mark}
use Rattle.nt_rules.specs.outbox.Keys.{Key}
use Rattle.nt_rules.specs.outbox.Marks.{is_blank, is_meta, is_valued, meta_wish}
use Rattle.nt_rules.specs.outbox.Calls.{OutboxState}
use Rattle.nt_control.specs.declared.message.ClientMsg.TheVariants.{Publish, Unpublish, SetProps, Subscribe}
use Rattle.nt_control.specs.declared.message.ClientMsg.TheVariants.{Unsubscribe}
use Rattle.nt_rules.specs.declared.topic.Cause.{Cause}
use Rattle.nt_rules.specs.declared.act.Msg.TheVariants as msg
use Rattle.nt_rules.specs.declared.act.Deed.{Deed}
use Rattle.nt_rules.specs.declared.act.Deed.TheVariants.{Opened, NotOpened, Said, Drained, Closed, Permitted, NoPermit}
use Rattle.nt_rules.specs.declared.act.Deed.TheVariants.{Shut}
use Rattle.nt_rules.specs.declared.act.Entry.{Entry}
use Rattle.nt_rules.specs.topics.Topics.{is_named}
use Rattle.nt_rules.specs.history.Lives.{Life, is_living, topics, closed_for}
use Rattle.nt_rules.specs.declared.start.Start.{Start}
use Rattle.nt_rules.specs.history.Now.{Now, is_there, is_open_for, open_ones, subs_of, cause_of, is_traced, now_of}
use Rattle.nt_rules.specs.history.Now.{connections_after, lives_after, closed, after_deed}
use Rattle.nt_rules.specs.history.Metas.{roster_of, metas_now, meta_at, same_bytes, meta_place, meta_life, meta_lives}
use Rattle.nt_rules.specs.history.Metas.{all_lives}
use Rattle.nt_rules.specs.history.Owed.{Account, account, owed_by, given_after, settings_after, set_on, is_all}
use Rattle.nt_rules.specs.history.Owed.{wish_for, wish_on, owed_cached, owed_uncached, owed_values, wanted_since}
use Rattle.nt_rules.specs.history.Owed.{all_since, valued_since, since_for}
use Rattle.nt_rules.specs.history.Marks.{waiting_put, topic_mark, meta_mark, end_mark, mark_of, marks_by, marks_owed}
use Rattle.nt_rules.specs.history.Step.{Owes}
use Rattle.nt_laws.proofs.histories.Facts.{IsNumberedLives, IsNumberedConnections}
use Rattle.nt_laws.proofs.topics.ItemFacts.{each-all, map-same}
use Rattle.nt_laws.proofs.metas.AllLives.{IsNumbered, never-all}
use Rattle.nt_laws.proofs.metas.MetaRows.{meta_rows, meta-lives, life_of, rows_by, row_of_life, row_of_conn}
use Rattle.nt_laws.proofs.outboxes.OutboxKeys.{wish_of, marks-weight}
use Rattle.nt_laws.proofs.outboxes.OutboxCalls.{owes-called}

pub record IsQuiet (start : Start) (past : List Entry) (e : Entry) : Type 0 where
  pub lives_stay : (now_of start (e ∷ past)).lives ≡ (now_of start past).lives
  pub connections_stay : (now_of start (e ∷ past)).connections ≡ (now_of start past).connections

-- what is numbered stays so
pub quiet-numbered : (start : Start) (past : List Entry) (e : Entry) → IsQuiet start past e
    → IsNumbered start past → IsNumbered start (e ∷ past)
quiet-numbered start past e q n = record {
  lives_numbered = subst (λ lives. IsNumberedLives 1 lives) (sym q.lives_stay) n.lives_numbered;
  lives_few = subst (λ lives. length lives ≤ last_id) (sym q.lives_stay) n.lives_few;
  connections_numbered =
      subst (λ cs. IsNumberedConnections 1 cs) (sym q.connections_stay) n.connections_numbered;
  connections_few = subst (λ cs. length cs ≤ last_connection) (sym q.connections_stay) n.connections_few;
}

-- ---- lives

quiet-metas : (start : Start) (past : List Entry) (e : Entry) → IsQuiet start past e
    → metas_now (now_of start (e ∷ past)) ≡ metas_now (now_of start past)
quiet-metas start past e q =
    ap (λ cs. metas (roster_of (open_ones cs) (topics (now_of start (e ∷ past)).lives))) q.connections_stay
    ∙ ap (λ lives. metas (roster_of (open_ones (now_of start past).connections) (topics lives))) q.lives_stay

same-itself : (o : Option (List ℕ)) → same_bytes o o ≡ true
same-itself None = refl
same-itself (Some bytes) = (bytes_eq-Decides bytes bytes).1 refl

-- where the bytes of meta topics are as they were, they last changed where they had
pub same-place : (start : Start) (past : List Entry) (e : Entry)
    → metas_now (now_of start (e ∷ past)) ≡ metas_now (now_of start past)
    → (id : ℕ) → meta_place start (e ∷ past) id ≡ meta_place start past id
same-place start past e same id =
    ap (λ ms. cond (same_bytes (meta_at id (metas_now (now_of start past))) (meta_at id ms))
    (meta_place start past id) (length past + 1)) same
    ∙ ap (λ b. cond b (meta_place start past id) (length past + 1))
    (same-itself (meta_at id (metas_now (now_of start past))))

pub same-meta : (start : Start) (past : List Entry) (e : Entry)
    → metas_now (now_of start (e ∷ past)) ≡ metas_now (now_of start past)
    → (id : ℕ) (name : List ℕ) (over : Option ℕ)
    → meta_life start (e ∷ past) id name over ≡ meta_life start past id name over
same-meta start past e same id name over =
    ap (λ place. life place (metas_now (now_of start (e ∷ past)))) (same-place start past e same id)
    ∙ ap (λ ms. life (meta_place start past id) ms) same
  where
    life : ℕ → List MetaNow → Life
    life place ms = record {
      id = id;
      name = name;
      typ = codes "msgpack";
      props = object no_members;
      pubs = [];
      over = over;
      publishings = [];
      settings = [];
      turn = 0;
      puts = record { place = place; time = 0; value = Bytes (unwrap_or (meta_at id ms) []) } ∷ [];
      taken_before = [];
    }

pub quiet-lives : (start : Start) (past : List Entry) (e : Entry) → IsQuiet start past e
    → all_lives start (e ∷ past) ≡ all_lives start past
quiet-lives start past e q =
    ap (λ lives. lives ++ meta_lives start (e ∷ past)) q.lives_stay
    ∙ ap (λ lives. (now_of start past).lives ++ lives)
    (meta-lives start (e ∷ past)
    ∙ map-same (life_of start (e ∷ past)) (life_of start past) (meta_rows (now_of start (e ∷ past)))
    (each-all _ (λ r. same-meta start past e (quiet-metas start past e q) r.id r.name r.over)
    (meta_rows (now_of start (e ∷ past))))
    ∙ ap (map (life_of start past)) rows
    ∙ sym (meta-lives start past))
  where
    rows : meta_rows (now_of start (e ∷ past)) ≡ meta_rows (now_of start past)
    rows =
        ap (λ lives. rows_by (map row_of_life lives)
        (map row_of_conn (now_of start (e ∷ past)).connections)) q.lives_stay
        ∙ ap (λ cs. rows_by (map row_of_life (now_of start past).lives)
        (map row_of_conn cs)) q.connections_stay

-- ---- marks

-- whether the place matters from which a life has been wanted so
abbrev is_counted : Life → Wanted → Bool
is_counted l wish = cond (is_cached l.props) (is_all wish) (is_valued wish)

values-since : (a : Account) (wish : Wanted) (s t : ℕ) (l : Life) → (is_counted l wish ≡ true → s ≡ t)
    → owed_values a wish s l ≡ owed_values a wish t l
values-since a wish s t l h = by (is_cached l.props) h
  where
    cached : (w : Wanted) → (is_all w ≡ true → s ≡ t) → owed_cached a w s l ≡ owed_cached a w t l
    cached No h = refl
    cached TopicOnly h = refl
    cached Newest h = refl
    cached All h = ap (λ n. owed_cached a All n l) (h refl)

    uncached : (b : Bool) → (b ≡ true → s ≡ t)
        → cond b (owed_uncached a All s l) [] ≡ cond b (owed_uncached a All t l) []
    uncached true h = ap (λ n. owed_uncached a All n l) (h refl)
    uncached false h = refl

    by : (b : Bool) → (cond b (is_all wish) (is_valued wish) ≡ true → s ≡ t)
        → cond b (owed_cached a wish s l) (owed_uncached a wish s l)
        ≡ cond b (owed_cached a wish t l) (owed_uncached a wish t l)
    by true h = cached wish h
    by false h = uncached (is_valued wish) h

mark-since : (a : Account) (conn : ℕ) (wish : Life → Wanted) (s t : Life → ℕ) (l : Life)
    → (is_counted l (wish l) ≡ true → s l ≡ t l)
    → mark_of a conn wish s l ≡ mark_of a conn wish t l
mark-since a conn wish s t l h =
    ap (λ ps. cond (not (is_living l)) (end_mark a l)
    (cond (is_meta l.id) (meta_mark a (wish l) l)
    (record (topic_mark a conn (wish l) (s l) l) { values = map waiting_put ps })))
    (values-since a (wish l) (s l) (t l) l h)

marks-since : (a : Account) (conn : ℕ) (wish : Life → Wanted) (s t : Life → ℕ) (lives : List Life)
    → ((l : Life) → is_counted l (wish l) ≡ true → s l ≡ t l)
    → marks_by a conn wish s lives ≡ marks_by a conn wish t lives
marks-since a conn wish s t lives h =
    ap (filter (λ m. not (is_blank m))) (map-same (mark_of a conn wish s) (mark_of a conn wish t) lives
    (each-all _ (λ l. mark-since a conn wish s t l (h l)) lives))

-- a topic that was wanted so has been so from where it had
since-stays : (start : Start) (past : List Entry) (e : Entry) (conn : ℕ) (l : Life)
    → is_counted l (wish_of start past conn l) ≡ true
    → since_for start (e ∷ past) conn l ≡ since_for start past conn l
since-stays start past e conn l h = by (is_cached l.props) h
  where
    wish : Wanted
    wish = wish_for start past conn l.name

    all : (b : Bool) → is_all (cond b (meta_wish wish) wish) ≡ true → is_all wish ≡ true
    all true h = absurd (let never = never-all wish in cc)
    all false h = h

    valued : (b : Bool) (w : Wanted) → is_valued (cond b (meta_wish w) w) ≡ true → is_valued w ≡ true
    valued true No h = h
    valued true TopicOnly h = h
    valued true Newest h = h
    valued true All h = h
    valued false w h = h

    goes-on : (test : Wanted → Bool) → test wish ≡ true
        → wanted_since test start (e ∷ past) conn l.name ≡ wanted_since test start past conn l.name
    goes-on test h = ap (λ b. cond b (wanted_since test start past conn l.name) (length past + 1)) h

    by : (b : Bool)
        → cond b (is_all (wish_of start past conn l)) (is_valued (wish_of start past conn l)) ≡ true
        → cond b (all_since start (e ∷ past) conn l.name) (valued_since start (e ∷ past) conn l.name)
        ≡ cond b (all_since start past conn l.name) (valued_since start past conn l.name)
    by true h = goes-on is_all (all (is_meta l.id) h)
    by false h = goes-on is_valued (valued (is_meta l.id) wish h)

-- the marks of an account after a quiet entry are those before it
pub quiet-marks : (start : Start) (past : List Entry) (e : Entry) (conn : ℕ) → IsQuiet start past e
    → (a : Account)
    → marks_by a conn (wish_of start (e ∷ past) conn)
    (since_for start (e ∷ past) conn) (all_lives start (e ∷ past))
    ≡ marks_by a conn (wish_of start past conn) (since_for start past conn)
    (all_lives start past)
quiet-marks start past e conn q a =
    ap (λ cs. marks_by a conn (wish_on (λ name. wanted (subs_of cs conn) name))
    (since_for start (e ∷ past) conn) (all_lives start (e ∷ past))) q.connections_stay
    ∙ ap (λ lives. marks_by a conn (wish_of start past conn)
    (since_for start (e ∷ past) conn) lives) (quiet-lives start past e q)
    ∙ marks-since a conn (wish_of start past conn) (since_for start (e ∷ past) conn)
    (since_for start past conn) (all_lives start past) (λ l h. since-stays start past e conn l h)

-- what an entry gave and told, that gave and told nothing
pub quiet-owed : (start : Start) (past : List Entry) (e : Entry) (conn : ℕ) → IsQuiet start past e
    → (account start (e ∷ past) conn).given ≡ (account start past conn).given
    → (account start (e ∷ past) conn).told_settings ≡ (account start past conn).told_settings
    → marks_owed start (e ∷ past) conn ≡ marks_owed start past conn
quiet-owed start past e conn q given told =
    quiet-marks start past e conn q (account start (e ∷ past) conn)
    ∙ ap (λ ks. marks
    (record { given = ks; told_settings = (account start (e ∷ past) conn).told_settings; fell = None })) given
    ∙ ap (λ places. marks
    (record { given = (account start past conn).given; told_settings = places; fell = None })) told
  where
    marks : Account → List Mark
    marks a = marks_by a conn (wish_of start past conn) (since_for start past conn)
        (all_lives start past)

-- so an outbox that held what was owed holds it still
pub owes-still : (start : Start) (past : List Entry) (e : Entry) (conn : ℕ) (b : OutboxState)
    → IsNumbered start (e ∷ past)
    → is_there (now_of start (e ∷ past)).connections conn ≡ true → IsQuiet start past e
    → (account start (e ∷ past) conn).given ≡ (account start past conn).given
    → (account start (e ∷ past) conn).told_settings ≡ (account start past conn).told_settings
    → Owes start past conn b → Owes start (e ∷ past) conn b
owes-still start past e conn b n there q given told owes =
    owes-called start past e conn [] b owes there (sym (quiet-owed start past e conn q given told))
    (marks-weight start (e ∷ past) conn n)

-- ---- entries that are quiet

-- a deed that changes neither lives nor connections, and hands nothing
abbrev pub IsIdle : Now → ℕ → ℕ → Deed → Type 0
IsIdle n worker conn (Opened name) = ⊥
IsIdle n worker conn NotOpened = Unit {0}
IsIdle n worker conn (Said m) = is_traced m (cause_of n worker conn m) ≡ false
IsIdle n worker conn (Drained batch) = ⊥
IsIdle n worker conn Closed = is_open_for n.connections worker conn ≡ false
IsIdle n worker conn Permitted = Unit {0}
IsIdle n worker conn NoPermit = Unit {0}
IsIdle n worker conn Shut = Unit {0}

idle-lives : (n : Now) (worker conn : ℕ) (d : Deed) → IsIdle n worker conn d
    → ((after_deed n worker conn d).lives ≡ n.lives)
    × ((after_deed n worker conn d).connections ≡ n.connections)
idle-lives n worker conn (Opened name) h = absurd h
idle-lives n worker conn NotOpened h = (refl, refl)
idle-lives n worker conn (Said m) h = (ap (λ b. (by b).lives) h, ap (λ b. (by b).connections) h)
  where
    by : Bool → Now
    by b = cond b (record n {
      connections = connections_after n.connections conn m;
      lives = lives_after (n.place + 1) n.lives conn m;
    }) n
idle-lives n worker conn (Drained batch) h = absurd h
idle-lives n worker conn Closed h = (ap (λ b. (by b).lives) h, ap (λ b. (by b).connections) h)
  where
    by : Bool → Now
    by b = cond b (record n {
      connections = closed (n.place + 1) conn n.connections;
      lives = map (closed_for (n.place + 1) conn) n.lives;
    }) n
idle-lives n worker conn Permitted h = (refl, refl)
idle-lives n worker conn NoPermit h = (refl, refl)
idle-lives n worker conn Shut h = (refl, refl)

idle-sets : (n : Now) (worker conn : ℕ) (d : Deed) → IsIdle n worker conn d → set_on n worker conn d ≡ None
idle-sets n worker conn (Opened name) h = refl
idle-sets n worker conn NotOpened h = refl
idle-sets n worker conn (Said (msg.Control (SetProps name update))) h =
    by (cause_of n worker conn (msg.Control (SetProps name update))) h
  where
    by : (cause : Option Cause) → is_traced (msg.Control (SetProps name update)) cause ≡ false
        → cond (is_none cause) (option_map (λ t. t.id) (find (is_named name) (topics n.lives))) None ≡ None
    by None h = cc
    by (Some cause) h = refl
idle-sets n worker conn (Said (msg.Control (Publish name uid typ props))) h = refl
idle-sets n worker conn (Said (msg.Control (Unpublish uid))) h = refl
idle-sets n worker conn (Said (msg.Control (Subscribe uid sub))) h = refl
idle-sets n worker conn (Said (msg.Control (Unsubscribe uid))) h = refl
idle-sets n worker conn (Said (msg.Put v)) h = refl
idle-sets n worker conn (Drained batch) h = refl
idle-sets n worker conn Closed h = refl
idle-sets n worker conn Permitted h = refl
idle-sets n worker conn NoPermit h = refl
idle-sets n worker conn Shut h = refl

idle-gives : (n : Now) (worker sender : ℕ) (d : Deed) → IsIdle n worker sender d
    → (own : Bool) (given owed : List Key)
    → given_after d own given owed ≡ given
idle-gives n worker sender (Opened name) h own given owed = refl
idle-gives n worker sender NotOpened h own given owed = refl
idle-gives n worker sender (Said m) h own given owed = refl
idle-gives n worker sender (Drained batch) h own given owed = absurd h
idle-gives n worker sender Closed h own given owed = refl
idle-gives n worker sender Permitted h own given owed = refl
idle-gives n worker sender NoPermit h own given owed = refl
idle-gives n worker sender Shut h own given owed = refl

pub owes-idle : (start : Start) (past : List Entry) (e : Entry) (conn : ℕ) (b : OutboxState)
    → IsNumbered start (e ∷ past)
    → is_there (now_of start (e ∷ past)).connections conn ≡ true
    → IsIdle (now_of start past) e.worker e.conn e.deed
    → Owes start past conn b → Owes start (e ∷ past) conn b
owes-idle start past e conn b n there idle owes =
    let same = idle-lives (now_of start past) e.worker e.conn e.deed idle in
    owes-still start past e conn b n there (record { lives_stay = same.0; connections_stay = same.1 })
    (idle-gives (now_of start past) e.worker e.conn e.deed idle
    ((e.conn == conn) && is_open_for (now_of start past).connections e.worker conn) before.given
    (owed_by before start past conn))
    (ap (λ o. settings_after before (owed_by before start past conn) conn ((now_of start past).place + 1) e.conn o)
    (idle-sets (now_of start past) e.worker e.conn e.deed idle)) owes
  where
    before : Account
    before = account start past conn
