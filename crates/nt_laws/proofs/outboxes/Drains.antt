-- What a drain answers, and what all outboxes hold after it.
use Rattle.std.proofs.Common.{◌≡◌, ◌+◌, ◌&&◌, ◌||◌, ◌==◌, ℕ, Bool, true, false, cond, List, [], ◌∷◌, ◌++◌, Option, Some}
use Rattle.std.proofs.Common.{None, option_map, is_some, is_none, find, map, max, length, take, refl, sym, ◌∙◌, ap}
use Rattle.std.proofs.Common.{subst, arith, inl, inr}
use Rattle.std.specs.List.{AllByRecursion, take-map}
use Rattle.std.proofs.lemmas.Bool.Decides.{nat_tests}
use Rattle.nt_rules.specs.declared.meta.MetaNow.{MetaNow}
use Rattle.nt_rules.specs.declared.topic.Cause.TheVariants.{NoConn}
use Rattle.nt_rules.specs.topics.Topics.{is_named}
use Rattle.nt_rules.specs.outbox.Marks.{Mark}
use Rattle.nt_rules.specs.declared.batch.Batch.{Batch}
use Rattle.nt_rules.specs.outbox.Keys.{Key}
use Rattle.nt_rules.specs.outbox.Marks.{is_meta}
use Rattle.nt_rules.specs.outbox.Messages.{Living, batch_of}
use Rattle.nt_rules.specs.outbox.Calls.{OutboxState, behind, unless_behind, keys_of}
use Rattle.nt_rules.specs.declared.act.StepOut.{StepOut}
use Rattle.nt_rules.specs.declared.act.StepOut.TheVariants as out
use Rattle.nt_rules.specs.declared.act.Act.TheVariants as act
use Rattle.nt_rules.specs.declared.act.Deed.TheVariants.{Drained}
use Rattle.nt_rules.specs.declared.act.Entry.{Entry}
use Rattle.nt_rules.specs.history.State.{Open}
use Rattle.nt_rules.specs.history.Lives.{Life, is_living, topic_of, topics}
use Rattle.nt_rules.specs.declared.start.Start.{Start}
use Rattle.nt_rules.specs.history.Now.{Connection, now_of, is_conn, is_open, open_ones, is_there, is_open_for}
use Rattle.nt_rules.specs.history.Metas.{metas_now, meta_at, meta_place, meta_lives, all_lives}
use Rattle.nt_rules.specs.history.Owed as history
use Rattle.nt_rules.specs.history.Owed.{Account, account, owed, given_after, keys_owed, life_at, messages, wish_for}
use Rattle.nt_rules.specs.history.Owed.{wish_on, since_for}
use Rattle.nt_rules.specs.history.Answer.{Legal, answer, drained_out, drained_batch, moment_of}
use Rattle.nt_rules.specs.history.Marks.{marks_owed}
use Rattle.nt_rules.specs.history.State.{State, serves, outbox_at, open_metas, drained_answer, drained_by, drained_from}
use Rattle.nt_rules.specs.history.State.{with_outbox, reply, acted}
use Rattle.nt_rules.specs.history.Step.{Plain, plain, plain_of, Owes, AllOwe}
use Rattle.nt_laws.proofs.topics.ItemFacts.{each-more, each-both, each-append, each-take}
use Rattle.nt_laws.proofs.histories.Facts.{ArePlaced, lives-placed}
use Rattle.nt_laws.proofs.topics.OneName.{lives-named}
use Rattle.nt_laws.proofs.histories.CoreLaws.{IsKeptOf, open-is, topics-are, moment-kept}
use Rattle.nt_laws.proofs.metas.Rosters.{metas-kept}
use Rattle.nt_laws.proofs.histories.Lawful.{answered}
use Rattle.nt_laws.proofs.topics.FoundItems.{named-found}
use Rattle.nt_laws.proofs.marks.KeysOwed.{unplaced}
use Rattle.nt_laws.proofs.metas.AllLives.{IsFitStart, IsNumbered, IsMetaLife, clients-below, metas-are, all-found}
use Rattle.nt_laws.proofs.metas.AllLives.{all-ordinary}
use Rattle.nt_laws.proofs.metas.MetaRows.{Row, meta_rows, living_row, row_at, row_lives, row_of_meta, life_of}
use Rattle.nt_laws.proofs.metas.MetaRows.{meta-found}
use Rattle.nt_laws.proofs.metas.MetaOrder.{is-numbered, meta-rows-rise, meta-life}
use Rattle.nt_laws.proofs.metas.Differences.{meta_of}
use Rattle.nt_laws.proofs.outboxes.OutboxKeys.{wish_of, owes-behind, owes-keys}
use Rattle.nt_laws.proofs.outboxes.BatchOwed.{IsKnown, IsSaid, all-said, batch-said}
use Rattle.nt_laws.proofs.outboxes.UnchangedPresent.{quiet-numbered, owes-still}
use Rattle.nt_laws.proofs.outboxes.Draining.{drain_of, is-quiet, open-there, length_of, take-messages, owes-drained}
use Rattle.nt_laws.proofs.outboxes.Draining.{owed-all}

-- ---- what is known of all lives

clients-known : (n : ℕ) (living : Living) (lives : List Life)
    → AllByRecursion (λ l. is_meta l.id ≡ false) lives → ArePlaced n lives
    → AllByRecursion
    (λ l. is_living l ≡ true → find (is_named l.name) living.topics ≡ Some (topic_of l)) lives
    → AllByRecursion (IsKnown n living) lives
clients-known n living [] h p f = tt
clients-known n living (l ∷ lives) h p f =
    (inl (record { is_client = h.0; placed = p.0; named = f.0 }), clients-known n living lives h.1 p.1 f.1)

each-right : {X : Type 0} (P : X → Type 0) (xs ys : List X) → AllByRecursion P (xs ++ ys)
    → AllByRecursion P ys
each-right P [] ys h = h
each-right P (x ∷ xs) ys h = each-right P xs ys h.1

-- a meta topic whose life goes on is among those that live
meta-there : (start : Start) (past : List Entry) → IsNumbered start past → (l : Life)
    → IsMetaLife start past l
    → life_at l.id (all_lives start past) ≡ Some l → is_living l ≡ true
    → is_some (meta_at l.id (metas_now (now_of start past))) ≡ true
meta-there start past n l h here on =
    by (meta_of l.id ms) (row_at l.id rows)
    (sym here ∙ meta-life start past n l.id (grind (h.is_one, arith, nat_tests)))
    (meta-found (now_of start past) (meta-rows-rise start past n) l.id)
  where
    ms : List MetaNow
    ms = metas_now (now_of start past)

    rows : List Row
    rows = meta_rows (now_of start past)

    by : (o : Option MetaNow) (r : Option Row) → Some l ≡ option_map (life_of start past) r
        → option_map row_of_meta o ≡ living_row r
        → is_some (option_map (λ (m : MetaNow). m.bytes) o) ≡ true
    by o None e f = cc
    by (Some m) (Some r) e f = refl
    by None (Some r) e f =
        let same : l ≡ life_of start past r = cc in
        let lives : row_lives r ≡ true = ap (λ (k : Life). is_none k.over) (sym same) ∙ on in
        absurd (let none : None ≡ Some r = f ∙ ap (λ b. cond b (Some r) None) lives in cc)

pub all-known : (start : Start) (past : List Entry) → IsFitStart start → Legal start past
    → AllByRecursion
    (IsKnown (now_of start past).place
    (record { topics = topics (now_of start past).lives; metas = metas_now (now_of start past) }))
    (all_lives start past)
all-known start past fit legal =
    let n = is-numbered start past fit.few legal in
    let few = n.lives_few in
    each-append (IsKnown place living) lives (meta_lives start past)
    (clients-known place living lives (clients-below 1 lives n.lives_numbered (omega arith))
    (lives-placed start past) (named-found lives (lives-named start past fit.distinct)))
    (each-both (IsMetaLife start past) (λ l. life_at l.id (all_lives start past) ≡ Some l)
    (IsKnown place living) meta (meta_lives start past)
    (metas-are start past)
    (each-right (λ l. life_at l.id (all_lives start past) ≡ Some l) lives (meta_lives start past)
    (all-found start past n)))
  where
    lives : List Life
    lives = (now_of start past).lives

    place : ℕ
    place = (now_of start past).place

    living : Living
    living = record { topics = topics lives; metas = metas_now (now_of start past) }

    meta : (l : Life) → IsMetaLife start past l → life_at l.id (all_lives start past) ≡ Some l
        → IsKnown place living l
    meta l h here = inr (record {
      is_meta_id = h.is_one;
      typ_is = ap (λ (m : Life). m.typ) h.life_is;
      props_are = ap (λ (m : Life). m.props) h.life_is;
      put_place = meta_place start past l.id;
      puts_are = ap (λ (m : Life). m.puts) h.life_is;
      lives = meta-there start past (is-numbered start past fit.few legal) l h here;
    })

-- ---- the batch

-- the keys that an outbox hands are said as the history says them
pub batch-owed : (start : Start) (past : List Entry) (conn moment budget : ℕ) → IsFitStart start
    → Legal start past
    → is_there (now_of start past).connections conn ≡ true → (account start past conn).fell ≡ None
    → batch_of
    (record { topics = topics (now_of start past).lives; metas = metas_now (now_of start past) }) moment
    (marks_owed start past conn) (map unplaced (take budget (owed start past conn)))
    ≡ messages (all_lives start past) moment conn (take budget (owed start past conn))
batch-owed start past conn moment budget fit legal there none =
    batch-said living moment conn marks lives (take budget (owed start past conn))
    (each-take Said budget (owed start past conn)
    (subst (λ ks. AllByRecursion Said ks) (sym (owed-all start past conn there none))
    (all-said living moment conn (now_of start past).place (account start past conn)
    (wish_of start past conn) (since_for start past conn) lives
    (all-found start past n) (all-ordinary start past (wish_for start past conn) n)
    (all-known start past fit legal))))
  where
    n : IsNumbered start past
    n = is-numbered start past fit.few legal

    living : Living
    living = record { topics = topics (now_of start past).lives; metas = metas_now (now_of start past) }

    marks : List Mark
    marks = marks_owed start past conn

    lives : List Life
    lives = all_lives start past

    Said : Key → Type 0
    Said k = IsSaid living moment conn marks lives k

-- ---- the answer

pub drained-answer : (start : Start) (past : List Entry) (s : State) (moment conn budget : ℕ)
    → IsFitStart start → Legal start past
    → is_there (now_of start past).connections conn ≡ true
    → s.topics ≡ topics (now_of start past).lives
    → open_metas s.opens s.topics ≡ metas_now (now_of start past)
    → Owes start past conn (outbox_at s.opens conn)
    → drained_answer s moment conn budget
    ≡ drained_out (history.behind start past conn)
    (messages (all_lives start past) moment conn (take budget (owed start past conn)))
drained-answer start past s moment conn budget fit legal there ts ms owes =
    ap (λ o. drained_out o (batch_of living moment b.marks (take budget (keys_of b)))) same
    ∙ by (history.behind start past conn) same
  where
    n : IsNumbered start past
    n = is-numbered start past fit.few legal

    b : OutboxState
    b = outbox_at s.opens conn

    living : Living
    living = record { topics = s.topics; metas = open_metas s.opens s.topics }

    same : behind b ≡ history.behind start past conn
    same = owes-behind start past conn b there owes

    by : (o : Option ℕ) → behind b ≡ o
        → drained_out o (batch_of living moment b.marks (take budget (keys_of b)))
        ≡ drained_out o (messages (all_lives start past) moment conn (take budget (owed start past conn)))
    by (Some w) e = refl
    by None e =
        let held : b.marks ≡ marks_owed start past conn =
        ap (λ o. unless_behind o b.marks) (sym e) ∙ owes.marks_are
        ∙ ap (λ o. unless_behind o (marks_owed start past conn)) e in
        ap (λ x. drained_out None
        (batch_of (record { topics = x; metas = open_metas s.opens s.topics }) moment b.marks
        (take budget (keys_of b)))) ts
        ∙ ap (λ x. drained_out None
        (batch_of (record { topics = topics (now_of start past).lives; metas = x }) moment b.marks
        (take budget (keys_of b)))) ms
        ∙ ap (λ x. drained_out None (batch_of now moment x (take budget (keys_of b)))) held
        ∙ ap (λ ks. drained_out None (batch_of now moment (marks_owed start past conn) (take budget ks)))
        (owes-keys start past conn b n there owes)
        ∙ ap (λ ks. drained_out None (batch_of now moment (marks_owed start past conn) ks))
        (take-map unplaced budget (owed start past conn))
        ∙ ap (λ batch. drained_out None batch)
        (batch-owed start past conn moment budget fit legal there (sym owes.behind_is ∙ e))
      where
        now : Living
        now = record { topics = topics (now_of start past).lives; metas = metas_now (now_of start past) }

-- ---- the outboxes

-- a drain that hands a connection nothing leaves what it is owed
pub owes-beside : (start : Start) (past : List Entry) (worker sender conn moment : ℕ) (batch : Batch)
    (b : OutboxState) → IsNumbered start past
    → is_there (now_of start past).connections conn ≡ true
    → ((sender == conn) && is_open_for (now_of start past).connections worker conn) ≡ false
    → Owes start past conn b → Owes start (drain_of worker sender moment batch ∷ past) conn b
owes-beside start past worker sender conn moment batch b n there other owes =
    owes-still start past (drain_of worker sender moment batch) conn b
    (quiet-numbered start past (drain_of worker sender moment batch)
    (is-quiet start past worker sender moment batch) n)
    there (is-quiet start past worker sender moment batch)
    (ap (λ own. given_after (Drained batch) own (account start past conn).given (owed start past conn)) other)
    refl owes

-- the open connections are there
abbrev pub AllThere : List Connection → List Open → Type 0
AllThere cs opens = AllByRecursion (λ o. is_there cs o.conn ≡ true) opens

-- a drain of a connection that isn't open for the worker
pub all-undrained : (start : Start) (past : List Entry) (worker conn moment : ℕ) (batch : Batch)
    → IsNumbered start past
    → is_open_for (now_of start past).connections worker conn ≡ false
    → (opens : List Open) → AllThere (now_of start past).connections opens → AllOwe start past opens
    → AllOwe start (drain_of worker conn moment batch ∷ past) opens
all-undrained start past worker conn moment batch n shut [] there owes = tt
all-undrained start past worker conn moment batch n shut (o ∷ opens) there owes = (
  owes-beside start past worker conn o.conn moment batch o.outbox n there.0 (by (conn == o.conn) refl) owes.0,
  all-undrained start past worker conn moment batch n shut opens there.1 owes.1,
)
  where
    by : (b : Bool) → (conn == o.conn) ≡ b
        → (b && is_open_for (now_of start past).connections worker o.conn) ≡ false
    by false e = refl
    by true e =
        let same : o.conn ≡ conn = grind (arith, nat_tests) in
        ap (λ c. is_open_for (now_of start past).connections worker c) same ∙ shut

-- a drain of one that is
pub all-drained : (start : Start) (past : List Entry) (worker conn moment budget : ℕ) (batch : Batch)
    → IsNumbered start past
    → is_open_for (now_of start past).connections worker conn ≡ true
    → ((account start past conn).fell ≡ None
    → take (length batch.texts + length batch.values) (owed start past conn)
    ≡ take budget (owed start past conn))
    → (opens : List Open) → AllThere (now_of start past).connections opens → AllOwe start past opens
    → AllOwe start (drain_of worker conn moment batch ∷ past) (map (drained_from conn budget) opens)
all-drained start past worker conn moment budget batch n open_for same [] there owes = tt
all-drained start past worker conn moment budget batch n open_for same (o ∷ opens) there owes =
    by (o.conn == conn) refl
    (all-drained start past worker conn moment budget batch n open_for same opens there.1 owes.1)
  where
    e : Entry
    e = drain_of worker conn moment batch

    by : (b : Bool) → (o.conn == conn) ≡ b → AllOwe start (e ∷ past) (map (drained_from conn budget) opens)
        → AllOwe start (e ∷ past)
        (cond b (with_outbox (drained_by budget o.outbox) o) o ∷ map (drained_from conn budget) opens)
    by false f more =
        let other : (conn == o.conn) ≡ false = grind (arith, nat_tests) in (
          owes-beside start past worker conn o.conn moment batch o.outbox n there.0
              (ap (λ b. b && is_open_for (now_of start past).connections worker o.conn) other) owes.0,
          more,
        )
    by true f more =
        let own : conn ≡ o.conn = grind (arith, nat_tests) in (
          subst (λ c. Owes start (e ∷ past) c (drained_by budget o.outbox)) own
              (owes-drained start past worker conn moment budget batch o.outbox n open_for
              (λ none. same (sym (mine own).behind_is ∙ none)) (mine own)),
          more,
        )
      where
        mine : conn ≡ o.conn → Owes start past conn o.outbox
        mine own = subst (λ c. Owes start past c o.outbox) (sym own) owes.0

-- the outbox of a connection that is served
pub outbox-owes : (start : Start) (past : List Entry) (worker conn : ℕ) (opens : List Open)
    → serves opens worker conn ≡ true
    → AllOwe start past opens → Owes start past conn (outbox_at opens conn)
outbox-owes start past worker conn [] e owes = cc
outbox-owes start past worker conn (o ∷ opens) e owes =
    by (o.conn == conn) refl (o.worker == worker) (λ h. outbox-owes start past worker conn opens h owes.1) e
  where
    by : (b : Bool) → (o.conn == conn) ≡ b → (d : Bool)
        → (serves opens worker conn ≡ true → Owes start past conn (outbox_at opens conn))
        → (b && d || serves opens worker conn) ≡ true
        → Owes start past conn (cond b o.outbox (outbox_at opens conn))
    by true f d more e =
        let same : o.conn ≡ conn = grind (arith, nat_tests) in
        subst (λ c. Owes start past c o.outbox) same owes.0
    by false f d more e = more e

-- ---- the act

-- a drain answers what the history says
pub reply-drain : (start : Start) (past : List Entry) (s : State) (worker now conn budget : ℕ)
    → IsFitStart start → Legal start past
    → IsKeptOf s (now_of start past) → AllOwe start past s.opens
    → reply s worker now (act.Drain conn budget) ≡ answer start past worker now (act.Drain conn budget)
reply-drain start past s worker now conn budget fit legal kept owes =
    by (serves s.opens worker conn) refl
    ∙ ap (λ b. cond b said (out.Ignored NoConn)) (open-is s (now_of start past) kept worker conn)
  where
    moment : ℕ
    moment = moment_of (now_of start past) now

    said : StepOut
    said = drained_out (history.behind start past conn)
        (messages (all_lives start past) moment conn (take budget (owed start past conn)))

    by : (b : Bool) → serves s.opens worker conn ≡ b
        → cond b (drained_answer s (max s.moment now) conn budget) (out.Ignored NoConn)
        ≡ cond b said (out.Ignored NoConn)
    by false e = refl
    by true e =
        let open_for : is_open_for (now_of start past).connections worker conn ≡ true =
        sym (open-is s (now_of start past) kept worker conn) ∙ e in
        ap (λ t. drained_answer s (max t now) conn budget) (moment-kept s (now_of start past) kept)
        ∙ drained-answer start past s moment conn budget fit legal
        (open-there (now_of start past).connections worker conn open_for)
        (topics-are s (now_of start past) kept)
        (metas-kept s (now_of start past) kept.core_is kept.opens_are)
        (outbox-owes start past worker conn s.opens e owes)

-- the open connections of what is kept are there
pub all-there : (cs : List Connection) (opens : List Open) → map plain opens ≡ map plain_of (open_ones cs)
    → AllThere cs opens
all-there cs opens same = from opens (open_ones cs) same (ones cs)
  where
    itself : (c : Connection) → (c.number == c.number) ≡ true
    itself c = grind (arith, nat_tests)

    later : (d : Connection) (cs : List Connection) (c : Connection) → is_there cs c.number ≡ true
        → is_there (d ∷ cs) c.number ≡ true
    later d cs c e = by (is_conn c.number d)
      where
        by : (b : Bool) → (b || is_there cs c.number) ≡ true
        by true = refl
        by false = e

    ones : (cs : List Connection) → AllByRecursion (λ c. is_there cs c.number ≡ true) (open_ones cs)
    ones [] = tt
    ones (c ∷ cs) =
        by (is_open c) refl
        (each-more (λ d. is_there cs d.number ≡ true) (λ d. is_there (c ∷ cs) d.number ≡ true)
        (λ d e. later c cs d e) (open_ones cs) (ones cs))
      where
        by : (b : Bool) → is_open c ≡ b
            → AllByRecursion (λ d. is_there (c ∷ cs) d.number ≡ true) (open_ones cs)
            → AllByRecursion (λ d. is_there (c ∷ cs) d.number ≡ true)
            (cond b (c ∷ open_ones cs) (open_ones cs))
        by true e more = (
          ap (λ b. b && (c.number == c.number) || is_there cs c.number) e
              ∙ ap (λ b. b || is_there cs c.number) (itself c),
          more,
        )
        by false e more = more

    from : (opens : List Open) (ones : List Connection) → map plain opens ≡ map plain_of ones
        → AllByRecursion (λ c. is_there cs c.number ≡ true) ones
        → AllThere cs opens
    from [] [] same h = tt
    from [] (c ∷ ones) same h = tt
    from (o ∷ opens) [] same h = absurd (cc)
    from (o ∷ opens) (c ∷ ones) same h =
        let first : plain o ≡ plain_of c = cc in
        let rest : map plain opens ≡ map plain_of ones = cc in
        (ap (λ n. is_there cs n) (ap (λ (p : Plain). p.number) first) ∙ h.0, from opens ones rest h.1)

-- the batch that a drain of one that isn't behind is answered has the messages of a prefix of what is owed
pub drained-prefix : (start : Start) (past : List Entry) (worker now conn budget : ℕ)
    → is_open_for (now_of start past).connections worker conn ≡ true → (account start past conn).fell ≡ None
    → take (length_of (drained_batch (answer start past worker now (act.Drain conn budget))))
    (owed start past conn)
    ≡ take budget (owed start past conn)
drained-prefix start past worker now conn budget open_for none =
    ap (λ (b : Batch). take (length b.texts + length b.values) (owed start past conn))
    (ap (λ b. drained_batch
    (cond b (drained_out (history.behind start past conn) handed) (out.Ignored NoConn))) open_for
    ∙ ap (λ o. drained_batch (drained_out o handed))
    (not-behind (is_there (now_of start past).connections conn)))
    ∙ take-messages (all_lives start past) (moment_of (now_of start past) now) conn budget
    (owed start past conn)
  where
    handed : Batch
    handed =
        messages (all_lives start past) (moment_of (now_of start past) now) conn
        (take budget (owed start past conn))

    not-behind : (b : Bool) → cond b (account start past conn).fell None ≡ None
    not-behind true = none
    not-behind false = refl

-- after a drain all outboxes hold what is owed
pub owes-drain : (start : Start) (past : List Entry) (s : State) (worker now conn budget : ℕ)
    → IsFitStart start → Legal start past
    → IsKeptOf s (now_of start past) → AllOwe start past s.opens
    → AllOwe start (answered start past worker now (act.Drain conn budget) ∷ past)
    (acted s worker now (act.Drain conn budget)).opens
owes-drain start past s worker now conn budget fit legal kept owes =
    by (serves s.opens worker conn) refl
  where
    n : IsNumbered start past
    n = is-numbered start past fit.few legal

    moment : ℕ
    moment = moment_of (now_of start past) now

    batch : Batch
    batch = drained_batch (answer start past worker now (act.Drain conn budget))

    there : AllThere (now_of start past).connections s.opens
    there = all-there (now_of start past).connections s.opens kept.opens_are

    by : (b : Bool) → serves s.opens worker conn ≡ b
        → AllOwe start (drain_of worker conn moment batch ∷ past)
        (cond b (record s { opens = map (drained_from conn budget) s.opens }) s).opens
    by false e =
        all-undrained start past worker conn moment batch n
        (sym (open-is s (now_of start past) kept worker conn) ∙ e) s.opens there owes
    by true e =
        let open_for : is_open_for (now_of start past).connections worker conn ≡ true =
        sym (open-is s (now_of start past) kept worker conn) ∙ e in
        all-drained start past worker conn moment budget batch n open_for
        (λ none. drained-prefix start past worker now conn budget open_for none) s.opens there owes
