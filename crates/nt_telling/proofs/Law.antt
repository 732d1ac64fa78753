-- The law of telling.
use Rattle.std.proofs.Common.{◌≡◌, ℕ, pos, is_none, Bool, true, false, cond, List, [], ◌++◌, map, take, length, Option}
use Rattle.std.proofs.Common.{Some, None, refl, sym, ap, subst, ◌∙◌, ◌==◌}
use Rattle.nt_subs.specs.declared.wish.Wanted.{Wanted}
use Rattle.nt_subs.specs.declared.wish.Wanted.TheVariants.{No, TopicOnly, Newest, All}
use Rattle.nt_rules.specs.declared.held.Held.{Held}
use Rattle.nt_rules.specs.outbox.Keys.{Key}
use Rattle.nt_rules.specs.outbox.Marks.{is_meta, is_valued, is_wish, meta_wish}
use Rattle.nt_rules.specs.declared.act.Entry.{Entry}
use Rattle.nt_rules.specs.declared.start.Start.{Start}
use Rattle.nt_rules.specs.history.Lives.{Life, is_living}
use Rattle.nt_rules.specs.history.Now.{is_there, now_of}
use Rattle.nt_rules.specs.history.Metas.{all_lives}
use Rattle.nt_rules.specs.history.Answer.{Legal}
use Rattle.nt_rules.specs.history.Saved.{IsSavedSet}
use Rattle.nt_rules.specs.history.Owed.{Account, account, behind, owed, messages, wish_for, wish_on, since_for}
use Rattle.nt_rules.specs.telling.Told.{messages_in, told, told_from}
use Rattle.nt_rules.specs.telling.Due.{Agrees, handed, held_by}
use Rattle.nt_rules.specs.history.Step.{ServerState, Represents}
use Rattle.nt_rules.specs.history.Trees.{AreTrees}
use Rattle.nt_telling.proofs.Lists.{take-all, found-has}
use Rattle.nt_telling.proofs.LifeKeys.{living_keys, ends_owed, rest_owed, owed-parts}
use Rattle.nt_telling.proofs.Holding.{look, told-append}
use Rattle.nt_telling.proofs.Messages.{message_of, runs}
use Rattle.nt_telling.proofs.Living.{notes, own-run, bounded-run}
use Rattle.nt_telling.proofs.Given.{state_of}
use Rattle.nt_telling.proofs.Owing.{HasPlaces, own-fine, own-done}
use Rattle.nt_telling.proofs.Handing.{LifeOk, Stands, AreGood, all-front, look-all, all-keys, rest-living-after}
use Rattle.nt_telling.proofs.Agreeing.{life-due, EachDue, all-due}
use Rattle.nt_telling.proofs.Good.{all-good}
use Rattle.nt_telling.proofs.Kept.{owed-is, owed-messages, stands}

-- a meta topic is wanted where it would be wanted otherwise, and so are its values
wished : (w : List ℕ → Wanted) (l : Life) → (is_wish (wish_on w l) ≡ is_wish (w l.name))
    × (is_valued (w l.name) ≡ is_valued (wish_on w l))
wished w l = by (is_meta l.id) (w l.name)
  where
    by : (b : Bool) (v : Wanted) → (is_wish (cond b (meta_wish v) v) ≡ is_wish v)
        × (is_valued v ≡ is_valued (cond b (meta_wish v) v))
    by true No = (refl, refl)
    by true TopicOnly = (refl, refl)
    by true Newest = (refl, refl)
    by true All = (refl, refl)
    by false v = (refl, refl)

over-none : (l : Life) → is_living l ≡ true → l.over ≡ None
over-none l e = by l.over e
  where
    by : (o : Option ℕ) → is_none o ≡ true → o ≡ None
    by None f = refl
    by (Some p) f = cc

-- Whatever was handed, and then all that is owed: a client that is there and hasn't fallen behind holds what it should.
pub law : (start : Start) (past : List Entry) (conn : ℕ) → IsSavedSet start.saved → AreTrees start past
    → Legal start past
    → is_there (now_of start past).connections conn ≡ true → behind start past conn ≡ None
    → Agrees start past conn (held_by start past conn)
law start past conn saved trees legal there quick =
    subst (Agrees start past conn) (sym held)
    (all-due w 0 lives after good.ids (all-front lives good a conn wish since moment hs st (length rest)).rise
    (rest-living-after lives good a conn wish since moment hs st (length rest)) each)
  where
    lives : List Life
    lives = all_lives start past

    a : Account
    a = account start past conn

    moment : ℕ
    moment = (now_of start past).moment

    w : List ℕ → Wanted
    w = wish_for start past conn

    wish : Life → Wanted
    wish = wish_on (wish_for start past conn)

    since : Life → ℕ
    since = since_for start past conn

    well : (account start past conn).fell ≡ None
    well = sym (ap (λ b. cond b (account start past conn).fell None) there) ∙ quick

    good : AreGood (all_lives start past)
    good = all-good start saved past trees legal

    hs : List Held
    hs = told (handed start past conn)

    st : Stands (all_lives start past) (account start past conn) (told (handed start past conn))
    st = stands start saved past conn trees legal there well

    rest : List Key
    rest = rest_owed a conn wish since lives

    all : List Key
    all = ends_owed a lives ++ take (length rest) rest

    after : List Held
    after = told_from hs (map (message_of lives moment conn) all)

    owed_all : owed start past conn ≡ all
    owed_all =
        owed-is start past conn there well ∙ owed-parts a conn wish since lives
        ∙ ap (λ ks. ends_owed a lives ++ ks) (sym (take-all rest))

    sent : messages_in (messages lives moment conn (owed start past conn))
        ≡ map (message_of lives moment conn) (owed start past conn)
    sent =
        subst (λ ks. messages_in (messages lives moment conn ks) ≡ map (message_of lives moment conn) ks)
        (take-all (owed start past conn))
        (owed-messages start past moment conn (length (owed start past conn)) there well)

    held : held_by start past conn ≡ after
    held =
        told-append [] (handed start past conn) (messages_in (messages lives moment conn (owed start past conn)))
        ∙ ap (told_from hs) (sent ∙ ap (map (message_of lives moment conn)) owed_all)

    each : EachDue w lives after
    each l e living wanted =
        let over = over-none l living in
        let ok : LifeOk None l a (look (pos l.id) hs) =
        subst (λ o. LifeOk o l a (look (pos l.id) hs)) over (st.each l.id l e) in
        let places : HasPlaces l = found-has HasPlaces (λ m. m.id == l.id) lives l good.places e in
        let fine = own-fine a conn (wish l) (since l) l places in
        let keys = living_keys a conn (wish l) (since l) l in
        let shown = own-run moment l (state_of a l) keys (look (pos l.id) hs) ok.0 fine ok.1 in
        let bounded = bounded-run l (state_of a l) keys fine ok.2 in
        let same = wished w l in
        let due = life-due (wish l) (w l.name) l (notes (state_of a l) keys)
        (runs moment l keys (look (pos l.id) hs)) places
        (same.0 ∙ wanted) same.1 (own-done a conn (wish l) (since l) l places) shown bounded in (
          due.0,
          look-all lives good a conn wish since moment hs st (length rest) l.id l e
              ∙ ap (λ ks. runs moment l ks (look (pos l.id) hs)) (all-keys lives good a conn wish since l.id l e over)
              ∙ due.1,
          due.2,
        )

-- So in every history for which a server stands.
pub law-server : (server : ServerState) (start : Start) (past : List Entry) (conn : ℕ) → Represents server start past
    → is_there (now_of start past).connections conn ≡ true → behind start past conn ≡ None
    → Agrees start past conn (held_by start past conn)
law-server server start past conn represents = law start past conn represents.start_is represents.trees represents.legal
