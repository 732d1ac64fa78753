-- What a client holds stands for each life after every lawful history.
use Rattle.std.proofs.Common.{◌≡◌, ℕ, pos, append_assoc, ◌+◌, ◌≤◌, ◌<◌, ◌&&◌, ◌||◌, ◌==◌, suc, is_none, Bool, true}
use Rattle.std.proofs.Common.{false, cond, List, [], ◌∷◌, ◌++◌, map, take, length, Option, Some, None, refl, sym, ap}
use Rattle.std.proofs.Common.{subst, ◌∙◌, ◌⊎◌, inl, inr, append-nil, arith}
use Rattle.std.specs.List.{list_any}
use Rattle.std.proofs.lemmas.Bool.{true≢false, eqb-true, and_parts, and_from, and_right, or_parts}
use Rattle.std.proofs.lemmas.Bool.Decides.{nat_tests}
use Rattle.std.proofs.lemmas.List.Folds.{list_any-append}
use Rattle.nt_control.specs.declared.message.ClientMsg.TheVariants.{Publish, Unpublish, SetProps, Subscribe}
use Rattle.nt_control.specs.declared.message.ClientMsg.TheVariants.{Unsubscribe}
use Rattle.nt_subs.specs.declared.wish.Wanted.{Wanted}
use Rattle.nt_subs.specs.Subscriptions.{Subs, with_sub, without_sub}
use Rattle.nt_rules.specs.declared.held.Held.{Held}
use Rattle.nt_rules.specs.declared.batch.Batch.{Batch}
use Rattle.nt_rules.specs.outbox.Keys.{Key, sets, is_value}
use Rattle.nt_rules.specs.outbox.Calls.{fallen}
use Rattle.nt_rules.specs.declared.act.Msg.{Msg}
use Rattle.nt_rules.specs.declared.act.Msg.TheVariants as msg
use Rattle.nt_rules.specs.declared.act.Deed.{Deed}
use Rattle.nt_rules.specs.declared.act.Deed.TheVariants.{Opened, NotOpened, Said, Drained, Closed, Permitted, NoPermit}
use Rattle.nt_rules.specs.declared.act.Deed.TheVariants.{Shut}
use Rattle.nt_rules.specs.declared.act.Entry.{Entry}
use Rattle.nt_rules.specs.declared.start.Start.{Start}
use Rattle.nt_rules.specs.history.Lives.{Life, closed_for}
use Rattle.nt_rules.specs.history.Now.{Now, Connection, opened, is_conn, is_there, is_open_for, with_subs, closed}
use Rattle.nt_rules.specs.history.Now.{cause_of, is_traced, connections_after, lives_after, after_deed, now_of}
use Rattle.nt_rules.specs.history.Metas.{all_lives}
use Rattle.nt_rules.specs.history.Answer.{Legal, IsLawful, IsBatch, IsPrefix}
use Rattle.nt_rules.specs.history.Saved.{IsSavedSet}
use Rattle.nt_rules.specs.history.Owed.{Account, account, given_after, settings_after, set_on, owed, keys_owed}
use Rattle.nt_rules.specs.history.Owed.{messages, wish_for, wish_on, since_for}
use Rattle.nt_rules.specs.telling.Told.{messages_in, told, told_from}
use Rattle.nt_rules.specs.telling.Due.{handed, handed_by}
use Rattle.nt_laws.proofs.histories.Facts.{IsNumberedConnections, place-is, connections-numbered}
use Rattle.nt_laws.proofs.histories.Newcomer.{IsNew, account-new}
use Rattle.nt_laws.proofs.outboxes.UnchangedPresent.{quiet-lives}
use Rattle.nt_laws.proofs.metas.AllLives.{saved-fit}
use Rattle.nt_laws.proofs.metas.MetaOrder.{connections-length, opens}
use Rattle.nt_rules.specs.history.Trees.{AreTrees}
use Rattle.nt_telling.proofs.Lists.{take-take}
use Rattle.nt_telling.proofs.LifeKeys.{ends_owed, news_owed, values_owed, owed-parts, ends-texts, news-texts}
use Rattle.nt_telling.proofs.LifeKeys.{values-values}
use Rattle.nt_telling.proofs.Holding.{look, told-append}
use Rattle.nt_telling.proofs.Messages.{message_of, batch-messages}
use Rattle.nt_telling.proofs.Given.{with_given}
use Rattle.nt_telling.proofs.Handing.{LifeOk, Stands, AreGood, handed-stands}
use Rattle.nt_telling.proofs.MetaEntries.{came}
use Rattle.nt_telling.proofs.Stepping.{none-pending, step-stands, stands-new}
use Rattle.nt_telling.proofs.Good.{all-proper, all-good, past-of}
use Rattle.nt_laws.proofs.topics.ItemFacts.{each-append}
use Rattle.nt_laws.proofs.histories.Lawful.{length-messages}

-- ---- connections that are there

there-append : (conn : ℕ) (cs : List Connection) (c : Connection)
    → is_there (cs ++ c ∷ []) conn ≡ (is_there cs conn || (is_conn conn c || false))
there-append conn cs c = list_any-append (is_conn conn) cs (c ∷ [])

there-map : (conn : ℕ) (f : Connection → Connection)
    → ((c : Connection) → is_conn conn (f c) ≡ true → is_conn conn c ≡ true)
    → (cs : List Connection) → is_there (map f cs) conn ≡ true → is_there cs conn ≡ true
there-map conn f back [] e = e
there-map conn f back (c ∷ cs) e = by (is_conn conn c) refl (is_conn conn (f c)) refl e (there-map conn f back cs)
  where
    by : (b : Bool) → is_conn conn c ≡ b → (d : Bool) → is_conn conn (f c) ≡ d → (d || is_there (map f cs) conn) ≡ true
        → (is_there (map f cs) conn ≡ true → is_there cs conn ≡ true) → (b || is_there cs conn) ≡ true
    by true g d h e more = refl
    by false g true h e more = absurd (true≢false (sym (back c h) ∙ g))
    by false g false h e more = more e

there-subs : (conn n : ℕ) (f : Subs → Subs) (cs : List Connection) → is_there (with_subs n f cs) conn ≡ true
    → is_there cs conn ≡ true
there-subs conn n f cs e = there-map conn _ (λ c. back c (is_conn n c)) cs e
  where
    back : (c : Connection) (b : Bool) → is_conn conn (cond b (record c { subs = f c.subs }) c) ≡ true
        → is_conn conn c ≡ true
    back c true h = h
    back c false h = h

there-closed : (conn place n : ℕ) (cs : List Connection) → is_there (closed place n cs) conn ≡ true
    → is_there cs conn ≡ true
there-closed conn place n cs e = there-map conn _ (λ c. back c (is_conn n c)) cs e
  where
    back : (c : Connection) (b : Bool) → is_conn conn (cond b (record c { over = Some place }) c) ≡ true
        → is_conn conn c ≡ true
    back c true h = absurd (true≢false (sym h))
    back c false h = h

-- a connection that is there was there, or was opened by the deed
abbrev WasThere : ℕ → Now → ℕ → Deed → Type 0
WasThere conn n sender (Opened name) = (is_there n.connections conn ≡ true) ⊎ (sender ≡ conn)
WasThere conn n sender d = is_there n.connections conn ≡ true

there-after : (conn : ℕ) (n : Now) (worker sender : ℕ) (d : Deed)
    → is_there (after_deed n worker sender d).connections conn ≡ true → WasThere conn n sender d
there-after conn n worker sender (Opened name) e =
    by (is_there n.connections conn) refl (sym (there-append conn n.connections (opened worker sender name)) ∙ e)
  where
    by : (b : Bool) → is_there n.connections conn ≡ b → (b || ((sender == conn) || false)) ≡ true
        → (is_there n.connections conn ≡ true) ⊎ (sender ≡ conn)
    by true f e = inl f
    by false f e = inr (eqb-true sender conn (one (sender == conn) e))
      where
        one : (b : Bool) → (b || false) ≡ true → b ≡ true
        one true h = refl
        one false h = h
there-after conn n worker sender NotOpened e = e
there-after conn n worker sender (Said m) e = by (is_traced m (cause_of n worker sender m)) e
  where
    traced : (m : Msg) → is_there (connections_after n.connections sender m) conn ≡ true
        → is_there n.connections conn ≡ true
    traced (msg.Control (Publish name uid typ props)) e = e
    traced (msg.Control (Unpublish uid)) e = e
    traced (msg.Control (SetProps name u)) e = e
    traced (msg.Control (Subscribe uid sub)) e = there-subs conn sender (with_sub uid sub) n.connections e
    traced (msg.Control (Unsubscribe uid)) e = there-subs conn sender (without_sub uid) n.connections e
    traced (msg.Put v) e = e

    by : (b : Bool)
        → is_there (cond b (record n {
          connections = connections_after n.connections sender m;
          lives =
              lives_after (n.place + 1) n.lives sender m;
        }) n).connections conn ≡ true
        → is_there n.connections conn ≡ true
    by true e = traced m e
    by false e = e
there-after conn n worker sender (Drained batch) e = e
there-after conn n worker sender Closed e = by (is_open_for n.connections worker sender) e
  where
    by : (b : Bool)
        → is_there (cond b (record n {
          connections = closed (n.place + 1) sender n.connections;
          lives =
              map (closed_for (n.place + 1) sender) n.lives;
        }) n).connections conn ≡ true
        → is_there n.connections conn ≡ true
    by true e = there-closed conn (n.place + 1) sender n.connections e
    by false e = e
there-after conn n worker sender Permitted e = e
there-after conn n worker sender NoPermit e = e
there-after conn n worker sender Shut e = e

-- one that is open for a worker is there
open-there : (conn worker : ℕ) (cs : List Connection) → is_there cs conn ≡ false → is_open_for cs worker conn ≡ false
open-there conn worker [] e = refl
open-there conn worker (c ∷ cs) e =
    let p = or_parts (is_conn conn c) (is_there cs conn) e in
    ap (λ b. (b && (c.worker == worker)) || is_open_for cs worker conn) p.0 ∙ open-there conn worker cs p.1

-- numbers of connections are from 1 to as many as there are
there-low : (conn k : ℕ) (cs : List Connection) → IsNumberedConnections k cs → k + length cs ≤ conn
    → is_there cs conn ≡ false
there-low conn k [] h low = refl
there-low conn k (c ∷ cs) h low =
    let number = h.0 in
    let other : (c.number == conn) ≡ false = grind (arith, nat_tests) in
    ap (λ b. b || is_there cs conn) (and_right (is_none c.over) (c.number == conn) other)
    ∙ there-low conn (suc k) cs h.1 (omega arith)

-- ---- before a connection is opened nothing is handed to it

handed-none : (b : Bool) (d : Deed) → b ≡ false → handed_by b d ≡ []
handed-none true d e = absurd (true≢false e)
handed-none false (Opened name) e = refl
handed-none false NotOpened e = refl
handed-none false (Said m) e = refl
handed-none false (Drained batch) e = refl
handed-none false Closed e = refl
handed-none false Permitted e = refl
handed-none false NoPermit e = refl
handed-none false Shut e = refl

new-absent : (start : Start) (past : List Entry) (conn : ℕ) → Legal start past → IsNew start past conn
    → is_there (now_of start past).connections conn ≡ false
new-absent start past conn legal new =
    there-low conn 1 (now_of start past).connections (connections-numbered start past legal) (omega arith)

was-new : (start : Start) (past : List Entry) (e : Entry) (conn : ℕ) → IsNew start (e ∷ past) conn
    → IsNew start past conn
was-new start past e conn new =
    less (length (now_of start past).connections) (length (now_of start (e ∷ past)).connections) (opens e.deed)
    (connections-length (now_of start past) e.worker e.conn e.deed) new
  where
    less : (a b k : ℕ) → b ≡ a + k → b < conn → a < conn
    less a b k e h = omega arith

handed-new : (start : Start) (past : List Entry) (conn : ℕ) → Legal start past → IsNew start past conn
    → handed start past conn ≡ []
handed-new start [] conn legal new = refl
handed-new start (e ∷ past) conn legal new =
    (λ i. handed-new start past conn legal.2 (was-new start past e conn new) i
    ++ handed-none ((e.conn == conn) && is_open_for (now_of start past).connections e.worker conn) e.deed
    (and_right (e.conn == conn) _ (open-there conn e.worker (now_of start past).connections
    (new-absent start past conn legal.2 (was-new start past e conn new)))) i)

-- ---- what is owed to a connection that is there

pub owed-is : (start : Start) (past : List Entry) (conn : ℕ) → is_there (now_of start past).connections conn ≡ true
    → (account start past conn).fell ≡ None
    → owed start past conn ≡ keys_owed (account start past conn) conn (wish_on (wish_for start past conn))
    (since_for start past conn) (all_lives start past)
owed-is start past conn there well =
    ap (λ b. cond b (keys_owed (account start past conn) conn (wish_on (wish_for start past conn))
    (since_for start past conn) (all_lives start past)) [])
    (and_from (is_there (now_of start past).connections conn) (is_none (account start past conn).fell) there
    (ap is_none well))

-- the messages of a front of it, as a batch hands them
pub owed-messages : (start : Start) (past : List Entry) (moment conn n : ℕ)
    → is_there (now_of start past).connections conn ≡ true
    → (account start past conn).fell ≡ None
    → messages_in (messages (all_lives start past) moment conn (take n (owed start past conn)))
    ≡ map (message_of (all_lives start past) moment conn) (take n (owed start past conn))
owed-messages start past moment conn n there well =
    subst (λ ks. messages_in (messages lives moment conn (take n ks)) ≡ map (message_of lives moment conn) (take n ks))
    (sym (owed-is start past conn there well ∙ owed-parts a conn wish since lives
    ∙ sym (append_assoc (ends_owed a lives) (news_owed a conn wish lives) (values_owed a wish since lives))))
    (batch-messages lives moment conn n (ends_owed a lives ++ news_owed a conn wish lives)
    (values_owed a wish since lives)
    (each-append (λ k. is_value k ≡ false) (ends_owed a lives) (news_owed a conn wish lives) (ends-texts a lives)
    (news-texts a conn wish lives))
    (values-values a wish since lives))
  where
    lives : List Life
    lives = all_lives start past

    a : Account
    a = account start past conn

    wish : Life → Wanted
    wish l = wish_on (wish_for start past conn) l

    since : Life → ℕ
    since l = since_for start past conn l

-- ---- what stands after an entry

-- a deed that hands nothing
abbrev NoDrain : Deed → Type 0
NoDrain (Drained batch) = ⊥
NoDrain d = Unit {0}

handed-quiet : (own : Bool) (d : Deed) → NoDrain d → handed_by own d ≡ []
handed-quiet false d h = handed-none false d refl
handed-quiet true (Opened name) h = refl
handed-quiet true NotOpened h = refl
handed-quiet true (Said m) h = refl
handed-quiet true (Drained batch) h = absurd h
handed-quiet true Closed h = refl
handed-quiet true Permitted h = refl
handed-quiet true NoPermit h = refl
handed-quiet true Shut h = refl

given-quiet : (own : Bool) (d : Deed) (given owed : List Key) → NoDrain d → given_after d own given owed ≡ given
given-quiet own (Opened name) given owed h = refl
given-quiet own NotOpened given owed h = refl
given-quiet own (Said m) given owed h = refl
given-quiet own (Drained batch) given owed h = absurd h
given-quiet own Closed given owed h = refl
given-quiet own Permitted given owed h = refl
given-quiet own NoPermit given owed h = refl
given-quiet own Shut given owed h = refl

-- an account says of a life what one with the same keys and places says
same-account : (lives : List Life) (a a' : Account) (hs : List Held) → a'.given ≡ a.given
    → a'.told_settings ≡ a.told_settings
    → Stands lives a hs → Stands lives a' hs
same-account lives a a' hs given told st = record {
  rise = st.rise;
  of_lives = st.of_lives;
  each = λ k l e. by l.over l (look (pos k) hs) (st.each k l e);
}
  where
    by : (o : Option ℕ) (l : Life) (s : Option Held) → LifeOk o l a s → LifeOk o l a' s
    by None l s h =
        subst (λ (x : Account). LifeOk None l x s)
        (λ i. record { given = sym given i; told_settings = sym told i; fell = a'.fell }) h
    by (Some place) l s h =
        subst (λ (x : Account). LifeOk (Some place) l x s)
        (λ i. record { given = sym given i; told_settings = sym told i; fell = a'.fell }) h

fell-before : (o : Option ℕ) (weight : ℕ) → fallen o weight ≡ None → o ≡ None
fell-before None weight e = refl
fell-before (Some w) weight e = cc

module _ (start : Start) (saved : IsSavedSet start.saved) where
  trees-before : (past : List Entry) (e : Entry) → AreTrees start (e ∷ past) → AreTrees start past
  trees-before past e trees = record { saved = trees.saved; published = trees.published.1 }

  module _ (past : List Entry) (e : Entry) (conn : ℕ) (trees : AreTrees start (e ∷ past))
      (legal : Legal start (e ∷ past)) where
    abbrev own : Bool
    own = (e.conn == conn) && is_open_for (now_of start past).connections e.worker conn

    good : AreGood (all_lives start past)
    good = all-good start saved past (trees-before past e trees) legal.2

    -- an entry that hands nothing
    quiet-step : is_there (now_of start past).connections conn ≡ true → (account start past conn).fell ≡ None
        → NoDrain e.deed
        → Stands (all_lives start past) (account start past conn) (told (handed start past conn))
        → Stands (all_lives start (e ∷ past)) (account start (e ∷ past) conn) (told (handed start (e ∷ past) conn))
    quiet-step there well quiet st =
        subst (λ ms. Stands (all_lives start (e ∷ past)) (account start (e ∷ past) conn) (told ms))
        (sym (ap (λ ms. handed start past conn ++ ms) (handed-quiet own e.deed quiet)
        ∙ append-nil (handed start past conn)))
        (step-stands (length past) conn e.conn (set_on (now_of start past) e.worker e.conn e.deed)
        (all_lives start past) (all_lives start (e ∷ past))
        (account start past conn) (account start (e ∷ past) conn) (owed start past conn) (told (handed start past conn))
        (past-of start saved past (trees-before past e trees) legal.2 conn)
        (came start past e (saved-fit start saved).few legal trees.published.0)
        (given-quiet own e.deed (account start past conn).given (owed start past conn) quiet)
        (ap (λ p. settings_after (account start past conn) (owed start past conn) conn (p + 1) e.conn
        (set_on (now_of start past) e.worker e.conn e.deed)) (place-is start past))
        (λ k l is living set none.
        none-pending (all_lives start past) good (account start past conn) conn (wish_on (wish_for start past conn))
        (since_for start past conn) k l is living
        (ap (list_any (sets l.id)) (sym (owed-is start past conn there well)) ∙ none))
        st)

    -- a drain
    drain-step : is_there (now_of start past).connections conn ≡ true → (account start past conn).fell ≡ None
        → (batch : Batch) → e.deed ≡ Drained batch
        → Stands (all_lives start past) (account start past conn) (told (handed start past conn))
        → Stands (all_lives start (e ∷ past)) (account start (e ∷ past) conn) (told (handed start (e ∷ past) conn))
    drain-step there well batch d st =
        subst (λ ls. Stands ls (account start (e ∷ past) conn) (told (handed start (e ∷ past) conn))) (sym same-lives)
        (by own refl)
      where
        same-lives : all_lives start (e ∷ past) ≡ all_lives start past
        same-lives = quiet-lives start past e (record {
          connections_stay = ap (λ x. (after_deed (now_of start past) e.worker e.conn x).connections) d;
          lives_stay = ap (λ x. (after_deed (now_of start past) e.worker e.conn x).lives) d;
        })

        told-same : (account start (e ∷ past) conn).told_settings ≡ (account start past conn).told_settings
        told-same =
            ap (λ x. settings_after (account start past conn) (owed start past conn) conn
            ((now_of start past).place + 1) e.conn (set_on (now_of start past) e.worker e.conn x)) d

        given-is : (b : Bool) → own ≡ b
            → (account start (e ∷ past) conn).given
            ≡ given_after (Drained batch) b (account start past conn).given (owed start past conn)
        given-is b o = (λ i. given_after (d i) (o i) (account start past conn).given (owed start past conn))

        handed-is : (b : Bool) → own ≡ b
            → handed start (e ∷ past) conn ≡ handed start past conn ++ handed_by b (Drained batch)
        handed-is b o = (λ i. handed start past conn ++ handed_by (o i) (d i))

        by : (b : Bool) → own ≡ b → Stands (all_lives start past) (account start (e ∷ past) conn)
            (told (handed start (e ∷ past) conn))
        by false o =
            subst (λ ms. Stands (all_lives start past) (account start (e ∷ past) conn) (told ms))
            (sym (handed-is false o ∙ append-nil (handed start past conn)))
            (same-account (all_lives start past) (account start past conn) (account start (e ∷ past) conn)
            (told (handed start past conn))
            (given-is false o) told-same st)
        by true o =
            let parts = and_parts (e.conn == conn) (is_open_for (now_of start past).connections e.worker conn) o in
            let same : e.conn ≡ conn = eqb-true e.conn conn parts.0 in
            let lawful : IsBatch (is_open_for (now_of start past).connections e.worker e.conn)
            (all_lives start past) e.now e.conn (owed start past e.conn) batch =
            subst (IsLawful start past e.worker e.conn e.now) d legal.0 in
            let front : IsPrefix (all_lives start past) e.now conn (owed start past conn) batch =
            subst (λ b. IsBatch b (all_lives start past) e.now conn (owed start past conn) batch) parts.1
            (subst (λ c. IsBatch (is_open_for (now_of start past).connections e.worker c)
            (all_lives start past) e.now c (owed start past c) batch) same lawful) in
            let ks = take front.0 (owed start past conn) in
            let count : length batch.texts + length batch.values ≡ length ks =
            ap (λ (b : Batch). length b.texts + length b.values) front.2
            ∙ length-messages (all_lives start past) e.now conn ks in
            let given : (account start (e ∷ past) conn).given ≡ (account start past conn).given ++ ks =
            given-is true o
            ∙ ap (λ n. (account start past conn).given ++ take n (owed start past conn)) count
            ∙ ap (λ w. (account start past conn).given ++ w) (take-take front.0 (owed start past conn)) in
            let ms : told (handed start (e ∷ past) conn)
            ≡ told_from (told (handed start past conn)) (map (message_of (all_lives start past) e.now conn) ks) =
            ap told (handed-is true o)
            ∙ told-append [] (handed start past conn) (messages_in batch)
            ∙ ap (told_from (told (handed start past conn)))
            (ap messages_in front.2 ∙ owed-messages start past e.now conn front.0 there well) in
            let keys = owed-is start past conn there well in
            let next : Stands (all_lives start past) (with_given (account start past conn) ks)
            (told_from (told (handed start past conn)) (map (message_of (all_lives start past) e.now conn) ks)) =
            subst (λ w. Stands (all_lives start past) (with_given (account start past conn) (take front.0 w))
            (told_from (told (handed start past conn))
            (map (message_of (all_lives start past) e.now conn) (take front.0 w)))) (sym keys)
            (handed-stands (all_lives start past) good (account start past conn) conn
            (wish_on (wish_for start past conn)) (since_for start past conn)
            e.now front.0 (told (handed start past conn)) st) in
            subst (Stands (all_lives start past) (account start (e ∷ past) conn)) (sym ms)
            (same-account (all_lives start past) (with_given (account start past conn) ks)
            (account start (e ∷ past) conn) _ given told-same next)

    -- a connection that is opened
    open-step : is_there (now_of start past).connections conn ≡ false
        → is_there (now_of start (e ∷ past)).connections conn ≡ true
        → Stands (all_lives start (e ∷ past)) (account start (e ∷ past) conn) (told (handed start (e ∷ past) conn))
    open-step gone there' = by e.deed refl (there-after conn (now_of start past) e.worker e.conn e.deed there')
      where
        new-step : (name : List ℕ) → e.deed ≡ Opened name → e.conn ≡ conn
            → Stands (all_lives start (e ∷ past)) (account start (e ∷ past) conn) (told (handed start (e ∷ past) conn))
        new-step name d same =
            let lawful = subst (IsLawful start past e.worker e.conn e.now) d legal.0 in
            let number : e.conn ≡ length (now_of start past).connections + 1 = lawful.1 in
            let new : IsNew start past conn = omega arith in
            let before = account-new start past conn legal.2 new in
            let given : (account start (e ∷ past) conn).given ≡ [] =
            ap (λ x. given_after x own (account start past conn).given (owed start past conn)) d
            ∙ ap (λ (x : Account). x.given) before in
            let told_is : (account start (e ∷ past) conn).told_settings ≡ [] =
            ap (λ x. settings_after (account start past conn) (owed start past conn) conn
            ((now_of start past).place + 1) e.conn (set_on (now_of start past) e.worker e.conn x)) d
            ∙ ap (λ (x : Account). x.told_settings) before in
            let nothing : handed start (e ∷ past) conn ≡ [] =
            (λ i. handed-new start past conn legal.2 new i ++ handed-none own e.deed
            (and_right (e.conn == conn) _ (open-there conn e.worker (now_of start past).connections gone)) i) in
            subst (λ ms. Stands (all_lives start (e ∷ past)) (account start (e ∷ past) conn) (told ms)) (sym nothing)
            (stands-new (all_lives start (e ∷ past)) (account start (e ∷ past) conn) given told_is
            (λ k l is over. (all-proper start saved (e ∷ past) trees.saved trees.published legal k l is).ordered over))

        never : is_there (now_of start past).connections conn ≡ true → ⊥
        never there = true≢false (sym there ∙ gone)

        by : (d : Deed) → e.deed ≡ d → WasThere conn (now_of start past) e.conn d
            → Stands (all_lives start (e ∷ past)) (account start (e ∷ past) conn) (told (handed start (e ∷ past) conn))
        by (Opened name) d (inl there) = absurd (never there)
        by (Opened name) d (inr same) = new-step name d same
        by NotOpened d there = absurd (never there)
        by (Said m) d there = absurd (never there)
        by (Drained batch) d there = absurd (never there)
        by Closed d there = absurd (never there)
        by Permitted d there = absurd (never there)
        by NoPermit d there = absurd (never there)
        by Shut d there = absurd (never there)

    any-step : is_there (now_of start past).connections conn ≡ true → (account start past conn).fell ≡ None
        → Stands (all_lives start past) (account start past conn) (told (handed start past conn))
        → Stands (all_lives start (e ∷ past)) (account start (e ∷ past) conn) (told (handed start (e ∷ past) conn))
    any-step there well st = by e.deed refl
      where
        other : (d : Deed) → e.deed ≡ d → NoDrain d
            → Stands (all_lives start (e ∷ past)) (account start (e ∷ past) conn) (told (handed start (e ∷ past) conn))
        other d is quiet = quiet-step there well (subst NoDrain (sym is) quiet) st

        by : (d : Deed) → e.deed ≡ d → Stands (all_lives start (e ∷ past)) (account start (e ∷ past) conn)
            (told (handed start (e ∷ past) conn))
        by (Opened name) is = other (Opened name) is tt
        by NotOpened is = other NotOpened is tt
        by (Said m) is = other (Said m) is tt
        by (Drained batch) is = drain-step there well batch is st
        by Closed is = other Closed is tt
        by Permitted is = other Permitted is tt
        by NoPermit is = other NoPermit is tt
        by Shut is = other Shut is tt

  -- ---- after every history

  pub stands : (past : List Entry) (conn : ℕ) → AreTrees start past → Legal start past
      → is_there (now_of start past).connections conn ≡ true
      → (account start past conn).fell ≡ None
      → Stands (all_lives start past) (account start past conn) (told (handed start past conn))
  stands [] conn trees legal there well = absurd (true≢false (sym there))
  stands (e ∷ past) conn trees legal there' well' =
      by (is_there (now_of start past).connections conn) refl (stands past conn (trees-before past e trees) legal.2)
    where
      well : (account start past conn).fell ≡ None
      well = fell-before (account start past conn).fell _ well'

      by : (b : Bool) → is_there (now_of start past).connections conn ≡ b
          → (is_there (now_of start past).connections conn ≡ true → (account start past conn).fell ≡ None
          → Stands (all_lives start past) (account start past conn) (told (handed start past conn)))
          → Stands (all_lives start (e ∷ past)) (account start (e ∷ past) conn) (told (handed start (e ∷ past) conn))
      by true there more = any-step past e conn trees legal there well (more there well)
      by false gone more = open-step past e conn trees legal gone there'
