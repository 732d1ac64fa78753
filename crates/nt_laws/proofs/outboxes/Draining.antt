-- A drain hands a prefix of what is owed, and the outbox then holds what is owed after it.
use Rattle.std.proofs.Common.{◌≡◌, ◌+◌, ◌&&◌, ◌||◌, ◌==◌, ℕ, zero, suc, Bool, true, false, cond, List, [], ◌∷◌, ◌++◌}
use Rattle.std.proofs.Common.{Option, Some, None, is_none, length, take, append-nil, refl, sym, ◌∙◌, ap, arith}
use Rattle.std.specs.List.{AllByRecursion, take-map}
use Rattle.std.proofs.lemmas.Bool.Decides.{nat_tests}
use Rattle.nt_subs.specs.declared.wish.Wanted.{Wanted}
use Rattle.nt_rules.specs.outbox.Marks.{Mark}
use Rattle.nt_rules.specs.declared.batch.Batch.{Batch}
use Rattle.nt_rules.specs.outbox.Keys.{Key, Of_end, is_kind, is_value}
use Rattle.nt_rules.specs.outbox.Marks.{keys, weight, handed_all}
use Rattle.nt_rules.specs.outbox.Calls.{OutboxState, behind, unless_behind, fallen, drained}
use Rattle.nt_rules.specs.declared.act.Deed.TheVariants.{Drained}
use Rattle.nt_rules.specs.declared.act.Entry.{Entry}
use Rattle.nt_rules.specs.history.Lives.{Life, taken_since_turn}
use Rattle.nt_rules.specs.declared.start.Start.{Start}
use Rattle.nt_rules.specs.history.Now.{Connection, now_of, is_conn, is_there, is_open_for}
use Rattle.nt_rules.specs.history.Metas.{all_lives}
use Rattle.nt_rules.specs.history.Owed.{Account, account, accounted, given_after, owed, owed_by, keys_owed}
use Rattle.nt_rules.specs.history.Owed.{lives_weight, messages, newest_from, life_at, wish_for, wish_on, since_for}
use Rattle.nt_rules.specs.history.Marks.{marks_by, marks_owed}
use Rattle.nt_rules.specs.history.State.{drained_by}
use Rattle.nt_rules.specs.history.Step.{Owes}
use Rattle.nt_laws.proofs.topics.ItemFacts.{each-both, each-take}
use Rattle.nt_laws.proofs.marks.KeysOwed.{unplaced, IsOrdinary, weight-owed}
use Rattle.nt_laws.proofs.metas.AllLives.{IsNumbered, all-found, all-ordinary}
use Rattle.nt_laws.proofs.histories.Lawful.{length-messages}
use Rattle.nt_laws.proofs.outboxes.OutboxKeys.{wish_of, marks-keys}
use Rattle.nt_laws.proofs.marks.OwnKeys.{OfLife, of-life, over-ends, blank-none, meta-last}
use Rattle.nt_laws.proofs.marks.HandedMarks.{Fits, out-of, reached-of, with_given, marks-handed}
use Rattle.nt_laws.proofs.outboxes.UnchangedPresent.{IsQuiet, quiet-numbered, quiet-marks, owes-still}

-- ---- a prefix of the keys

-- a prefix of what is owed says of each life only what its mark owes
fits-prefix : (a : Account) (conn : ℕ) (wish : Life → Wanted) (since : Life → ℕ) (lives : List Life) (n : ℕ)
    → AllByRecursion (λ l. life_at l.id lives ≡ Some l) lives
    → AllByRecursion (λ l. IsOrdinary (wish l) l) lives
    → AllByRecursion (Fits a conn wish since (take n (keys_owed a conn wish since lives))) lives
fits-prefix a conn wish since lives n found ordinary =
    each-both (λ l. life_at l.id lives ≡ Some l) (λ l. IsOrdinary (wish l) l)
    (Fits a conn wish since (take n ks)) one lives found ordinary
  where
    ks : List Key
    ks = keys_owed a conn wish since lives

    one : (l : Life) → life_at l.id lives ≡ Some l → IsOrdinary (wish l) l
        → Fits a conn wish since (take n ks) l
    one l here h = record {
      if_over = λ e. out-of l.id (take n ks) (each-take (OfLife l.id Ends) n ks
          (of-life Ends a conn wish since lives found l here (over-ends a conn (wish l) (since l) l e)));
      if_blank = λ e. out-of l.id (take n ks) (each-take (OfLife l.id Ends) n ks
          (of-life Ends a conn wish since lives found l here (blank-none Ends a conn wish since l h e)));
      if_meta = λ e meta. reached-of l.id (taken_since_turn l) (take n ks) (each-take (OfLife l.id Last) n ks
          (of-life Last a conn wish since lives found l here (meta-last a conn (wish l) (since l) l h meta)));
    }
      where
        Ends : Key → Type 0
        Ends k = is_kind k.kind Of_end ≡ true

        Last : Key → Type 0
        Last k = is_value k ≡ true → newest_from (k.place + 1) (taken_since_turn l) ≡ None

-- ---- the account

-- the weight with which a connection is behind after an entry, where it wasn't before
pub fell-now : (start : Start) (past : List Entry) (e : Entry) (conn : ℕ) → IsNumbered start (e ∷ past)
    → is_there (now_of start (e ∷ past)).connections conn ≡ true → (account start past conn).fell ≡ None
    → (account start (e ∷ past) conn).fell ≡ fallen None (weight (marks_owed start (e ∷ past) conn))
fell-now start past e conn n there none =
    by (account start past conn).fell none (is_there (now_of start (e ∷ past)).connections conn) there
  where
    next : Account
    next = accounted (account start past conn) (owed_by (account start past conn) start past conn)
        (now_of start past) e conn

    total : ℕ
    total = lives_weight next conn (wish_of start (e ∷ past) conn)
        (since_for start (e ∷ past) conn) (all_lives start (e ∷ past))

    weighs : weight (marks_owed start (e ∷ past) conn) ≡ total
    weighs =
        weight-owed next conn (wish_of start (e ∷ past) conn)
        (since_for start (e ∷ past) conn) (all_lives start (e ∷ past))
        (all-ordinary start (e ∷ past) (wish_for start (e ∷ past) conn) n)

    by : (f : Option ℕ) → f ≡ None → (t : Bool) → t ≡ true
        → fallen f (cond (t && is_none f) total 0) ≡ fallen None (weight (marks_owed start (e ∷ past) conn))
    by None f true t = ap (λ n. fallen None n) (sym weighs)
    by None f false t = cc
    by (Some w) f t h = cc

-- what is owed where the connection is there and isn't behind
pub owed-all : (start : Start) (past : List Entry) (conn : ℕ)
    → is_there (now_of start past).connections conn ≡ true
    → (account start past conn).fell ≡ None
    → owed start past conn
    ≡ keys_owed (account start past conn) conn (wish_of start past conn)
    (since_for start past conn) (all_lives start past)
owed-all start past conn there none =
    ap (λ t. cond (t && is_none (account start past conn).fell) ks []) there
    ∙ ap (λ f. cond (is_none f) ks []) none
  where
    ks : List Key
    ks = keys_owed (account start past conn) conn (wish_of start past conn)
        (since_for start past conn) (all_lives start past)

-- and where it is behind
pub owed-none : (start : Start) (past : List Entry) (conn w : ℕ) → (account start past conn).fell ≡ Some w
    → owed start past conn ≡ []
owed-none start past conn w fell =
    ap (λ f. cond (there && is_none f) ks []) fell ∙ by there
  where
    there : Bool
    there = is_there (now_of start past).connections conn

    ks : List Key
    ks = keys_owed (account start past conn) conn (wish_of start past conn)
        (since_for start past conn) (all_lives start past)

    by : (t : Bool) → cond (t && false) ks [] ≡ []
    by true = refl
    by false = refl

pub open-there : (cs : List Connection) (worker conn : ℕ) → is_open_for cs worker conn ≡ true
    → is_there cs conn ≡ true
open-there [] worker conn e = cc
open-there (c ∷ cs) worker conn e =
    by (is_conn conn c) (c.worker == worker) (λ k. open-there cs worker conn k) e
  where
    by : (b d : Bool) → (is_open_for cs worker conn ≡ true → is_there cs conn ≡ true)
        → (b && d || is_open_for cs worker conn) ≡ true → (b || is_there cs conn) ≡ true
    by true d more e = refl
    by false d more e = more e

-- ---- a drain of the connection itself

-- the entry of a drain
abbrev pub drain_of : ℕ → ℕ → ℕ → Batch → Entry
drain_of worker conn moment batch =
    record { worker = worker; conn = conn; now = moment; deed = Drained batch }

pub is-quiet : (start : Start) (past : List Entry) (worker conn moment : ℕ) (batch : Batch)
    → IsQuiet start past (drain_of worker conn moment batch)
is-quiet start past worker conn moment batch = record { lives_stay = refl; connections_stay = refl }

-- the keys that are handed are taken from the marks
pub drained-marks : (start : Start) (past : List Entry) (worker conn moment budget : ℕ) (batch : Batch)
    → IsNumbered start past
    → is_open_for (now_of start past).connections worker conn ≡ true → (account start past conn).fell ≡ None
    → take (length batch.texts + length batch.values) (owed start past conn)
    ≡ take budget (owed start past conn)
    → handed_all (take budget (keys (marks_owed start past conn))) (marks_owed start past conn)
    ≡ marks_owed start (drain_of worker conn moment batch ∷ past) conn
drained-marks start past worker conn moment budget batch n open_for none same =
    ap (λ qs. handed_all (take budget qs) (marks_owed start past conn)) (marks-keys start past conn n)
    ∙ ap (λ qs. handed_all qs (marks_owed start past conn)) (take-map unplaced budget ks)
    ∙ sym (marks-handed a (take budget ks) conn wish since lives
    (fits-prefix a conn wish since lives budget (all-found start past n)
    (all-ordinary start past (wish_for start past conn) n)))
    ∙ ap (λ qs. marks_by (with_given a qs) conn wish since lives) (sym given)
    ∙ sym (quiet-marks start past (drain_of worker conn moment batch) conn
    (is-quiet start past worker conn moment batch)
    (account start (drain_of worker conn moment batch ∷ past) conn)
    ∙ ap (λ (b : Bool). marks_by (record a { given = handed_by b }) conn wish since lives) own)
  where
    a : Account
    a = account start past conn

    wish : Life → Wanted
    wish = wish_on (wish_for start past conn)

    since : Life → ℕ
    since = since_for start past conn

    lives : List Life
    lives = all_lives start past

    ks : List Key
    ks = keys_owed a conn wish since lives

    handed_by : Bool → List Key
    handed_by b = given_after (Drained batch) b a.given (owed start past conn)

    own : ((conn == conn) && is_open_for (now_of start past).connections worker conn) ≡ true
    own =
        let itself : (conn == conn) ≡ true = grind (arith, nat_tests) in
        ap
        (λ b. b && is_open_for (now_of start past).connections worker conn) itself ∙ open_for

    given : take (length batch.texts + length batch.values) (owed start past conn) ≡ take budget ks
    given = same
        ∙ ap (take budget)
        (owed-all start past conn (open-there (now_of start past).connections worker conn open_for) none)

-- how many messages a batch has
abbrev pub length_of : Batch → ℕ
length_of batch = length batch.texts + length batch.values

-- the messages of a prefix name this prefix
pub take-messages : (lives : List Life) (moment conn budget : ℕ) (ks : List Key)
    → take (length_of (messages lives moment conn (take budget ks))) ks ≡ take budget ks
take-messages lives moment conn budget ks =
    ap (λ n. take n ks) (length-messages lives moment conn (take budget ks)) ∙ prefix budget ks
  where
    prefix : (n : ℕ) (ks : List Key) → take (length (take n ks)) ks ≡ take n ks
    prefix zero ks = refl
    prefix (suc n) [] = refl
    prefix (suc n) (k ∷ ks) = ap (λ rest. k ∷ rest) (prefix n ks)

-- the outbox of the connection that drains, where what is handed is a prefix of what is owed
pub owes-drained : (start : Start) (past : List Entry) (worker conn moment budget : ℕ) (batch : Batch)
    (b : OutboxState)
    → IsNumbered start past → is_open_for (now_of start past).connections worker conn ≡ true
    → (behind b ≡ None → take (length batch.texts + length batch.values) (owed start past conn)
    ≡ take budget (owed start past conn))
    → Owes start past conn b
    → Owes start (drain_of worker conn moment batch ∷ past) conn (drained_by budget b)
owes-drained start past worker conn moment budget batch b n open_for same owes = by (behind b) refl
  where
    e : Entry
    e = drain_of worker conn moment batch

    m : List Mark
    m = marks_owed start past conn

    there : is_there (now_of start past).connections conn ≡ true
    there = open-there (now_of start past).connections worker conn open_for

    n' : IsNumbered start (e ∷ past)
    n' = quiet-numbered start past e (is-quiet start past worker conn moment batch) n

    unfallen : (f : Option ℕ) → fallen f (weight b.marks) ≡ None → f ≡ None
    unfallen None h = refl
    unfallen (Some w) h = cc

    drains : behind b ≡ None → Owes start (e ∷ past) conn (drained budget b)
    drains none =
        let fell : (account start past conn).fell ≡ None = sym owes.behind_is ∙ none in
        let held : b.marks ≡ m =
        ap (λ o. unless_behind o b.marks) (sym none) ∙ owes.marks_are ∙ ap (λ o. unless_behind o m) none in
        let marks : (drained budget b).marks ≡ marks_owed start (e ∷ past) conn =
        ap (λ o. handed_all (take budget (keys (unless_behind o b.marks))) b.marks) none
        ∙ ap (λ ms. handed_all (take budget (keys ms)) ms) held
        ∙ drained-marks start past worker conn moment budget batch n open_for fell (same none)
        in
        let late = owes.not_later in
        record {
          is_well = owes.is_well;
          not_later = omega arith;
          behind_is = ap (λ f. fallen f (weight (drained budget b).marks)) (unfallen b.fell none)
              ∙ ap (λ ms. fallen None (weight ms)) marks
              ∙ sym (fell-now start past e conn n' there fell);
          marks_are = ap (λ ms. unless_behind (behind (drained budget b)) ms) marks;
        }

    -- nothing is handed to one that is behind
    nothing : (own : Bool) (ks : List Key) → ks ≡ []
        → given_after (Drained batch) own (account start past conn).given ks ≡ (account start past conn).given
    nothing true ks h =
        ap (λ qs. (account start past conn).given ++ take (length batch.texts + length batch.values) qs) h
        ∙ empty (length batch.texts + length batch.values)
      where
        empty : (j : ℕ)
            → (account start past conn).given ++ take {A = Key} j [] ≡ (account start past conn).given
        empty zero = append-nil (account start past conn).given
        empty (suc j) = append-nil (account start past conn).given
    nothing false ks h = refl

    by : (o : Option ℕ) → behind b ≡ o → Owes start (e ∷ past) conn (drained_by budget b)
    by (Some w) fell =
        rw fell
        (owes-still start past e conn b n' there (is-quiet start past worker conn moment batch)
        (nothing ((conn == conn) && is_open_for (now_of start past).connections worker conn)
        (owed start past conn) (owed-none start past conn w (sym owes.behind_is ∙ fell)))
        refl owes)
    by None none = rw none (drains none)
