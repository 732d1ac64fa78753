-- What a history keeps of client topics for a connection, before and after an entry that hands nothing.
use Rattle.std.proofs.Common.{◌≡◌, ◌<◌, ◌≤◌, ◌+◌, ◌==◌, ◌&&◌, ◌||◌, not, ℕ, suc, Bool, true, false, cond, List, []}
use Rattle.std.proofs.Common.{◌∷◌}
use Rattle.std.proofs.Common.{Option, Some, None, map, length, refl, sym, ◌∙◌, ap, subst, arith}
use Rattle.std.specs.Option.{option_or}
use Rattle.std.specs.List.{AllByRecursion, list_any}
use Rattle.std.proofs.lemmas.Bool.Decides.{nat_tests}
use Rattle.std.proofs.lemmas.Option.{none-some}
use Rattle.std.proofs.lemmas.List.Folds.{find-append}
use Rattle.nt_subs.specs.declared.wish.Wanted.{Wanted}
use Rattle.nt_rules.specs.Limits.{first_meta}
use Rattle.nt_rules.specs.outbox.Keys.{Key, sets}
use Rattle.nt_rules.specs.outbox.Marks.{is_valued, is_meta, meta_wish}
use Rattle.nt_rules.specs.declared.act.Deed.{Deed}
use Rattle.nt_rules.specs.declared.act.Deed.TheVariants.{Opened, NotOpened, Said, Drained, Closed, Permitted}
use Rattle.nt_rules.specs.declared.act.Deed.TheVariants.{NoPermit}
use Rattle.nt_rules.specs.declared.act.Deed.TheVariants.{Shut}
use Rattle.nt_rules.specs.declared.act.Entry.{Entry}
use Rattle.nt_rules.specs.history.Lives.{Life, is_living}
use Rattle.nt_rules.specs.history.Answer.{Legal}
use Rattle.nt_rules.specs.declared.start.Start.{Start}
use Rattle.nt_rules.specs.history.Now.{now_of, is_open_for}
use Rattle.nt_rules.specs.history.Metas.{meta_lives, all_lives}
use Rattle.nt_rules.specs.history.Owed.{Account, account, owed_by, given_after, settings_after, set_on, is_announced}
use Rattle.nt_rules.specs.history.Owed.{life_at, is_all, wish_for, wish_on, wanted_since, all_since, valued_since}
use Rattle.nt_rules.specs.history.Owed.{since_for}
use Rattle.nt_rules.specs.history.Marks.{mark_of, topic_mark, meta_mark, end_mark, marks_owed}
use Rattle.nt_laws.proofs.histories.Facts.{ArePlaced, place-is, lives-placed}
use Rattle.nt_laws.proofs.metas.AllLives.{IsNumbered, IsMetaLife, metas-are}
use Rattle.nt_laws.proofs.metas.MetaRows.{row_of_life}
use Rattle.nt_laws.proofs.metas.MetaGrowth.{has_row, rows_of}
use Rattle.nt_laws.proofs.metas.MetaOrder.{all-rows, lives-rise}
use Rattle.nt_laws.proofs.marks.GivenKeys.{IsPast, given-past, not-given, next-past, unknown-announced, unknown-next}
use Rattle.nt_laws.proofs.marks.MarksById.{look, keep_opt, kept_of, look-marks_by}
use Rattle.nt_laws.proofs.marks.MarkLaws.{counts, Agree, IsUnheard, is_told}
use Rattle.nt_laws.proofs.topics.FoundLives.{life-id}
use Rattle.nt_laws.proofs.marks.ClientMarksById.{since_of, client_mark, client_at, Scene, SameSince}

-- ---- what is found at the id of a client topic

no-meta : (k : ℕ) → k < first_meta → (start : Start) (past : List Entry) (lives : List Life)
    → AllByRecursion (IsMetaLife start past) lives
    → life_at k lives ≡ None
no-meta k low start past [] h = refl
no-meta k low start past (l ∷ lives) h =
    let meta = h.0.is_one in
    let other : (l.id == k) ≡ false = grind (arith, nat_tests) in
    ap (λ b. cond b (Some l) (life_at k lives)) other ∙ no-meta k low start past lives h.1

-- below the first meta topic there are client lives alone
pub client-life : (start : Start) (past : List Entry) (k : ℕ) → k < first_meta
    → life_at k (all_lives start past) ≡ life_at k (now_of start past).lives
client-life start past k low =
    find-append (λ l. l.id == k) (now_of start past).lives (meta_lives start past)
    ∙ ap (λ o. option_or (life_at k (now_of start past).lives) o)
    (no-meta k low start past (meta_lives start past) (metas-are start past))
    ∙ by (life_at k (now_of start past).lives)
  where
    by : (o : Option Life) → option_or o None ≡ o
    by None = refl
    by (Some l) = refl

-- the place of the wish that counts for a topic, by whether it is cached and by its name
abbrev pub since_by : Start → List Entry → ℕ → Bool → List ℕ → ℕ
since_by start past conn cached name =
    cond cached (all_since start past conn name) (valued_since start past conn name)

-- the mark of a client life
client-mark : (a : Account) (conn : ℕ) (wish : List ℕ → Wanted) (since : Bool → List ℕ → ℕ) (l : Life)
    → is_meta l.id ≡ false
    → mark_of a conn (wish_on wish) (since_of since) l ≡ client_mark a conn wish since l
client-mark a conn wish since l client =
    ap (λ b. cond (not (is_living l)) (end_mark a l)
    (cond b (meta_mark a (cond b (meta_wish (wish l.name)) (wish l.name)) l)
    (topic_mark a conn (cond b (meta_wish (wish l.name)) (wish l.name)) (since_of since l) l))) client
    ∙ by (is_living l)
  where
    by : (b : Bool) → cond (not b) (end_mark a l) (topic_mark a conn (wish l.name) (since_of since l) l)
        ≡ cond b (topic_mark a conn (wish l.name) (since_of since l) l) (end_mark a l)
    by true = refl
    by false = refl

pub client-look : (start : Start) (past : List Entry) (conn : ℕ) → IsNumbered start past → (k : ℕ)
    → k < first_meta
    → look k (marks_owed start past conn)
    ≡ client_at (account start past conn) conn (wish_for start past conn) (since_by start past conn) k
    (now_of start past).lives
client-look start past conn numbered k low =
    look-marks_by k a conn (wish_on (wish_for start past conn)) (since_for start past conn)
    (all_lives start past) (lives-rise start past numbered)
    ∙ ap (λ o. kept_of
    (mark_of a conn (wish_on (wish_for start past conn)) (since_for start past conn)) o)
    (client-life start past k low)
    ∙ by (life_at k (now_of start past).lives) refl
  where
    a : Account
    a = account start past conn

    by : (o : Option Life) → life_at k (now_of start past).lives ≡ o
        → kept_of
        (mark_of a conn (wish_on (wish_for start past conn)) (since_for start past conn)) o
        ≡ kept_of (client_mark a conn (wish_for start past conn) (since_by start past conn)) o
    by None e = refl
    by (Some l) e =
        let id = life-id k (now_of start past).lives l e in
        let client : is_meta l.id ≡ false = grind (arith, nat_tests) in
        ap keep_opt (client-mark a conn (wish_for start past conn) (since_by start past conn) l client)

-- ---- places of the past

-- changes of properties of which it is told stand at places of the past
pub told-low : (start : Start) (past : List Entry) (conn s : ℕ) → length past < s
    → is_told (account start past conn) s ≡ false
told-low start [] conn s less = refl
told-low start (e ∷ past) conn s less =
    by (told-low start past conn s (omega arith)) (set_on (now_of start past) e.worker e.conn e.deed)
  where
    before : Account
    before = account start past conn

    place : ℕ
    place = (now_of start past).place + 1

    told_by : is_told before s ≡ false → (b : Bool)
        → list_any (λ p. p == s) (cond b (place ∷ before.told_settings) before.told_settings) ≡ false
    told_by more true =
        let at = place-is start past in
        let other : (place == s) ≡ false = grind (arith, nat_tests) in
        ap (λ b. b || is_told before s) other ∙ more
    told_by more false = more

    by : is_told before s ≡ false → (o : Option ℕ)
        → list_any (λ p. p == s) (settings_after before (owed_by before start past conn) conn place e.conn o) ≡ false
    by more None = more
    by more (Some id) =
        told_by more
        ((e.conn == conn) || (is_announced before id || list_any (sets id) (owed_by before start past conn)))

-- the place since which a wish passes a test is of the past
wanted-low : (test : Wanted → Bool) (start : Start) (past : List Entry) (conn : ℕ) (name : List ℕ)
    → wanted_since test start past conn name ≤ length past
wanted-low test start [] conn name = omega arith
wanted-low test start (e ∷ past) conn name =
    by (test (wish_for start past conn name)) (wanted-low test start past conn name)
  where
    by : (b : Bool) → wanted_since test start past conn name ≤ length past
        → cond b (wanted_since test start past conn name) (length past + 1) ≤ suc (length past)
    by true le = omega arith
    by false le = omega arith

since-low : (start : Start) (past : List Entry) (conn : ℕ) (cached : Bool) (name : List ℕ)
    → since_by start past conn cached name ≤ length past
since-low start past conn true name = wanted-low is_all start past conn name
since-low start past conn false name = wanted-low is_valued start past conn name

-- ---- entries that hand nothing

abbrev pub HandsNothing : Deed → Type 0
HandsNothing (Opened name) = Unit {0}
HandsNothing NotOpened = Unit {0}
HandsNothing (Said m) = Unit {0}
HandsNothing (Drained batch) = ⊥
HandsNothing Closed = Unit {0}
HandsNothing Permitted = Unit {0}
HandsNothing NoPermit = Unit {0}
HandsNothing Shut = Unit {0}

pub given-stays : (d : Deed) → HandsNothing d → (own : Bool) (given owed : List Key)
    → given_after d own given owed ≡ given
given-stays (Opened name) h own given owed = refl
given-stays NotOpened h own given owed = refl
given-stays (Said m) h own given owed = refl
given-stays (Drained batch) h own given owed = absurd h
given-stays Closed h own given owed = refl
given-stays Permitted h own given owed = refl
given-stays NoPermit h own given owed = refl
given-stays Shut h own given owed = refl

accounts-agree : (start : Start) (past : List Entry) (e : Entry) (conn : ℕ) → HandsNothing e.deed
    → Agree (length past) (account start past conn) (account start (e ∷ past) conn)
accounts-agree start past e conn hands =
    record {
      given_are =
          given-stays e.deed hands
          ((e.conn == conn) && is_open_for (now_of start past).connections e.worker conn) before.given
          (owed_by before start past conn);
      told_are = λ s le. by s le (set_on (now_of start past) e.worker e.conn e.deed);
    }
  where
    before : Account
    before = account start past conn

    place : ℕ
    place = (now_of start past).place + 1

    told_by : (s : ℕ) → s ≤ length past → (b : Bool)
        → list_any (λ p. p == s) (cond b (place ∷ before.told_settings) before.told_settings) ≡ is_told before s
    told_by s le true =
        let at = place-is start past in
        let other : (place == s) ≡ false = grind (arith, nat_tests) in
        ap (λ b. b || is_told before s) other
    told_by s le false = refl

    by : (s : ℕ) → s ≤ length past → (o : Option ℕ)
        → list_any (λ p. p == s) (settings_after before (owed_by before start past conn) conn place e.conn o)
        ≡ is_told before s
    by s le None = refl
    by s le (Some id) =
        told_by s le
        ((e.conn == conn) || (is_announced before id || list_any (sets id) (owed_by before start past conn)))

-- an id that no life has is none of a row
no-row : (k : ℕ) (lives : List Life) → life_at k lives ≡ None → has_row k (map row_of_life lives) ≡ false
no-row k [] e = refl
no-row k (l ∷ lives) e = by (l.id == k) (λ h. no-row k lives h) e
  where
    by : (b : Bool) → (life_at k lives ≡ None → has_row k (map row_of_life lives) ≡ false)
        → cond b (Some l) (life_at k lives) ≡ None
        → (b || has_row k (map row_of_life lives)) ≡ false
    by true more e = absurd (none-some l (sym e))
    by false more e = more e

pub scene : (start : Start) (past : List Entry) (e : Entry) (conn : ℕ) → IsNumbered start past
    → Legal start past → HandsNothing e.deed
    → Scene (length past) (account start past conn) (account start (e ∷ past) conn)
    (since_by start past conn) (now_of start past).lives
scene start past e conn numbered legal hands =
    record {
      agree = accounts-agree start past e conn hands;
      numbered = numbered.lives_numbered;
      placed = subst (λ n. ArePlaced n (now_of start past).lives) (place-is start past)
          (lives-placed start past);
      not_given =
          λ k at. not-given (length past) (rows_of (now_of start past))
          (account start past conn).given k given (omega arith);
      next_low =
          λ id. next-past (length past) id (rows_of (now_of start past))
          (account start past conn).given given;
      since_low = since-low start past conn;
      unheard = unheard;
    }
  where
    given : AllByRecursion (IsPast (length past) (rows_of (now_of start past)))
        (account start past conn).given
    given = given-past start past conn legal

    unheard : (k : ℕ) → k < first_meta → life_at k (now_of start past).lives ≡ None
        → IsUnheard k (account start past conn)
    unheard k low none =
        let unknown : has_row k (rows_of (now_of start past)) ≡ false =
        ap (λ rows. has_row k rows) (sym (all-rows start past))
        ∙ no-row k (all_lives start past) (client-life start past k low ∙ none)
        in
        record {
          not_announced =
              unknown-announced (length past) k (rows_of (now_of start past))
              (account start past conn).given given unknown;
          no_value =
              unknown-next (length past) k (rows_of (now_of start past))
              (account start past conn).given given unknown;
        }

-- a wish counts further from its place, or from the next one on
pub since-after : (start : Start) (past : List Entry) (e : Entry) (conn : ℕ) (cached : Bool) (name : List ℕ)
    → since_by start (e ∷ past) conn cached name
    ≡ cond (counts cached (wish_for start past conn name)) (since_by start past conn cached name) (length past + 1)
since-after start past e conn true name = refl
since-after start past e conn false name = refl

pub same-since : (start : Start) (past : List Entry) (e : Entry) (conn : ℕ)
    → SameSince (wish_for start past conn) (since_by start past conn) (since_by start (e ∷ past) conn)
same-since start past e conn cached name still =
    since-after start past e conn cached name
    ∙ ap (λ b. cond b (since_by start past conn cached name) (length past + 1)) still
