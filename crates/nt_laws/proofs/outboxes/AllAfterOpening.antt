-- What all outboxes hold after a connection opens or closes, and after acts that tell them nothing.
use Rattle.std.proofs.Common.{◌≡◌, ◌≤◌, ◌+◌, ◌++◌, ℕ, Bool, true, false, cond, leb, List, [], ◌∷◌, map, filter, max, not}
use Rattle.std.proofs.Common.{length, refl, sym, ◌∙◌, ap, subst, arith}
use Rattle.std.specs.List.{AllByRecursion}
use Rattle.nt_topics.specs.declared.version.Version.{Version}
use Rattle.nt_subs.specs.Wishes.{wanted}
use Rattle.nt_rules.specs.Limits.{last_connection}
use Rattle.nt_rules.specs.declared.topic.Cause.TheVariants.{ConnsSpent}
use Rattle.nt_rules.specs.topics.Topics.{dropped}
use Rattle.nt_rules.specs.topics.Changes.{drop_changes}
use Rattle.nt_rules.specs.outbox.Calls.{nothing_owed}
use Rattle.nt_rules.specs.declared.act.Act.{Act}
use Rattle.nt_rules.specs.declared.act.Act.TheVariants as act
use Rattle.nt_rules.specs.declared.act.Deed.TheVariants.{Closed}
use Rattle.nt_rules.specs.declared.act.StepOut.TheVariants as out
use Rattle.nt_rules.specs.declared.act.Entry.{Entry}
use Rattle.nt_rules.specs.history.State.{Open}
use Rattle.nt_rules.specs.history.Lives.{topics, closed_for}
use Rattle.nt_rules.specs.declared.start.Start.{Start}
use Rattle.nt_rules.specs.history.Now.{Now, open_ones, is_there, is_open_for, subs_of, closed, after, now_of}
use Rattle.nt_rules.specs.history.Metas.{metas_now}
use Rattle.nt_rules.specs.history.Answer.{entry, Legal, moment_of, may_permit, given_name, names_of, permit_deed}
use Rattle.nt_rules.specs.history.State.{State, differences, open_metas, refreshed, cached_in, changes_noted}
use Rattle.nt_rules.specs.history.State.{is_number, serves, given_names, may_grant, opened_by, closed_by, acted}
use Rattle.nt_rules.specs.history.Step.{plain, plain_of, Owes, AllOwe}
use Rattle.nt_laws.proofs.histories.Facts.{place-is, IsNumberedConnections}
use Rattle.nt_laws.proofs.topics.ItemFacts.{each-more}
use Rattle.nt_laws.proofs.metas.AllLives.{IsFitStart, IsNumbered}
use Rattle.nt_laws.proofs.histories.CoreLaws.{IsKeptOf, IsNoDrain, orderly, topics-are, place-kept, opened-is, open-is}
use Rattle.nt_laws.proofs.histories.CoreLaws.{kept-acted, reply-answer}
use Rattle.nt_laws.proofs.histories.ConnectionLaws.{plain-refreshed, plain-told}
use Rattle.nt_laws.proofs.histories.Lawful.{answered, legal-answered}
use Rattle.nt_laws.proofs.metas.Rosters.{metas-kept}
use Rattle.nt_laws.proofs.outboxes.OutboxCalls.{Op, called_all, change_ops, noted-calls, difference_op}
use Rattle.nt_laws.proofs.metas.MetaOrder.{is-numbered}
use Rattle.nt_laws.proofs.marks.WishChanges.{is_rewanting, subs-deed}
use Rattle.nt_laws.proofs.histories.Newcomer.{newcomer-owes}
use Rattle.nt_laws.proofs.outboxes.UnchangedPresent.{IsIdle, owes-idle}
use Rattle.nt_laws.proofs.marks.ClientMarks.{HandsNothing}
use Rattle.nt_laws.proofs.outboxes.OpenConnections.{IsOpenIn, opens-in, owe-append, owe-filter}
use Rattle.nt_laws.proofs.outboxes.OtherOutboxes.{owes-metas, owes-closed}
use Rattle.nt_laws.proofs.outboxes.RefreshedOutboxes.{with_calls, metas-kept-by, refreshed-owe}

-- ---- open before and after

-- the connection has these subscriptions before an entry and after it, and is open after it
record IsReady (n after : Now) (o : Open) : Type 0 where
  had : subs_of n.connections o.conn ≡ o.subs
  has : subs_of after.connections o.conn ≡ o.subs
  there : is_there after.connections o.conn ≡ true

-- those that are kept, after an entry that leaves wishes as they were
all-ready : (n : Now) (e : Entry) (opens : List Open) → is_rewanting e.deed ≡ false
    → map plain opens ≡ map plain_of (open_ones (after n e).connections)
    → IsNumberedConnections 1 (after n e).connections → AllByRecursion (IsReady n (after n e)) opens
all-ready n e opens still same numbered =
    each-more (IsOpenIn (after n e).connections) (IsReady n (after n e))
    (λ o h. record {
      had = sym (subs-deed n e.worker e.conn o.conn e.deed still h.there) ∙ h.subs_are;
      has = h.subs_are;
      there = h.there;
    })
    opens (opens-in opens (after n e).connections same numbered)

-- ---- acts that tell outboxes nothing

all-idle : (start : Start) (past : List Entry) (e : Entry) (opens : List Open) → IsNumbered start (e ∷ past)
    → IsIdle (now_of start past) e.worker e.conn e.deed
    → AllByRecursion (IsOpenIn (now_of start (e ∷ past)).connections) opens → AllOwe start past opens
    → AllOwe start (e ∷ past) opens
all-idle start past e [] numbered idle h owe = tt
all-idle start past e (o ∷ opens) numbered idle h owe = (
  owes-idle start past e o.conn o.outbox numbered h.0.there idle owe.0,
  all-idle start past e opens
      numbered idle h.1 owe.1,
)

map-itself : {X : Type 0} (xs : List X) → map (λ x. x) xs ≡ xs
map-itself [] = refl
map-itself (x ∷ xs) = ap (λ ys. x ∷ ys) (map-itself xs)

-- ---- one act

module _ (start : Start) (past : List Entry) (s : State) (worker now : ℕ) (fit : IsFitStart start)
    (legal : Legal start past)
    (kept : IsKeptOf s (now_of start past)) (owe : AllOwe start past s.opens) where
  abbrev n : Now
  n = now_of start past

  abbrev moment : ℕ
  moment = moment_of n now

  before : IsNumbered start past
  before = is-numbered start past fit.few legal

  place_is : s.place + 1 ≡ length past + 1
  place_is = ap (λ p. p + 1) (place-kept s n kept ∙ place-is start past)

  within : (e : Entry) → s.place + 1 ≤ length (e ∷ past)
  within e = let same = place_is in omega arith

  -- what is kept after the act is what the history with its entry says
  kept-next : (a : Act) → IsNoDrain a
      → IsKeptOf (acted s worker now a) (now_of start (answered start past worker now a ∷ past))
  kept-next a hands =
      subst (λ o. IsKeptOf (acted s worker now a) (after n (entry worker moment a o)))
      (reply-answer s start past worker now a hands kept)
      (kept-acted s n worker now a (orderly start past fit.few fit.distinct legal) kept)

  -- an entry that is idle
  idle-owe : (e : Entry) → Legal start (e ∷ past) → IsIdle n e.worker e.conn e.deed
      → map plain s.opens ≡ map plain_of (open_ones (now_of start (e ∷ past)).connections)
      → AllOwe start (e ∷ past) s.opens
  idle-owe e lawful idle same =
      let later = is-numbered start (e ∷ past) fit.few lawful in
      all-idle start past e s.opens later idle
      (opens-in s.opens (now_of start (e ∷ past)).connections same later.connections_numbered) owe

  pub owes-permit : AllOwe start (answered start past worker now act.Permit ∷ past)
      (acted s worker now act.Permit).opens
  owes-permit =
      subst (λ os. AllOwe start (answered start past worker now act.Permit ∷ past) os)
      (sym (stays (may_grant s)))
      (idle-owe (answered start past worker now act.Permit)
      (legal-answered start past worker now act.Permit tt legal)
      (idle (may_permit n))
      (sym (ap (map plain) (stays (may_grant s))) ∙ (kept-next act.Permit tt).opens_are))
    where
      stays : (b : Bool) → (cond b (record s { granted = s.granted + 1 }) s).opens ≡ s.opens
      stays true = refl
      stays false = refl

      idle : (b : Bool) → IsIdle (now_of start past) worker 0
          (permit_deed (cond b out.Permitted out.NoPermit))
      idle true = tt
      idle false = tt

  pub owes-shut : AllOwe start (answered start past worker now act.Shut ∷ past)
      (acted s worker now act.Shut).opens
  owes-shut =
      idle-owe (answered start past worker now act.Shut)
      (legal-answered start past worker now act.Shut tt legal) tt
      (kept-next act.Shut tt).opens_are

  -- ---- a connection opens

  -- the one that opens, and all
  abbrev new_open : List ℕ → Open
  new_open name =
      record {
        conn = s.opened + 1;
        worker = worker;
        name = given_name (given_names s.opens) name;
        subs =
            [];
        outbox = nothing_owed;
      }

  abbrev opens_then : List ℕ → List Open
  opens_then name = s.opens ++ new_open name ∷ []

  -- all that are told what is different of the meta topics, after an entry at which lives and wishes stay
  open-owe : (e : Entry) → Legal start (e ∷ past) → HandsNothing e.deed → is_rewanting e.deed ≡ false
      → (now_of start (e ∷ past)).lives ≡ (now_of start past).lives → (opens : List Open)
      → map plain opens ≡ map plain_of (open_ones (now_of start (e ∷ past)).connections)
      → AllOwe start past opens
      → AllOwe start (e ∷ past) (refreshed (s.place + 1) (open_metas s.opens s.topics) s.topics opens)
  open-owe e lawful hands still lives opens same owes =
      subst (λ os. AllOwe start (e ∷ past)
      (refreshed (s.place + 1) (open_metas s.opens s.topics) s.topics os)) (map-itself opens)
      (refreshed-owe start past (e ∷ past) (s.place + 1) (within e) (open_metas s.opens s.topics) s.topics (λ o. o)
      (λ o. []) (λ o. refl)
      (differences (metas_now n) (metas_now n')) opens differ (IsReady n n') each
      (all-ready n e opens still same later.connections_numbered) owes)
    where
      n' : Now
      n' = now_of start (e ∷ past)

      later : IsNumbered start (e ∷ past)
      later = is-numbered start (e ∷ past) fit.few lawful

      differ : differences (open_metas s.opens s.topics) (open_metas (map (λ o. o) opens) s.topics)
          ≡ differences (metas_now (now_of start past)) (metas_now (now_of start (e ∷ past)))
      differ =
          ap (λ ms. differences ms (open_metas (map (λ o. o) opens) s.topics))
          (metas-kept s (now_of start past) kept.core_is kept.opens_are)
          ∙ ap (λ ms. differences (metas_now (now_of start past)) ms)
          (metas-kept-by (map (λ o. o) opens) s.topics (now_of start (e ∷ past))
          (ap (map plain) (map-itself opens) ∙ same)
          (topics-are s (now_of start past) kept ∙ ap topics (sym lives)))

      each : (o : Open) → IsReady (now_of start past) (now_of start (e ∷ past)) o
          → Owes start past o.conn o.outbox
          → Owes start (e ∷ past) o.conn
          (called_all (s.place + 1)
          ([] ++ map (difference_op (s.place + 1) (wanted o.subs))
          (differences (metas_now (now_of start past)) (metas_now (now_of start (e ∷ past)))))
          o.outbox)
      each o ready owes =
          subst (λ p. Owes start (e ∷ past) o.conn
          (called_all p (map (difference_op p (wanted o.subs))
          (differences (metas_now (now_of start past)) (metas_now (now_of start (e ∷ past)))))
          o.outbox))
          (sym place_is)
          (owes-metas start past e o.conn legal before later hands o.subs ready.had ready.has ready.there
          lives o.outbox owes)

  pub owes-open : (name : List ℕ) (version : Version)
      → AllOwe start (answered start past worker now (act.Open name version) ∷ past)
      (acted s worker now (act.Open name version)).opens
  owes-open name version =
      by (leb last_connection s.opened) (leb last_connection (length n.connections))
      (ap (λ k. leb last_connection k) (opened-is s n kept))
      (legal-answered start past worker now (act.Open name version) tt legal)
      (kept-next (act.Open name version) tt).opens_are
    where
      entered : Bool → Entry
      entered spent =
          entry worker (moment_of (now_of start past) now) (act.Open name version)
          (cond spent (out.Ignored ConnsSpent)
          (out.Opened (length (now_of start past).connections + 1)
          (given_name (names_of (open_ones (now_of start past).connections)) name)))

      opened_then : Bool → State
      opened_then spent = cond spent s (opened_by s (s.place + 1) worker name)

      by : (b c : Bool) → b ≡ c → Legal start (entered c ∷ past)
          → map plain (opened_then b).opens
          ≡ map plain_of (open_ones (now_of start (entered c ∷ past)).connections)
          → AllOwe start (entered c ∷ past) (opened_then b).opens
      by true true e lawful same = idle-owe (entered true) lawful tt same
      by false false e lawful same =
          open-owe (entered false) lawful tt refl refl (opens_then name)
          (sym (plain-refreshed (s.place + 1) (open_metas s.opens s.topics) s.topics (opens_then name))
          ∙ same)
          (owe-append start past s.opens (new_open name ∷ []) owe (
            newcomer-owes start past (s.opened + 1) legal before (let count = opened-is s n kept
                in omega arith),
            tt,
          ))
      by true false e lawful same = absurd (cc)
      by false true e lawful same = absurd (cc)

  -- ---- a connection closes

  -- the others, and what they are told of topics
  abbrev others : ℕ → List Open
  others conn = filter (λ o. not (is_number conn o)) s.opens

  abbrev told_ended : ℕ → Open → Open
  told_ended conn = changes_noted (s.place + 1) (dropped s.topics conn) (drop_changes s.topics conn)

  abbrev ended_ops : ℕ → ℕ → Open → List Op
  ended_ops conn place o =
      change_ops place (cached_in (dropped s.topics conn)) (wanted o.subs) (drop_changes s.topics conn)

  abbrev closing : ℕ → Entry
  closing conn = record { worker = worker; conn = conn; now = moment; deed = Closed }

  close-owe : (conn : ℕ) → Legal start (closing conn ∷ past) → is_open_for n.connections worker conn ≡ true
      → IsKeptOf (record (closed_by s (s.place + 1) conn) { place = s.place + 1; moment = max s.moment now })
      (now_of start (closing conn ∷ past))
      → AllOwe start (closing conn ∷ past) (closed_by s (s.place + 1) conn).opens
  close-owe conn lawful there later_kept =
      refreshed-owe start past (closing conn ∷ past) (s.place + 1) (within (closing conn))
      (open_metas s.opens s.topics) (dropped s.topics conn) (told_ended conn)
      (ended_ops conn (s.place + 1)) does
      (differences (metas_now n) (metas_now n')) (others conn) differ
      (IsReady n n') each (all-ready n (closing conn) (others conn) refl same_others
      later.connections_numbered)
      (owe-filter start past (λ o. not (is_number conn o)) s.opens owe)
    where
      n' : Now
      n' = now_of start (closing conn ∷ past)

      later : IsNumbered start (closing conn ∷ past)
      later = is-numbered start (closing conn ∷ past) fit.few lawful

      does : (o : Open) → told_ended conn o ≡ with_calls (s.place + 1) (ended_ops conn (s.place + 1)) o
      does o = ap (λ b. record o { outbox = b })
          (noted-calls (s.place + 1) (dropped s.topics conn) (wanted o.subs) (drop_changes s.topics conn) o.outbox)

      same_told : map plain (map (told_ended conn) (others conn))
          ≡ map plain_of (open_ones (now_of start (closing conn ∷ past)).connections)
      same_told =
          sym (plain-refreshed (s.place + 1) (open_metas s.opens s.topics) (dropped s.topics conn)
          (map (told_ended conn) (others conn)))
          ∙ later_kept.opens_are

      same_others : map plain (others conn)
          ≡ map plain_of (open_ones (now_of start (closing conn ∷ past)).connections)
      same_others =
          sym (plain-told (s.place + 1) (dropped s.topics conn) (drop_changes s.topics conn) (others conn))
          ∙ same_told

      differ : differences (open_metas s.opens s.topics)
          (open_metas (map (told_ended conn) (others conn)) (dropped s.topics conn))
          ≡ differences (metas_now (now_of start past)) (metas_now (now_of start (closing conn ∷ past)))
      differ =
          ap (λ ms. differences ms (open_metas (map (told_ended conn) (others conn)) (dropped s.topics conn)))
          (metas-kept s (now_of start past) kept.core_is kept.opens_are)
          ∙ ap (λ ms. differences (metas_now (now_of start past)) ms)
          (metas-kept-by (map (told_ended conn) (others conn))
          (dropped s.topics conn) (now_of start (closing conn ∷ past)) same_told
          (topics-are (record (closed_by s (s.place + 1) conn)
          { place = s.place + 1; moment = max s.moment now }) (now_of start (closing conn ∷ past))
          later_kept))

      lives : (now_of start (closing conn ∷ past)).lives
          ≡ map (closed_for (length past + 1) conn) (now_of start past).lives
      lives =
          ap (λ b. (cond b (record n {
            connections = closed (n.place + 1) conn n.connections;
            lives =
                map (closed_for (n.place + 1) conn) n.lives;
          }) n).lives) there
          ∙ ap (λ p. map (closed_for (p + 1) conn) (now_of start past).lives) (place-is start past)

      each : (o : Open) → IsReady (now_of start past) (now_of start (closing conn ∷ past)) o
          → Owes start past o.conn o.outbox
          → Owes start (closing conn ∷ past) o.conn
          (called_all (s.place + 1) (ended_ops conn (s.place + 1) o
          ++ map (difference_op (s.place + 1) (wanted o.subs))
          (differences (metas_now (now_of start past))
          (metas_now (now_of start (closing conn ∷ past))))) o.outbox)
      each o ready owes =
          subst (λ p. Owes start (closing conn ∷ past) o.conn
          (called_all p (ended_ops conn p o
          ++ map (difference_op p (wanted o.subs))
          (differences (metas_now (now_of start past))
          (metas_now (now_of start (closing conn ∷ past))))) o.outbox))
          (sym place_is)
          (subst (λ ts. Owes start (closing conn ∷ past) o.conn
          (called_all (length past + 1)
          (change_ops (length past + 1) (cached_in (dropped s.topics conn)) (wanted o.subs) (drop_changes ts conn)
          ++ map (difference_op (length past + 1) (wanted o.subs))
          (differences (metas_now (now_of start past))
          (metas_now (now_of start (closing conn ∷ past))))) o.outbox))
          (sym (topics-are s (now_of start past) kept))
          (owes-closed start past (closing conn) o.conn legal before later tt o.subs ready.had ready.has
          ready.there conn (cached_in (dropped s.topics conn)) lives o.outbox owes))

  pub owes-close : (conn : ℕ)
      → AllOwe start (answered start past worker now (act.Close conn) ∷ past)
      (acted s worker now (act.Close conn)).opens
  owes-close conn =
      by (serves s.opens worker conn) (is_open_for n.connections worker conn) refl
      (open-is s n kept worker conn) (kept-next (act.Close conn) tt)
    where
      lawful : Legal start (closing conn ∷ past)
      lawful = legal-answered start past worker now (act.Close conn) tt legal

      after_close : Bool → State
      after_close b = record (cond b (closed_by s (s.place + 1) conn) s)
          { place = s.place + 1; moment = max s.moment now }

      by : (b c : Bool) → is_open_for (now_of start past).connections worker conn ≡ c → b ≡ c
          → IsKeptOf (after_close b) (now_of start (closing conn ∷ past))
          → AllOwe start (closing conn ∷ past) (after_close b).opens
      by true true there e later_kept = close-owe conn lawful there later_kept
      by false false there e later_kept = idle-owe (closing conn) lawful there later_kept.opens_are
      by true false there e later_kept = absurd (cc)
      by false true there e later_kept = absurd (cc)
