-- The open connections that a server keeps are open in the history, and each outbox goes its own way.
use Rattle.std.proofs.Common.{◌≡◌, ◌<◌, ◌≤◌, ◌+◌, ◌==◌, ◌&&◌, ◌||◌, ◌⊎◌, inl, inr, ℕ, suc, Bool, true, false, cond}
use Rattle.std.proofs.Common.{List, [], ◌∷◌, ◌++◌, Option, None, map, filter, length, refl, sym, ◌∙◌, ap, subst}
use Rattle.std.proofs.Common.{arith}
use Rattle.std.specs.List.{AllByRecursion}
use Rattle.std.proofs.lemmas.Bool.{cases_lt}
use Rattle.std.proofs.lemmas.Bool.Decides.{nat_tests}
use Rattle.nt_rules.specs.Limits.{first_meta}
use Rattle.nt_rules.specs.outbox.Marks.{Mark}
use Rattle.nt_rules.specs.outbox.Calls.{OutboxState}
use Rattle.nt_rules.specs.declared.act.Entry.{Entry}
use Rattle.nt_rules.specs.history.State.{Open}
use Rattle.nt_rules.specs.declared.start.Start.{Start}
use Rattle.nt_rules.specs.history.Now.{Connection, is_open, is_conn, is_there, open_ones, subs_of, now_of}
use Rattle.nt_rules.specs.history.Owed.{account, wish_for, wish_on, since_for}
use Rattle.nt_rules.specs.history.Metas.{all_lives}
use Rattle.nt_rules.specs.history.Marks.{marks_owed}
use Rattle.nt_rules.specs.history.Step.{Plain, plain, plain_of, Owes, AllOwe}
use Rattle.nt_laws.proofs.histories.Facts.{IsNumberedConnections}
use Rattle.nt_laws.proofs.topics.ItemFacts.{each-more}
use Rattle.nt_laws.proofs.metas.AllLives.{IsNumbered}
use Rattle.nt_laws.proofs.outboxes.OutboxKeys.{marks-weight}
use Rattle.nt_laws.proofs.metas.MetaOrder.{lives-rise}
use Rattle.nt_laws.proofs.marks.MarksById.{look, IsRising, rising-marks_by}
use Rattle.nt_laws.proofs.outboxes.OutboxCalls.{Op, run_at, run_at-append, none-at, called_all, KeepIds, keep-append}
use Rattle.nt_laws.proofs.outboxes.OutboxCalls.{marks-run, owes-where}
use Rattle.nt_laws.proofs.marks.ClientMarksById.{client_at}
use Rattle.nt_laws.proofs.marks.ClientMarks.{since_by, client-look}
use Rattle.nt_laws.proofs.marks.ClientIds.{AreClient, none-client}

-- ---- open in the history

-- the connection is open, with these subscriptions
pub record IsOpenIn (cs : List Connection) (o : Open) : Type 0 where
  pub there : is_there cs o.conn ≡ true
  pub subs_are : subs_of cs o.conn ≡ o.subs

record InFrom (k : ℕ) (cs : List Connection) (p : Plain) : Type 0 where
  from : k ≤ p.number
  there : is_there cs p.number ≡ true
  subs_are : subs_of cs p.number ≡ p.subs

-- another one before it
in-later : (k : ℕ) (c : Connection) (cs : List Connection) → c.number ≡ k → (p : Plain)
    → InFrom (suc k) cs p → InFrom k (c ∷ cs) p
in-later k c cs e p h =
    let low = h.from in
    let other : is_conn p.number c ≡ false = by (is_open c) in
    record {
      from = omega arith;
      there = ap (λ b. b || is_there cs p.number) other ∙ h.there;
      subs_are = ap (λ b. cond b c.subs (subs_of cs p.number)) other ∙ h.subs_are;
    }
  where
    by : (b : Bool) → (b && (c.number == p.number)) ≡ false
    by true = let low = h.from in grind (arith, nat_tests)
    by false = refl

in-from : (k : ℕ) (cs : List Connection) → IsNumberedConnections k cs
    → AllByRecursion (InFrom k cs) (map plain_of (open_ones cs))
in-from k [] h = tt
in-from k (c ∷ cs) h =
    by (is_open c) refl
    (each-more (InFrom (suc k) cs) (InFrom k (c ∷ cs)) (in-later k c cs h.0)
    (map plain_of (open_ones cs)) (in-from (suc k) cs h.1))
  where
    by : (b : Bool) → is_open c ≡ b → AllByRecursion (InFrom k (c ∷ cs)) (map plain_of (open_ones cs))
        → AllByRecursion (InFrom k (c ∷ cs)) (map plain_of (cond b (c ∷ open_ones cs) (open_ones cs)))
    by false e more = more
    by true e more =
        let number = h.0 in
        let same : (c.number == c.number) ≡ true = grind (arith, nat_tests) in
        let here : is_conn c.number c ≡ true = ap (λ b. b && (c.number == c.number)) e ∙ same in (
          record {
            from = omega arith;
            there = ap (λ b. b || is_there cs c.number) here;
            subs_are = ap (λ b. cond b c.subs (subs_of cs c.number)) here;
          },
          more,
        )

-- those that are kept are open
pub opens-in : (opens : List Open) (cs : List Connection) → map plain opens ≡ map plain_of (open_ones cs)
    → IsNumberedConnections 1 cs
    → AllByRecursion (IsOpenIn cs) opens
opens-in opens cs same numbered =
    each opens (subst (λ ps. AllByRecursion (InFrom 1 cs) ps) (sym same) (in-from 1 cs numbered))
  where
    each : (opens : List Open) → AllByRecursion (InFrom 1 cs) (map plain opens)
        → AllByRecursion (IsOpenIn cs) opens
    each [] h = tt
    each (o ∷ opens) h = (record { there = h.0.there; subs_are = h.0.subs_are }, each opens h.1)

-- ---- all outboxes

-- each outbox changes by itself
pub all-owe : (start : Start) (past after : List Entry) (P : Open → Type 0) (g : Open → Open)
    → ((o : Open) → P o → Owes start past o.conn o.outbox → Owes start after (g o).conn (g o).outbox)
    → (opens : List Open) → AllByRecursion P opens → AllOwe start past opens
    → AllOwe start after (map g opens)
all-owe start past after P g each [] h owe = tt
all-owe start past after P g each (o ∷ opens) h owe =
    (each o h.0 owe.0, all-owe start past after P g each opens h.1 owe.1)

pub owe-append : (start : Start) (past : List Entry) (xs ys : List Open) → AllOwe start past xs
    → AllOwe start past ys → AllOwe start past (xs ++ ys)
owe-append start past [] ys h k = k
owe-append start past (x ∷ xs) ys h k = (h.0, owe-append start past xs ys h.1 k)

pub owe-filter : (start : Start) (past : List Entry) (test : Open → Bool) (opens : List Open)
    → AllOwe start past opens
    → AllOwe start past (filter test opens)
owe-filter start past test [] h = tt
owe-filter start past test (o ∷ opens) h = by (test o) (owe-filter start past test opens h.1)
  where
    by : (b : Bool) → AllOwe start past (filter test opens)
        → AllOwe start past (cond b (o ∷ filter test opens) (filter test opens))
    by true more = (h.0, more)
    by false more = more

-- ---- one outbox

marks-rise : (start : Start) (past : List Entry) (conn : ℕ) → IsNumbered start past
    → IsRising (marks_owed start past conn)
marks-rise start past conn numbered =
    rising-marks_by (account start past conn) conn (wish_on (wish_for start past conn))
    (since_for start past conn)
    (all_lives start past) (lives-rise start past numbered)

-- an outbox that is told of client topics and of meta topics what leads from what was kept of each to what is
pub owes-told : (start : Start) (past : List Entry) (e : Entry) (conn : ℕ) (b : OutboxState) → IsNumbered start past
    → IsNumbered start (e ∷ past)
    → Owes start past conn b → is_there (now_of start (e ∷ past)).connections conn ≡ true
    → (ts ms : List Op) → KeepIds ts → KeepIds ms → AreClient ts
    → ((account start past conn).fell ≡ None → (k : ℕ) → k < first_meta
    → run_at k ts
    (client_at (account start past conn) conn (wish_for start past conn) (since_by start past conn) k
    (now_of start past).lives)
    ≡ client_at (account start (e ∷ past) conn) conn (wish_for start (e ∷ past) conn)
    (since_by start (e ∷ past) conn) k (now_of start (e ∷ past)).lives)
    → ((k : ℕ) → k < first_meta → (found : Option Mark) → run_at k ms found ≡ found)
    → ((k : ℕ) → first_meta ≤ k → run_at k ms (look k (marks_owed start past conn))
    ≡ look k (marks_owed start (e ∷ past) conn))
    → Owes start (e ∷ past) conn (called_all (length past + 1) (ts ++ ms) b)
owes-told start past e conn b before later owes there ts ms keep_ts keep_ms client clients below metas =
    owes-where start past e conn (ts ++ ms) b owes there
    (λ well. marks-run (ts ++ ms) (marks_owed start past conn) (marks_owed start (e ∷ past) conn)
    (keep-append ts ms keep_ts keep_ms)
    (marks-rise start past conn before) (marks-rise start (e ∷ past) conn later)
    (λ k. by well k (cases_lt k first_meta)))
    (marks-weight start (e ∷ past) conn later)
  where
    by : (account start past conn).fell ≡ None → (k : ℕ) → (k < first_meta) ⊎ (first_meta ≤ k)
        → run_at k (ts ++ ms) (look k (marks_owed start past conn))
        ≡ look k (marks_owed start (e ∷ past) conn)
    by well k (inl low) =
        run_at-append k ts ms (look k (marks_owed start past conn))
        ∙ below k low (run_at k ts (look k (marks_owed start past conn)))
        ∙ ap (λ found. run_at k ts found) (client-look start past conn before k low)
        ∙ clients well k low
        ∙ sym (client-look start (e ∷ past) conn later k low)
    by well k (inr high) =
        run_at-append k ts ms (look k (marks_owed start past conn))
        ∙ ap (λ found. run_at k ms found)
        (none-at k ts (look k (marks_owed start past conn)) (none-client k ts high client))
        ∙ metas k high
