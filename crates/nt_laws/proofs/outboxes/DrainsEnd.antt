-- A drain leaves fewer messages owed, so that after as many drains as messages were owed nothing is owed.
use Rattle.std.proofs.Common.{◌≡◌, ◌≢◌, ◌≤◌, ◌<◌, ◌-◌, ℕ, true, List, [], ◌∷◌, Option, Some, None, length, refl}
use Rattle.std.proofs.Common.{sym, ◌∙◌, ap, arith}
use Rattle.std.proofs.lemmas.List.{length-map}
use Rattle.nt_rules.specs.declared.batch.Batch.{Batch}
use Rattle.nt_rules.specs.declared.act.Act.TheVariants as act
use Rattle.nt_rules.specs.declared.act.Entry.{Entry}
use Rattle.nt_rules.specs.declared.start.Start.{Start}
use Rattle.nt_rules.specs.outbox.Keys.{Key}
use Rattle.nt_rules.specs.outbox.Marks.{Mark, keys}
use Rattle.nt_rules.specs.outbox.Calls.{fallen}
use Rattle.nt_rules.specs.history.Now.{now_of, is_there, is_open_for}
use Rattle.nt_rules.specs.history.Metas.{all_lives}
use Rattle.nt_rules.specs.history.Owed.{account, accounted, owed, keys_owed, weight_by, since_for}
use Rattle.nt_rules.specs.history.Marks.{marks_owed}
use Rattle.nt_rules.specs.history.Answer.{Legal, answer, drained_batch, moment_of}
use Rattle.nt_rules.specs.history.Drains.{with_drain, with_drains}
use Rattle.nt_rules.specs.history.Saved.{IsSavedSet}
use Rattle.nt_laws.proofs.marks.KeysOwed.{unplaced}
use Rattle.nt_laws.proofs.marks.FewerOwed.{fewer-keys}
use Rattle.nt_laws.proofs.metas.AllLives.{IsNumbered, saved-fit}
use Rattle.nt_laws.proofs.metas.MetaOrder.{is-numbered}
use Rattle.nt_laws.proofs.histories.Lawful.{legal-answered}
use Rattle.nt_laws.proofs.outboxes.OutboxKeys.{wish_of, marks-keys}
use Rattle.nt_laws.proofs.outboxes.UnchangedPresent.{quiet-numbered}
use Rattle.nt_laws.proofs.outboxes.Draining.{drain_of, is-quiet, open-there, owed-all, owed-none, drained-marks}
use Rattle.nt_laws.proofs.outboxes.Drains.{drained-prefix}

-- as many keys are left by the marks of a history as messages are owed to a connection that isn't behind
length-owed : (start : Start) (past : List Entry) (conn : ℕ) → IsNumbered start past
    → is_there (now_of start past).connections conn ≡ true → (account start past conn).fell ≡ None
    → length (keys (marks_owed start past conn)) ≡ length (owed start past conn)
length-owed start past conn n there none =
    ap length (marks-keys start past conn n) ∙ length-map ks unplaced
    ∙ ap length (sym (owed-all start past conn there none))
  where
    ks : List Key
    ks =
        keys_owed (account start past conn) conn (wish_of start past conn)
        (since_for start past conn) (all_lives start past)

-- a drain leaves fewer messages owed where some are, and none where none is
pub drain-lowers : (start : Start) (past : List Entry) (worker conn budget now : ℕ)
    → IsSavedSet start.saved → Legal start past
    → is_open_for (now_of start past).connections worker conn ≡ true → 1 ≤ budget
    → length (owed start (with_drain start worker conn budget now past) conn) ≤ length (owed start past conn) - 1
drain-lowers start past worker conn budget now saved legal open_for some = by (account start past conn).fell refl
  where
    moment : ℕ
    moment = moment_of (now_of start past) now

    batch : Batch
    batch = drained_batch (answer start past worker now (act.Drain conn budget))

    e : Entry
    e = drain_of worker conn moment batch

    marks : List Mark
    marks = marks_owed start past conn

    n : IsNumbered start past
    n = is-numbered start past (saved-fit start saved).few legal

    n' : IsNumbered start (e ∷ past)
    n' = quiet-numbered start past e (is-quiet start past worker conn moment batch) n

    there : is_there (now_of start past).connections conn ≡ true
    there = open-there (now_of start past).connections worker conn open_for

    -- one that is behind stays behind
    stays : (w : ℕ) → (account start past conn).fell ≡ Some w → (account start (e ∷ past) conn).fell ≡ Some w
    stays w fell =
        ap (λ f. fallen f (weight_by
        (accounted (account start past conn) (owed start past conn) (now_of start past) e conn)
        start (e ∷ past) conn)) fell

    after : (account start past conn).fell ≡ None
        → (f : Option ℕ) → (account start (e ∷ past) conn).fell ≡ f
        → length (owed start (e ∷ past) conn) ≤ length (owed start past conn) - 1
    after none (Some w) fell =
        let nothing = ap length (owed-none start (e ∷ past) conn w fell) in omega arith
    after none None still =
        let before = length-owed start past conn n there none in
        let behind = length-owed start (e ∷ past) conn n' there still in
        let handed =
        ap (λ ms. length (keys ms))
        (drained-marks start past worker conn moment budget batch n open_for none
        (drained-prefix start past worker now conn budget open_for none)) in
        let fewer = fewer-keys budget marks some in
        omega arith

    by : (f : Option ℕ) → (account start past conn).fell ≡ f
        → length (owed start (e ∷ past) conn) ≤ length (owed start past conn) - 1
    by (Some w) fell =
        let nothing = ap length (owed-none start (e ∷ past) conn w (stays w fell)) in omega arith
    by None none = after none (account start (e ∷ past) conn).fell refl

pub drain-fewer : (start : Start) (past : List Entry) (worker conn budget now : ℕ)
    → IsSavedSet start.saved → Legal start past
    → is_open_for (now_of start past).connections worker conn ≡ true → 1 ≤ budget
    → owed start past conn ≢ []
    → length (owed start (with_drain start worker conn budget now past) conn) < length (owed start past conn)
drain-fewer start past worker conn budget now saved legal open_for some ne =
    let least = positive (owed start past conn) ne in
    let fewer = drain-lowers start past worker conn budget now saved legal open_for some in
    omega arith
  where
    positive : (ks : List Key) → ks ≢ [] → 1 ≤ length ks
    positive [] ne = absurd (ne refl)
    positive (k ∷ ks) ne = omega arith

-- a list of at most no keys
pub none-owed : (ks : List Key) → length ks ≤ 0 → ks ≡ []
none-owed [] h = refl
none-owed (k ∷ ks) h = absurd (omega arith)

-- after as many drains as messages were owed
pub drains-end : (start : Start) (past : List Entry) (worker conn budget : ℕ) (moments : List ℕ)
    → IsSavedSet start.saved → Legal start past
    → is_open_for (now_of start past).connections worker conn ≡ true → 1 ≤ budget
    → length (owed start past conn) ≤ length moments
    → owed start (with_drains start worker conn budget moments past) conn ≡ []
drains-end start past worker conn budget [] saved legal open_for some enough =
    none-owed (owed start past conn) enough
drains-end start past worker conn budget (now ∷ moments) saved legal open_for some enough =
    let fewer = drain-lowers start past worker conn budget now saved legal open_for some in
    drains-end start (with_drain start worker conn budget now past) worker conn budget moments saved
    (legal-answered start past worker now (act.Drain conn budget) some legal) open_for some (omega arith)
