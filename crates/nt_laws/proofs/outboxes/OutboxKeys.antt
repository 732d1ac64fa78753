-- An outbox that holds what is owed tells how many messages that are, what they weigh, and whether the
-- connection fell behind.
use Rattle.std.proofs.Common.{◌≡◌, ◌&&◌, ℕ, true, cond, List, [], Option, Some, None, is_none, map, length, refl, sym}
use Rattle.std.proofs.Common.{◌∙◌, ap}
use Rattle.std.proofs.lemmas.List.{length-map}
use Rattle.nt_subs.specs.declared.wish.Wanted.{Wanted}
use Rattle.nt_rules.specs.outbox.Keys.{Key}
use Rattle.nt_rules.specs.outbox.Marks.{keys, weight}
use Rattle.nt_rules.specs.outbox.Calls.{OutboxState, behind, unless_behind, keys_of, weight_of}
use Rattle.nt_rules.specs.declared.act.Entry.{Entry}
use Rattle.nt_rules.specs.history.Lives.{Life}
use Rattle.nt_rules.specs.declared.start.Start.{Start}
use Rattle.nt_rules.specs.history.Now.{now_of, is_there}
use Rattle.nt_rules.specs.history.Metas.{all_lives}
use Rattle.nt_rules.specs.history.Owed as history
use Rattle.nt_rules.specs.history.Owed.{account, keys_owed, lives_weight, owed, queued, wish_for, wish_on, since_for}
use Rattle.nt_rules.specs.history.Marks.{marks_owed}
use Rattle.nt_rules.specs.history.Step.{Owes}
use Rattle.nt_laws.proofs.marks.KeysOwed.{unplaced, keys-owed, weight-owed}
use Rattle.nt_laws.proofs.metas.AllLives.{IsNumbered, all-ordinary}

-- how much a connection wants a life
abbrev pub wish_of : Start → List Entry → ℕ → Life → Wanted
wish_of start past conn = wish_on (wish_for start past conn)

pub owes-behind : (start : Start) (past : List Entry) (conn : ℕ) (b : OutboxState)
    → is_there (now_of start past).connections conn ≡ true
    → Owes start past conn b → behind b ≡ history.behind start past conn
owes-behind start past conn b there h =
    h.behind_is ∙ sym (ap (λ t. cond t (account start past conn).fell None) there)

-- the keys that a history's marks leave, and their weight
pub marks-keys : (start : Start) (past : List Entry) (conn : ℕ) → IsNumbered start past
    → keys (marks_owed start past conn)
    ≡ map unplaced
    (keys_owed (account start past conn) conn (wish_of start past conn)
    (since_for start past conn) (all_lives start past))
marks-keys start past conn n =
    keys-owed (account start past conn) conn (wish_of start past conn)
    (since_for start past conn) (all_lives start past)
    (all-ordinary start past (wish_for start past conn) n)

pub marks-weight : (start : Start) (past : List Entry) (conn : ℕ) → IsNumbered start past
    → weight (marks_owed start past conn)
    ≡ lives_weight (account start past conn) conn (wish_of start past conn)
    (since_for start past conn) (all_lives start past)
marks-weight start past conn n =
    weight-owed (account start past conn) conn (wish_of start past conn)
    (since_for start past conn) (all_lives start past)
    (all-ordinary start past (wish_for start past conn) n)

-- an outbox has the keys that are owed
pub owes-keys : (start : Start) (past : List Entry) (conn : ℕ) (b : OutboxState) → IsNumbered start past
    → is_there (now_of start past).connections conn ≡ true → Owes start past conn b
    → keys_of b ≡ map unplaced (owed start past conn)
owes-keys start past conn b n there h =
    ap keys h.marks_are
    ∙ ap (λ o. keys (unless_behind o (marks_owed start past conn))) h.behind_is
    ∙ by (account start past conn).fell
    ∙ ap (λ t. map unplaced (cond (t && is_none (account start past conn).fell) ks [])) (sym there)
  where
    ks : List Key
    ks = keys_owed (account start past conn) conn (wish_of start past conn)
        (since_for start past conn) (all_lives start past)

    by : (o : Option ℕ) → keys (unless_behind o (marks_owed start past conn)) ≡ map unplaced (cond (is_none o) ks [])
    by None = marks-keys start past conn n
    by (Some weight) = refl

-- as many messages
pub owes-pending : (start : Start) (past : List Entry) (conn : ℕ) (b : OutboxState) → IsNumbered start past
    → is_there (now_of start past).connections conn ≡ true → Owes start past conn b
    → length (keys_of b) ≡ length (owed start past conn)
owes-pending start past conn b n there h =
    ap length (owes-keys start past conn b n there h) ∙ length-map (owed start past conn) unplaced

-- and their weight
pub owes-queued : (start : Start) (past : List Entry) (conn : ℕ) (b : OutboxState) → IsNumbered start past
    → is_there (now_of start past).connections conn ≡ true → Owes start past conn b
    → weight_of b ≡ queued start past conn
owes-queued start past conn b n there h =
    ap weight h.marks_are
    ∙ ap (λ o. weight (unless_behind o (marks_owed start past conn))) h.behind_is
    ∙ by (account start past conn).fell
    ∙ ap (λ t. cond (t && is_none (account start past conn).fell) total 0) (sym there)
  where
    total : ℕ
    total = lives_weight (account start past conn) conn (wish_of start past conn)
        (since_for start past conn) (all_lives start past)

    by : (o : Option ℕ) → weight (unless_behind o (marks_owed start past conn)) ≡ cond (is_none o) total 0
    by None = marks-weight start past conn n
    by (Some w) = refl
