-- After a turn of the desk nothing is owed.
use Rattle.std.proofs.Common.{◌≡◌, ◌≤◌, ◌-◌, ℕ, suc, zero, Bool, true, false, cond, List, [], ◌∷◌, length, is_none}
use Rattle.std.proofs.Common.{refl, ◌∙◌, arith}
use Rattle.nt_rules.specs.declared.act.Act.TheVariants as act
use Rattle.nt_rules.specs.declared.act.Msg.{Msg}
use Rattle.nt_rules.specs.declared.act.Entry.{Entry}
use Rattle.nt_rules.specs.outbox.Keys.{Key}
use Rattle.nt_rules.specs.history.Now.{now_of, is_open_for}
use Rattle.nt_rules.specs.history.Owed.{owed}
use Rattle.nt_rules.specs.history.Answer.{Legal}
use Rattle.nt_rules.specs.history.Saved.{IsSavedSet}
use Rattle.nt_laws.proofs.histories.Lawful.{legal-answered}
use Rattle.nt_laws.proofs.outboxes.DrainsEnd.{drain-lowers, none-owed}
use Rattle.nt_cli.specs.Desk.{Decoding, is_empty, count_owed, start, worker, conn, budget, with_act, with_drain}
use Rattle.nt_cli.specs.Desk.{line_messages, answer_to, with_message, with_messages, after_drains, after_turn}
use Rattle.nt_cli.proofs.DeskSteps.{said-there}

-- a lawful history in which the desk's connection is open
record IsAtDesk (past : List Entry) : Type 0 where
  legal : Legal start past
  there : is_open_for (now_of start past).connections worker conn ≡ true

legal-said : (past : List Entry) (now : ℕ) (m : Msg) → Legal start past
    → Legal start (with_act past now (act.Said conn m))
unfolding with_act
legal-said past now m legal = (tt, omega arith, legal)

message-keeps : (past : List Entry) (now : ℕ) (m : Msg) → IsAtDesk past → IsAtDesk (with_message past now m)
unfolding with_message
message-keeps past now m h = by (is_none (answer_to now m))
  where
    by : (b : Bool) → IsAtDesk (cond b (with_act past now (act.Said conn m)) past)
    by true = record { legal = legal-said past now m h.legal; there = said-there past now m ∙ h.there }
    by false = h

messages-keep : (msgs : List Msg) (past : List Entry) (now : ℕ) → IsAtDesk past
    → IsAtDesk (with_messages past now msgs)
unfolding with_messages
messages-keep [] past now h = h
messages-keep (m ∷ msgs) past now h =
    messages-keep msgs (with_message past now m) now (message-keeps past now m h)

drain-keeps : (past : List Entry) (now : ℕ) → IsAtDesk past → IsAtDesk (with_drain past now)
unfolding with_act with_drain
drain-keeps past now h =
    record {
      legal = legal-answered start past worker now (act.Drain conn budget) (omega arith) h.legal;
      there = h.there;
    }

none-saved : IsSavedSet start.saved
none-saved = record { few = omega arith; names = tt; each = tt }

drain-leaves : (past : List Entry) (now : ℕ) → IsAtDesk past
    → length (owed start (with_drain past now) conn) ≤ length (owed start past conn) - 1
unfolding with_act with_drain
drain-leaves past now h =
    drain-lowers start past worker conn budget now none-saved h.legal h.there (omega arith)

no-item : (ks : List Key) → is_empty ks ≡ true → ks ≡ []
no-item [] e = refl
no-item (k ∷ ks) e = absurd (cc)

-- after as many drains as messages were owed
drains-leave : (k : ℕ) (past : List Entry) (now : ℕ) → IsAtDesk past → length (owed start past conn) ≤ k
    → owed start (after_drains k past now) conn ≡ []
unfolding after_drains
drains-leave zero past now h enough = none-owed (owed start past conn) enough
drains-leave (suc k) past now h enough =
    by (is_empty (owed start past conn)) refl
    (λ less. drains-leave k (with_drain past now) now (drain-keeps past now h) less)
  where
    by : (b : Bool) → is_empty (owed start past conn) ≡ b
        → (length (owed start (with_drain past now) conn) ≤ k
        → owed start (after_drains k (with_drain past now) now) conn ≡ [])
        → owed start (cond b past (after_drains k (with_drain past now) now)) conn ≡ []
    by true e more = no-item (owed start past conn) e
    by false e more = let fewer = drain-leaves past now h in more (omega arith)

pub turn-leaves : (decode : Decoding) (past : List Entry) (number : ℕ) (line : List ℕ) → Legal start past
    → is_open_for (now_of start past).connections worker conn ≡ true
    → owed start (after_turn decode past number line) conn ≡ []
unfolding after_turn
turn-leaves decode past number line legal there =
    let said = with_messages past number (line_messages decode line) in
    drains-leave (count_owed said) said number
    (messages-keep (line_messages decode line) past number (record { legal = legal; there = there }))
    (omega arith)
