-- A turn leaves a seat the same worker's of the same hall.
--     same, same_then      no turn, and one turn after another
--     turn_same            one turn
--     acted_same           an act, whether it was answered or refused
use Rattle.std.proofs.Common.{ℕ, ap, refl, ◌∙◌}
use Rattle.std.specs.Prelude.{Result, Ok, Err, IfOk, OnErr}
use Rattle.nt_rules.specs.declared.act.Act.{Act}
use Rattle.nt_rules.specs.declared.act.StepOut.{StepOut}
use Rattle.nt_lock.specs.declared.view.Note.{Note}
use Rattle.nt_lock.specs.declared.view.Note.TheVariants.{Refused}
use Rattle.nt_lock.specs.Seats.{SeatView}
use Rattle.nt_lock_rows.specs.Crowds.{IsSame}
use Rattle.nt_hall.specs.Turns.{HasTurn, Acted}

pub same : (s : SeatView) → IsSame s s
same s = record { lock = refl; worker = refl; opened = refl }

pub same_then : (s t u : SeatView) → IsSame s t → IsSame t u → IsSame s u
same_then s t u a b =
    record { lock = b.lock ∙ a.lock; worker = b.worker ∙ a.worker; opened = b.opened ∙ a.opened }

pub turn_same : (s t : SeatView) (note : Note) → HasTurn s t note → IsSame s t
turn_same s t note h =
    record {
      lock = ap (λ (z : SeatView). z.lock) h.turned;
      worker = ap (λ (z : SeatView). z.worker) h.turned;
      opened = ap (λ (z : SeatView). z.opened) h.turned;
    }

pub acted_same : {E : Type 0} (s t : SeatView) (now : ℕ) (act : Act) (reply : Result StepOut E)
    → IfOk reply (Acted s t now act) → OnErr reply (HasTurn s t Refused) → IsSame s t
acted_same s t now act (Ok out) a r = turn_same s t _ a.turn
acted_same s t now act (Err e) a r = turn_same s t Refused r
