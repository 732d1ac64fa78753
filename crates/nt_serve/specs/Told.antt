-- What the list of entries that a seat has seen tells of its steps.
use Rattle.std.specs.Prelude.{◌≡◌, ℕ, List, [], ◌∷◌, ◌++◌, length, Some, IfSome}
use Rattle.nt_rules.specs.declared.act.Act.{Act}
use Rattle.nt_rules.specs.declared.act.StepOut.{StepOut}
use Rattle.nt_rules.specs.declared.act.Entry.{Entry}
use Rattle.nt_rules.specs.declared.start.Start.{Start}
use Rattle.nt_lock.specs.Seats.{SeatView}
use Rattle.nt_lock.specs.Turns.{StartsWith, own, made}
use Rattle.nt_hall.specs.Histories.{IsHistory, IsNext, IsLook}
use Rattle.nt_serve.specs.Steps.{Step, acts, looks, fails, receives, skips, sends}

-- The act is the last entry of the list, which is a lawful history. What went before it says what it is answered, and
-- it is the only entry of its worker since those that were seen.
pub record IsTold (start : Start) (worker : ℕ) (seen : List Entry) (now : ℕ) (act : Act) (out : StepOut)
    (list : List Entry) : Type 0 where
  pub history : List Entry
  pub entry : Entry
  pub list_is : list ≡ history ++ entry ∷ []
  pub begins : StartsWith history seen
  pub lawful : IsHistory start list
  pub next : IsNext start history worker now act out entry
  pub alone : own worker list ≡ own worker seen ++ (length list, entry) ∷ []

-- others may have made entries since those that were seen, and this worker none
pub record IsNotOwn (worker : ℕ) (seen list : List Entry) : Type 0 where
  pub begins : StartsWith list seen
  pub none_own : own worker list ≡ own worker seen

-- the list that is told after a step, where these entries were seen before it
abbrev pub IsToldAfter : Start → ℕ → List Entry → Step → List Entry → Type 0
IsToldAfter start worker seen (acts now act out) list = IsTold start worker seen now act out list
IsToldAfter start worker seen (looks conn look) list = IsNotOwn worker seen list × IsLook start list conn look
IsToldAfter start worker seen fails list = IsNotOwn worker seen list
IsToldAfter start worker seen (receives frame) list = list ≡ seen
IsToldAfter start worker seen (skips n) list = list ≡ seen
IsToldAfter start worker seen (sends frame) list = list ≡ seen

-- step after step, up to this list
abbrev pub AreTold : Start → ℕ → List Entry → List Step → List Entry → Type 0
AreTold start worker seen [] list = list ≡ seen
AreTold start worker seen (x ∷ steps) list =
    (next : List Entry) × IsToldAfter start worker seen x next × AreTold start worker next steps list

-- the worker's entries among those that the seat has seen are those of its turns
abbrev pub KnowsItsOwn : SeatView → Type 0
KnowsItsOwn s = IfSome s.seen (λ list. own s.worker list ≡ made s.turns)
