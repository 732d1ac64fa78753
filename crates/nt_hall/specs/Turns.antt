-- What clauses say of a seat of a hall and of its turns.
use Rattle.std.specs.Prelude.{◌≡◌, ℕ, ◌+◌, List, [], ◌∷◌, ◌++◌, length, Option, IfSome, Bool, false}
use Rattle.atomic_table.specs.Seated.{TableId}
use Rattle.nt_rules.specs.declared.act.Act.{Act}
use Rattle.nt_rules.specs.declared.act.StepOut.{StepOut}
use Rattle.nt_rules.specs.declared.act.Entry.{Entry}
use Rattle.nt_rules.specs.declared.start.Start.{Start}
use Rattle.nt_rules.specs.history.Step.{ServerState, Represents, IsEntryOf}
use Rattle.nt_lock.specs.declared.view.Note.{Note}
use Rattle.nt_lock.specs.declared.view.Note.TheVariants.{Made}
use Rattle.nt_lock.specs.declared.view.Origin.{Origin}
use Rattle.nt_lock.specs.Turns.{Begins, own, made, turn, NoneLater}
use Rattle.nt_lock.specs.Notes.{more}
use Rattle.nt_lock.specs.Seats.{SeatView, turned_seat, new_seats, Closes}
use Rattle.nt_record.specs.Recording.{Recording}
use Rattle.nt_record.specs.declared.recorder.RecState.TheVariants.{Off}
use Rattle.nt_hall.specs.Histories.{IsHistory, StandsFor, IsNext}

-- ---- one turn

-- One turn more of a seat, which did this. Its place is the number of entries after it, and no turn of the seat before
-- it has a later place than the number of entries before it. Where entries are told after it, they are so many, they
-- begin with those that the seat had seen, and the worker's own among them are those of the seat's turns, each once, at
-- their places.
pub record HasTurn (s t : SeatView) (note : Note) : Type 0 where
  pub before : ℕ
  pub turned : t ≡ turned_seat (turn (before + more note) note) t.seen s
  pub past : NoneLater before s.turns
  pub long : IfSome t.seen (λ list. length list ≡ before + more note)
  pub begins : IfSome t.seen (Begins s.seen)
  pub own_entries : IfSome t.seen (λ list. own s.worker list ≡ made t.turns)

-- The entries that are told after an act are a history that may be, and the act's entry at its end; that history begins
-- with what the seat had seen, and says what the act is answered and when its entry is made.
pub record Follows (s : SeatView) (now : ℕ) (act : Act) (out : StepOut) (e : Entry) (list : List Entry) : Type 0 where
  pub history : List Entry
  pub list_is : list ≡ history ++ e ∷ []
  pub begins : Begins s.seen history
  pub lawful : IsHistory s.origin.start history
  pub still_lawful : IsHistory s.origin.start list
  pub next : IsNext s.origin.start history s.worker now act out e

-- the turn of an act that was answered so: it made one entry, the act's, at no earlier moment than the one handed in
pub record Acted (s t : SeatView) (now : ℕ) (act : Act) (out : StepOut) : Type 0 where
  pub entry : Entry
  pub turn : HasTurn s t (Made entry)
  pub entry_is : IsEntryOf s.worker now act out entry
  pub follows : IfSome t.seen (Follows s now act out entry)

-- ---- as a hall opens and closes

-- The seats of so many workers of a hall that opened over a server without entries. What they show is what there was:
-- what the server began with, and what the recorder's sink had taken, with its count of faults.
pub record Opens (hall : TableId) (server : ServerState) (taken : Option (List ℕ)) (faults workers : ℕ)
    (seats : List SeatView) : Type 0 where
  pub origin : Origin
  pub seats_are : seats ≡ new_seats hall origin workers
  pub start_is : (start : Start) → Represents server start [] → origin.start ≡ start
  pub taken_is : origin.taken ≡ taken
  pub faults_are : origin.faults ≡ faults

-- a recorder that is off since the hall opened: its sink took nothing, and its count of faults is as it was
abbrev pub IsAsOpened : {S : Type 0} → (S → Option (List ℕ)) → (S → ℕ) → Origin → Recording S → Type 0
IsAsOpened taken faults origin recorder =
    recorder.state ≡ Off → (taken recorder.sink ≡ origin.taken) × (faults recorder.sink ≡ origin.faults)

-- What there is as all seats have come back: what the journal tells, how many entries it counts and whether a turn was
-- refused agree with the turns of all seats; where none was, the server stands for what is told; and the recorder.
pub record Ends {S : Type 0} (sink_taken : S → Option (List ℕ)) (sink_faults : S → ℕ) (seats : List SeatView)
    (server : ServerState) (told : Option (List Entry)) (count : ℕ) (recorder : Recording S) (failed : Bool)
    : Type 0 where
  pub origin : Origin
  pub closes : Closes seats (record { origin = origin; told = told; count = count; failed = failed })
  pub stands : failed ≡ false → IfSome told (StandsFor server origin.start)
  pub recorded : IsAsOpened sink_taken sink_faults origin recorder
