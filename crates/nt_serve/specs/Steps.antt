-- What serving a connection is made of: turns of the worker's seat, and frames that come and go.
use Rattle.std.specs.Prelude.{◌≡◌, ◌⊎◌, ℕ, ◌+◌, ◌-◌, ◌^◌, min, List, [], ◌∷◌, Option, true, false, IfSome}
use Rattle.std.specs.List.{flat_map}
use Rattle.nt_link.specs.declared.frame.Frame.{Frame}
use Rattle.nt_rules.specs.declared.act.Act.{Act}
use Rattle.nt_rules.specs.declared.act.Act.TheVariants.{Said}
use Rattle.nt_rules.specs.declared.act.StepOut.{StepOut}
use Rattle.nt_rules.specs.declared.act.StepOut.TheVariants.{Ignored}
use Rattle.nt_lock.specs.declared.view.Note.TheVariants as note
use Rattle.nt_lock.specs.Seats.{SeatView}
use Rattle.nt_hall.specs.declared.work.Looked.{Looked}
use Rattle.nt_hall.specs.Histories.{IsLook}
use Rattle.nt_hall.specs.Turns.{HasTurn, Acted}
use Rattle.nt_wire.specs.Frames.{in_front, behind}

-- An act at a moment, with its answer. A look at a connection. A turn that met want of memory: an act that was
-- refused, or a look that found that one was. A frame that came. So many of its parts that are no message. A frame that
-- was sent.
pub data Step : Type 0 where
  acts : ℕ → Act → StepOut → Step
  looks : ℕ → Looked → Step
  fails : Step
  receives : Frame → Step
  skips : ℕ → Step
  sends : Frame → Step

-- ---- turns of the seat

-- a look that is answered: it tells what the list says
pub record HasLooked (s t : SeatView) (conn : ℕ) (look : Looked) : Type 0 where
  pub turn : HasTurn s t (note.Looked false)
  pub well : look.failed ≡ false
  pub says : IfSome t.seen (λ list. IsLook s.origin.start list conn look)

abbrev pub Goes : SeatView → Step → SeatView → Type 0
Goes s (acts now act out) t = Acted s t now act out
Goes s (looks conn look) t = HasLooked s t conn look
Goes s fails t = HasTurn s t note.Refused ⊎ HasTurn s t (note.Looked true)
Goes s (receives frame) t = t ≡ s
Goes s (skips n) t = t ≡ s
Goes s (sends frame) t = t ≡ s

-- the seat after these steps, one after another
abbrev pub GoesOn : SeatView → List Step → SeatView → Type 0
GoesOn s [] t = t ≡ s
GoesOn s (x ∷ steps) t = (u : SeatView) × Goes s x u × GoesOn u steps t

-- ---- frames

abbrev pub frames_in : Step → List Frame
frames_in (receives frame) = frame ∷ []
frames_in step = []

abbrev pub frames_out : Step → List Frame
frames_out (sends frame) = frame ∷ []
frames_out step = []

abbrev pub received : List Step → List Frame
received steps = flat_map frames_in steps

abbrev pub sent : List Step → List Frame
sent steps = flat_map frames_out steps

-- ---- what is ignored: messages that are answered so, and what is no message

abbrev pub ignored_out : StepOut → ℕ
ignored_out (Ignored cause) = 1
ignored_out out = 0

abbrev pub ignored_act : Act → StepOut → ℕ
ignored_act (Said conn msg) out = ignored_out out
ignored_act act out = 0

abbrev pub ignored_by : Step → ℕ
ignored_by (acts now act out) = ignored_act act out
ignored_by (skips n) = n
ignored_by step = 0

abbrev pub ignored : List Step → ℕ
ignored [] = 0
ignored (x ∷ steps) = ignored_by x + ignored steps

-- ---- all of it

-- the seat, the frames that the link tells, and how much was ignored
pub record Standing : Type 0 where
  pub seat : SeatView
  pub coming : Option (List Frame)
  pub received : Option (List Frame)
  pub sent : Option (List Frame)
  pub ignored : ℕ

abbrev pub at : {L : Type 0} → (coming received sent : L → Option (List Frame)) → SeatView → L → ℕ → Standing
at coming received sent seat link ignored =
    record { seat = seat; coming = coming link; received = received link; sent = sent link; ignored = ignored }

-- what these steps lead to. The count of what is ignored stands still at its type's end
pub record Moves (a b : Standing) (steps : List Step) : Type 0 where
  pub goes : GoesOn a.seat steps b.seat
  pub coming_is : a.coming ≡ in_front (received steps) b.coming
  pub received_is : b.received ≡ behind a.received (received steps)
  pub sent_is : b.sent ≡ behind a.sent (sent steps)
  pub ignored_is : min b.ignored (2 ^ 64 - 1) ≡ min (a.ignored + ignored steps) (2 ^ 64 - 1)

-- some steps that are such lead there
pub record Reaches (a b : Standing) (are : List Step → Type 0) : Type 0 where
  pub steps : List Step
  pub moves : Moves a b steps
  pub such : are steps
