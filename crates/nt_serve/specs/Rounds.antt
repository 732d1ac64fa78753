-- The rounds of a session (NetworkTables 4.1): a frame that came is said, message by message, in order; then the worker
-- looks at the connection; then what it is owed is handed to it.
use Rattle.std.specs.Prelude.{◌≡◌, ◌⊎◌, ℕ, negsuc, Bool, true, false, not, ◌&&◌, nat_lt, is_none, if◌then◌else◌, List, [], ◌∷◌, ◌++◌, map, Option, Some, None, MatchBool}
use Rattle.std.specs.List.{AllZip}
use Rattle.std.specs.Ordering.{int_eq}
use Rattle.nt_link.specs.declared.frame.Frame.{Frame}
use Rattle.nt_link.specs.declared.frame.Frame.TheVariants as frames
use Rattle.nt_frames.specs.declared.message.ValueMsg.{ValueMsg}
use Rattle.nt_frames.specs.declared.message.FrameFault.{FrameFault}
use Rattle.nt_frames.specs.Frames.{Means}
use Rattle.nt_control.specs.Frame.{said_in, ignored_in}
use Rattle.nt_session.specs.Laid.{frames_in, clock_frame}
use Rattle.nt_rules.specs.Limits.{most_value}
use Rattle.nt_rules.specs.declared.act.Act.TheVariants.{Said, Drain}
use Rattle.nt_rules.specs.declared.act.Msg.{Msg}
use Rattle.nt_rules.specs.declared.act.Msg.TheVariants.{Control, Put}
use Rattle.nt_rules.specs.declared.act.StepOut.{StepOut}
use Rattle.nt_rules.specs.history.Answer.{drained_batch}
use Rattle.nt_hall.specs.declared.work.Looked.{Looked}
use Rattle.nt_serve.specs.Steps.{Step, acts, looks, receives, skips, sends}

-- ---- what a frame says

abbrev pub faults_in : Option FrameFault → ℕ
faults_in None = 0
faults_in (Some fault) = 1

-- the messages of a frame in order, and how many of its parts are no message: elements of a text, and of a binary frame
-- the fault with which it stops
abbrev pub Says : Frame → List Msg → ℕ → Type 0
Says (frames.Text text) msgs skipped = (msgs ≡ map Control (said_in text)) × (skipped ≡ ignored_in text)
Says (frames.Binary bytes) msgs skipped = (values : List ValueMsg) × (fault : Option FrameFault)
    × Means most_value bytes values fault × (msgs ≡ map Put values) × (skipped ≡ faults_in fault)

-- the answer at a moment to a question for the server's time, which is a value with the id -1
abbrev pub reply_to : ℕ → Msg → Option Frame
reply_to now (Put v) = if int_eq v.id (negsuc 0) then Some (clock_frame v now) else None
reply_to now (Control m) = None

-- a question is answered, and any other message is said, in an act of its own
abbrev pub step_for : Option Frame → ℕ → ℕ → Msg → StepOut → Step
step_for (Some answer) conn now msg out = sends answer
step_for None conn now msg out = acts now (Said conn msg) out

pub record IsStepOf (conn : ℕ) (msg : Msg) (step : Step) : Type 0 where
  pub now : ℕ
  pub out : StepOut
  pub step_is : step ≡ step_for (reply_to now msg) conn now msg out

-- a message's step alone
pub record IsOneStep (conn : ℕ) (msg : Msg) (steps : List Step) : Type 0 where
  pub step : Step
  pub is_step : IsStepOf conn msg step
  pub steps_are : steps ≡ step ∷ []

-- what is done with the messages of a frame: one step for each, in order
pub record IsTaken (conn : ℕ) (frame : Frame) (steps : List Step) : Type 0 where
  pub msgs : List Msg
  pub skipped : ℕ
  pub says : Says frame msgs skipped
  pub said : List Step
  pub each : AllZip (IsStepOf conn) msgs said
  pub steps_are : steps ≡ skips skipped ∷ said

-- what a round begins with: a frame that came and what is done with it, or nothing, where none came
pub record IsHeard (conn : ℕ) (steps : List Step) : Type 0 where
  pub either : (steps ≡ [])
      ⊎ ((frame : Frame) × (taken : List Step) × IsTaken conn frame taken × (steps ≡ receives frame ∷ taken))

-- a frame or none, or the end of the link, after which nothing is done
abbrev pub IsHeardAs : Bool → ℕ → List Step → Type 0
IsHeardAs true conn steps = IsHeard conn steps
IsHeardAs false conn steps = steps ≡ []

-- ---- what is handed

-- the most messages of one drain
abbrev pub budget : ℕ
budget = 256

-- one drain, and its frames are sent
pub record IsDrained (conn : ℕ) (steps : List Step) : Type 0 where
  pub now : ℕ
  pub out : StepOut
  pub steps_are : steps ≡ acts now (Drain conn budget) out ∷ map sends (frames_in (drained_batch out))

-- the server isn't shut, and the connection isn't behind
abbrev pub is_fine : Looked → Bool
is_fine look = not look.shut && is_none look.behind

-- something is handed where all is fine and something is owed
abbrev pub is_owed : Looked → Bool
is_owed look = is_fine look && nat_lt 0 look.pending

-- a look, and then a drain, where something is to be handed
pub record IsTail (conn : ℕ) (look : Looked) (steps : List Step) : Type 0 where
  pub drained : List Step
  pub drained_are : MatchBool (is_owed look) (IsDrained conn drained) (drained ≡ [])
  pub steps_are : steps ≡ looks conn look ∷ drained

-- ---- rounds

pub record IsRound (conn : ℕ) (look : Looked) (steps : List Step) : Type 0 where
  pub heard : List Step
  pub tail : List Step
  pub heard_are : IsHeard conn heard
  pub tail_are : IsTail conn look tail
  pub steps_are : steps ≡ heard ++ tail

-- a round after which the session goes on
pub record IsWhole (conn : ℕ) (steps : List Step) : Type 0 where
  pub look : Looked
  pub fine : is_fine look ≡ true
  pub round : IsRound conn look steps

pub record IsAnyRound (conn : ℕ) (steps : List Step) : Type 0 where
  pub look : Looked
  pub round : IsRound conn look steps
