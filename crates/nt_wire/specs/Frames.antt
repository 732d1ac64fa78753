-- What calls on a link do to the frames that it tells, and why they fail.
use Rattle.std.specs.Prelude.{◌≡◌, ℕ, ◌≤◌, List, [], ◌∷◌, ◌++◌, Option, Some, None, Result, Ok, Err}
use Rattle.nt_link.specs.Causes.{Rose, StaysAtEnd}
use Rattle.nt_link.specs.declared.frame.Frame.{Frame}
use Rattle.nt_link.specs.declared.frame.Frame.TheVariants as frames
use Rattle.nt_wire.specs.declared.link.Heard.{Heard}
use Rattle.nt_wire.specs.declared.link.Heard.TheVariants as heard
use Rattle.nt_wire.specs.declared.link.LinkFault.{LinkFault}
use Rattle.nt_wire.specs.declared.link.LinkFault.TheVariants.{Failed}

-- these frames, and then those that are told
abbrev pub in_front : List Frame → Option (List Frame) → Option (List Frame)
in_front frames None = None
in_front frames (Some told) = Some (frames ++ told)

-- the frames that are told, and then these
abbrev pub behind : Option (List Frame) → List Frame → Option (List Frame)
behind None frames = None
behind (Some told) frames = Some (told ++ frames)

-- the frame that was given, if any
abbrev pub frames_in : Heard → List Frame
frames_in (heard.Text text) = frames.Text text ∷ []
frames_in (heard.Binary bytes) = frames.Binary bytes ∷ []
frames_in heard.Quiet = []
frames_in heard.Ended = []

abbrev pub heard_frames : Result Heard LinkFault → List Frame
heard_frames (Ok h) = frames_in h
heard_frames (Err fault) = []

-- the frame that was sent, if it was
abbrev pub sent_frames : {T : Type 0} → Frame → Result T LinkFault → List Frame
sent_frames frame (Ok x) = frame ∷ []
sent_frames frame (Err fault) = []

-- a count that never falls, and stays at its end
pub record Rises (before now : ℕ) : Type 0 where
  pub later : before ≤ now
  pub end : StaysAtEnd before now

-- the same of a count of faults, and the outside failed only where it rose
pub record HasCauseOfFault {T : Type 0} (before now : ℕ) (result : Result T LinkFault) : Type 0 where
  pub later : before ≤ now
  pub end : StaysAtEnd before now
  pub failed : result ≡ Err Failed → Rose before now
