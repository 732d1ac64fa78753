-- Frames sent one after another.
use Rattle.std.specs.Prelude.{◌≡◌, List, ◌++◌, Option}
use Rattle.nt_link.specs.declared.frame.Frame.{Frame}
use Rattle.nt_wire.specs.Frames.{behind}

-- these frames were sent over the link, and nothing else
pub record Sends {L : Type 0} (coming received sent : L → Option (List Frame)) (frames : List Frame) (a b : L)
    : Type 0 where
  pub coming_is : coming b ≡ coming a
  pub received_is : received b ≡ received a
  pub sent_is : sent b ≡ behind (sent a) frames

-- a front of them
pub record SendsSome {L : Type 0} (coming received sent : L → Option (List Frame)) (frames : List Frame) (a b : L)
    : Type 0 where
  pub front : List Frame
  pub rest : List Frame
  pub frames_are : frames ≡ front ++ rest
  pub sends : Sends coming received sent front a b
