-- What the frames on a wire say, either way (NetworkTables 4.1, "Text Data Frames" and "MessagePack Data").
use Rattle.std.specs.Prelude.{ℕ, negsuc, Bool, false, map, List, Option}
use Rattle.std.specs.Ordering.{int_eq}
use Rattle.nt_frames.specs.declared.message.ValueMsg.{ValueMsg}
use Rattle.nt_frames.specs.declared.message.FrameFault.{FrameFault}
use Rattle.nt_frames.specs.Frames.{Means}
use Rattle.nt_control.specs.Frame.{said_in, told_in}
use Rattle.nt_link.specs.declared.frame.Frame.{Frame}
use Rattle.nt_link.specs.declared.frame.Frame.TheVariants as frames
use Rattle.nt_rules.specs.Limits.{most_value as most_said}
use Rattle.nt_rules.specs.declared.act.Msg.{Msg}
use Rattle.nt_rules.specs.declared.act.Msg.TheVariants.{Control, Put}
use Rattle.nt_rules.specs.telling.Told.{Message, Text, Value}
use Rattle.nt_client.specs.Taking.{most_value as most_told}

-- how binary frames are decoded, for each greatest size of a value: the messages of each frame, up to its first fault.
-- Frames have one meaning, so that there is one decoding
abbrev pub Decoding : Type 0
Decoding = ℕ → List ℕ → List ValueMsg

abbrev pub IsDecoding : Decoding → Type 0
IsDecoding decode =
    (most : ℕ) (bytes : List ℕ) → (fault : Option FrameFault) × Means most bytes (decode most bytes) fault

-- the messages that a frame of a client says, in order
abbrev pub said_by : Decoding → Frame → List Msg
said_by decode (frames.Text text) = map Control (said_in text)
said_by decode (frames.Binary bytes) = map Put (decode most_said bytes)

-- a value with the id -1 is a question for the server's time ("Timestamps"), and no entry
abbrev pub is_question : Msg → Bool
is_question (Put v) = int_eq v.id (negsuc 0)
is_question (Control m) = false

-- the messages that a frame of a server tells, in order
abbrev pub told_by : Decoding → Frame → List Message
told_by decode (frames.Text text) = map Text (told_in text)
told_by decode (frames.Binary bytes) = map Value (decode most_told bytes)
