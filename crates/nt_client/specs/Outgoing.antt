-- What waits to be sent, and the frames into which it is laid: a text frame for control messages that follow one
-- another, and a binary frame for values that do (NetworkTables 4.1, "Text Data Frames" and "MessagePack Data").
use Rattle.std.specs.Prelude.{List, [], ◌∷◌, map}
use Rattle.std.specs.List.{flat_map}
use Rattle.nt_frames.specs.Frames.{frame_of}
use Rattle.nt_control.specs.Frame.{client_text}
use Rattle.nt_link.specs.declared.frame.Frame.{Frame}
use Rattle.nt_link.specs.declared.frame.Frame.TheVariants as frames
use Rattle.nt_rules.specs.declared.act.Msg.{Msg}
use Rattle.nt_rules.specs.declared.act.Msg.TheVariants.{Control, Put}
use Rattle.nt_client.specs.declared.queue.Run.{Run}
use Rattle.nt_client.specs.declared.queue.Run.TheVariants.{Controls, Values}

-- a message before these runs: it joins the first where that is of its kind
abbrev pub with_first : Msg → List Run → List Run
with_first (Control m) [] = Controls (m ∷ []) ∷ []
with_first (Control m) (Controls ms ∷ runs) = Controls (m ∷ ms) ∷ runs
with_first (Control m) (Values vs ∷ runs) = Controls (m ∷ []) ∷ Values vs ∷ runs
with_first (Put v) [] = Values (v ∷ []) ∷ []
with_first (Put v) (Controls ms ∷ runs) = Values (v ∷ []) ∷ Controls ms ∷ runs
with_first (Put v) (Values vs ∷ runs) = Values (v ∷ vs) ∷ runs

-- the longest runs of messages of one kind
abbrev pub runs_of : List Msg → List Run
runs_of [] = []
runs_of (m ∷ messages) = with_first m (runs_of messages)

-- the frame of a run
abbrev pub laid : Run → Frame
laid (Controls ms) = frames.Text (client_text ms)
laid (Values vs) = frames.Binary (frame_of vs)

-- the frames of what waits, in the order in which it was said
abbrev pub frames_of : List Msg → List Frame
frames_of messages = map laid (runs_of messages)

-- ---- the messages of runs

abbrev pub said_in : Run → List Msg
said_in (Controls ms) = map Control ms
said_in (Values vs) = map Put vs

abbrev pub messages_in : List Run → List Msg
messages_in runs = flat_map said_in runs
