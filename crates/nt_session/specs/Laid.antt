-- How messages are laid into frames (NetworkTables 4.1, "Text Data Frames" and "MessagePack Data"): a text
-- frame for all that are told in JSON, and then the values in binary frames.
use Rattle.std.specs.Prelude.{◌≡◌, ◌⊎◌, ◌≤◌, ℕ, ◌+◌, negsuc, Bool, List, [], ◌∷◌, ◌++◌, length, nat_lt, ◌&&◌, if◌then◌else◌}
use Rattle.nt_frames.specs.declared.message.ValueMsg.{ValueMsg}
use Rattle.nt_frames.specs.Frames.{spelling_of, frame_of}
use Rattle.nt_control.specs.declared.message.ServerMsg.{ServerMsg}
use Rattle.nt_control.specs.Frame.{server_text}
use Rattle.nt_rules.specs.declared.batch.Batch.{Batch}
use Rattle.nt_link.specs.declared.frame.Frame.{Frame}
use Rattle.nt_link.specs.declared.frame.Frame.TheVariants as frames

-- the most bytes of a frame of more than one value
abbrev pub most_bytes : ℕ
most_bytes = 65_536

-- one text frame, where there is anything to tell
abbrev pub text_frames : List ServerMsg → List Frame
text_frames [] = []
text_frames (m ∷ ms) = frames.Text (server_text (m ∷ ms)) ∷ []

-- a frame of these bytes was begun, and with this value it would be too long
abbrev pub is_apart : List ℕ → ValueMsg → Bool
is_apart begun value =
    nat_lt 0 (length begun) && nat_lt most_bytes (length begun + length (spelling_of value))

-- the frame that was begun, if it was
abbrev pub begun_frame : List ℕ → List Frame
begun_frame [] = []
begun_frame (byte ∷ bytes) = frames.Binary (byte ∷ bytes) ∷ []

-- the frames of values behind those bytes of a frame that was begun: each value joins the frame before it
-- where that stays short enough
abbrev pub frames_behind : List ℕ → List ValueMsg → List Frame
frames_behind begun [] = begun_frame begun
frames_behind begun (value ∷ values) =
    if is_apart begun value then frames.Binary begun ∷ frames_behind (spelling_of value) values
    else frames_behind (begun ++ spelling_of value) values

-- the bytes of a binary frame
abbrev pub bytes_in : Frame → List ℕ
bytes_in (frames.Text text) = []
bytes_in (frames.Binary bytes) = bytes

-- bytes that are few enough, or are of one value
abbrev pub IsFitFor : List ℕ → Type 0
IsFitFor bytes = (length bytes ≤ most_bytes) ⊎ ((value : ValueMsg) × (bytes ≡ spelling_of value))

abbrev pub IsFit : Frame → Type 0
IsFit frame = IsFitFor (bytes_in frame)

-- the frames of a batch
abbrev pub frames_in : Batch → List Frame
frames_in batch = text_frames batch.texts ++ frames_behind [] batch.values

-- the answer to a question for the server's time ("Timestamps"): the id of the clock, which is -1, the time,
-- and the value that came
abbrev pub clock_message : ValueMsg → ℕ → ValueMsg
clock_message question now = record { id = negsuc 0; time = now; value = question.value }

abbrev pub clock_frame : ValueMsg → ℕ → Frame
clock_frame question now = frames.Binary (frame_of (clock_message question now ∷ []))
