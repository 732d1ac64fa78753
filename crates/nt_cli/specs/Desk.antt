-- The desk: one connection on one thread, which says the lines of its input, and is handed what it is owed after each.
use Rattle.std.specs.Prelude.{◌≡◌, ◌≤◌, ℕ, zero, suc, negsuc, Bool, true, false, nat_lt, ◌+◌, List, [], ◌∷◌, ◌++◌, map, length, take, codes, is_none, Result, Ok, Err, if◌then◌else◌}
use Rattle.std.specs.List.{filter_map, flat_map}
use Rattle.std.specs.Ordering.{int_eq}
use Rattle.std.specs.declared.option.Option.{Option}
use Rattle.std.specs.declared.option.Option.TheVariants.{Some, None}
use Rattle.std.specs.Io.KnownBytes.{Consumes, IsAtEnd}
use Rattle.std.specs.Fmt.{decimal}
use Rattle.nt_topics.specs.declared.version.Version.TheVariants.{V41}
use Rattle.nt_link.specs.declared.frame.Frame.{Frame}
use Rattle.nt_link.specs.declared.frame.Frame.TheVariants as frames
use Rattle.nt_frames.specs.declared.message.ValueMsg.{ValueMsg}
use Rattle.nt_frames.specs.declared.message.FrameFault.{FrameFault}
use Rattle.nt_frames.specs.Frames.{Means}
use Rattle.nt_control.specs.Frame.{said_in}
use Rattle.nt_session.specs.Laid.{frames_in, clock_frame}
use Rattle.nt_rules.specs.Limits.{most_value}
use Rattle.nt_rules.specs.declared.batch.Batch.{Batch}
use Rattle.nt_rules.specs.declared.act.Act.{Act}
use Rattle.nt_rules.specs.declared.act.Act.TheVariants as act
use Rattle.nt_rules.specs.declared.act.Msg.{Msg}
use Rattle.nt_rules.specs.declared.act.Msg.TheVariants.{Control, Put}
use Rattle.nt_rules.specs.declared.act.Entry.{Entry}
use Rattle.nt_rules.specs.declared.start.Start.{Start}
use Rattle.nt_rules.specs.history.Now.{now_of}
use Rattle.nt_rules.specs.history.Metas.{all_lives}
use Rattle.nt_rules.specs.history.Owed.{owed, messages}
use Rattle.nt_rules.specs.history.Answer.{answer, entry, moment_of}
use Rattle.nt_tools.specs.Input.{most_bytes, piece_bytes}
use Rattle.nt_tools.specs.Lines.{too_long}
use Rattle.nt_tools.specs.LineReading.{most_line, is_feed}
use Rattle.nt_cli.specs.Hexadecimal.{is_binary, digits_in, hex_bytes, hex_line}
use Rattle.nt_tools.specs.declared.status.Status.{Status}
use Rattle.nt_tools.specs.declared.status.ToolFault.{ToolFault}
use Rattle.nt_tools.specs.declared.status.ToolFault.TheVariants.{Memory, Read, Write}
use Rattle.nt_tools.specs.Reply.{Reply, IsGiven, IsPrefix, IsCutShort, with_text}
use Rattle.nt_tools.specs.Printing.{number_of}

-- whether a list has no item
abbrev pub is_empty : {X : Type 0} → List X → Bool
is_empty [] = true
is_empty (x ∷ xs) = false

-- ---- the lines of an input: cut at line feeds alone

-- a byte before the first line, where there is one
abbrev pub before_first : ℕ → List (List ℕ) → List (List ℕ)
before_first b [] = []
before_first b (line ∷ lines) = (b ∷ line) ∷ lines

-- the lines that end with a line feed, without it
abbrev pub whole_lines : List ℕ → List (List ℕ)
whole_lines [] = []
whole_lines (b ∷ bytes) = if is_feed b then [] ∷ whole_lines bytes else before_first b (whole_lines bytes)

-- what is after the last line feed
abbrev pub last_line : List ℕ → List ℕ
last_line [] = []
last_line (b ∷ bytes) =
    if is_feed b then last_line bytes
    else if is_empty (whole_lines bytes) then b ∷ bytes
    else last_line bytes

-- of a line that is too long, by its number
unfoldable pub line_fault : ℕ → List ℕ
line_fault number = codes "fault line " ++ (decimal number ++ codes "\n")

-- ---- what a line says

-- how binary frames are decoded: the messages of each, up to its first fault. Frames have one meaning, so that there is
-- one decoding
abbrev pub Decoding : Type 0
Decoding = List ℕ → List ValueMsg

abbrev pub IsDecoding : Decoding → Type 0
IsDecoding decode = (bytes : List ℕ) → (fault : Option FrameFault) × Means most_value bytes (decode bytes) fault

-- the values of a binary frame, and none where its line isn't spelled as one
abbrev pub values_in : Decoding → Option (List ℕ) → List ValueMsg
values_in decode None = []
values_in decode (Some bytes) = decode bytes

-- the messages of a line, which is a text frame or a binary one
unfoldable pub line_messages : Decoding → List ℕ → List Msg
line_messages decode line =
    if is_binary line then map Put (values_in decode (hex_bytes (digits_in line))) else map Control (said_in line)

-- ---- the history: one worker with one connection, named `desk`

abbrev pub start : Start
start = record { permits = 0; saved = [] }

-- the worker and its connection
abbrev pub worker : ℕ
worker = 1

abbrev pub conn : ℕ
conn = 1

-- the history with an act that was answered, at this moment or at that of the last entry, if that is later
unfoldable pub with_act : List Entry → ℕ → Act → List Entry
with_act past now a = entry worker (moment_of (now_of start past) now) a (answer start past worker now a) ∷ past

-- the connection opens at moment 0
unfoldable pub opened : List Entry
opened = with_act [] 0 (act.Open (codes "desk") V41)

-- a question for the server's time, which is a value with the id -1, is answered at once, with this time
abbrev pub answer_to : ℕ → Msg → Option Frame
answer_to now (Put v) = if int_eq v.id (negsuc 0) then Some (clock_frame v now) else None
answer_to now (Control m) = None

abbrev pub answers_to : ℕ → List Msg → List Frame
answers_to now msgs = filter_map (answer_to now) msgs

-- the history with a message said. A question is no part of it
unfoldable pub with_message : List Entry → ℕ → Msg → List Entry
with_message past now m = if is_none (answer_to now m) then with_act past now (act.Said conn m) else past

-- the history with each of these messages in turn
unfoldable pub with_messages : List Entry → ℕ → List Msg → List Entry
with_messages past now [] = past
with_messages past now (m ∷ msgs) = with_messages (with_message past now m) now msgs

-- the most messages of one drain
abbrev pub budget : ℕ
budget = 256

-- the history with a drain
unfoldable pub with_drain : List Entry → ℕ → List Entry
with_drain past now = with_act past now (act.Drain conn budget)

-- the next batch that a drain hands
unfoldable pub batch : List Entry → ℕ → Batch
batch past now =
    messages (all_lives start past) (moment_of (now_of start past) now) conn (take budget (owed start past conn))

-- a frame as a line
abbrev pub frame_line : Frame → List ℕ
frame_line (frames.Text text) = text ++ codes "\n"
frame_line (frames.Binary bytes) = hex_line bytes

abbrev pub lines_of : List Frame → List ℕ
lines_of fs = flat_map frame_line fs

-- the frames of a batch, as lines
abbrev pub batch_lines : Batch → List ℕ
batch_lines b = lines_of (frames_in b)

-- how many messages are owed
abbrev pub count_owed : List Entry → ℕ
count_owed past = length (owed start past conn)

-- what is drained until nothing is owed, batch after batch, by at most so many drains
unfoldable pub drained : ℕ → List Entry → ℕ → List ℕ
drained zero past now = []
drained (suc k) past now =
    if is_empty (owed start past conn) then []
    else batch_lines (batch past now) ++ drained k (with_drain past now) now

-- and the history after it
unfoldable pub after_drains : ℕ → List Entry → ℕ → List Entry
after_drains zero past now = past
after_drains (suc k) past now =
    if is_empty (owed start past conn) then past else after_drains k (with_drain past now) now

-- ---- turns: a line is said at the moment of its number, which is the time that its questions are answered with, and
-- then what is owed is drained. One drain hands at least one message, so that as many drains are enough as messages are
-- owed

unfoldable pub turn_text : Decoding → List Entry → ℕ → List ℕ → List ℕ
turn_text decode past number line =
    let msgs = line_messages decode line in
    let said = with_messages past number msgs in
    lines_of (answers_to number msgs) ++ drained (count_owed said) said number

unfoldable pub after_turn : Decoding → List Entry → ℕ → List ℕ → List Entry
after_turn decode past number line =
    let said = with_messages past number (line_messages decode line) in
    after_drains (count_owed said) said number

-- ---- the reply

-- what is printed for what is after the last line feed: nothing, where that is no line
abbrev pub last_text : Decoding → List Entry → ℕ → List ℕ → List ℕ
last_text decode past number last = if is_empty last then [] else turn_text decode past number last

-- the reply at the end of the input, after its whole lines: to what is after the last line feed, if that is a line
-- and the input isn't past the limit
abbrev pub last_reply : Decoding → List Entry → ℕ → List ℕ → Bool → Reply
last_reply decode past number last beyond =
    if nat_lt most_line (length last) then record { status = 1; text = line_fault number }
    else if beyond then record { status = 1; text = too_long }
    else record { status = 0; text = last_text decode past number last }

-- the reply to whole lines from a number on, and to what is after them, up to the first line that is too long
abbrev pub lines_reply : Decoding → List Entry → ℕ → List (List ℕ) → List ℕ → Bool → Reply
lines_reply decode past number [] last beyond = last_reply decode past number last beyond
lines_reply decode past number (line ∷ lines) last beyond =
    if nat_lt most_line (length line) then record { status = 1; text = line_fault number }
    else with_text (turn_text decode past number line)
    (lines_reply decode (after_turn decode past number line) (number + 1) lines last beyond)

-- the reply to the bytes from a line on, of which so many may be read
unfoldable pub reply_within : Decoding → ℕ → List Entry → ℕ → List ℕ → Reply
reply_within decode room past number bytes =
    lines_reply decode past number (whole_lines (take room bytes)) (last_line (take room bytes))
    (nat_lt room (length bytes))

-- the reply of the desk to a source that has these bytes left
unfoldable pub desk_reply : Decoding → List ℕ → Reply
desk_reply decode bytes = reply_within decode most_bytes opened 1 bytes

-- the desk replies so to these bytes
pub record RepliesAtDesk (bytes : List ℕ) (reply : Reply) : Type 0 where
  pub decode : Decoding
  pub is_decoding : IsDecoding decode
  pub reply_is : reply ≡ desk_reply decode bytes

-- ---- what a desk took of its source, and what stands printed when it stops

-- the desk replies so to the bytes that it took of the source: all that were left where the status is 0, and never more
-- than a tool reads, but for a piece
pub record RepliesToTaken (before now : Option (List ℕ)) (reply : Reply) : Type 0 where
  pub bytes : List ℕ
  pub taken : Consumes before now bytes
  pub ended : reply.status ≡ 0 → IsAtEnd now
  pub bounded : length bytes ≤ most_bytes + piece_bytes
  pub replies : RepliesAtDesk bytes reply

-- a prefix of the reply to the bytes that were taken was printed
pub record DeskBegun (before now out_before out_now : Option (List ℕ)) : Type 0 where
  pub bytes : List ℕ
  pub taken : Consumes before now bytes
  pub reply : Reply
  pub replies : RepliesAtDesk bytes reply
  pub printed : IsPrefix reply out_before out_now

-- printing stopped in the midst of the reply to the bytes that were taken
pub record DeskBroken (before now out_before out_now : Option (List ℕ)) : Type 0 where
  pub bytes : List ℕ
  pub taken : Consumes before now bytes
  pub reply : Reply
  pub replies : RepliesAtDesk bytes reply
  pub printed : IsCutShort reply out_before out_now

-- the reply by what was taken of the source was given so far, by the result
abbrev pub EndsDesk : Option (List ℕ) → Option (List ℕ) → Option (List ℕ) → Option (List ℕ) → Result Status ToolFault
    → Type 0
EndsDesk before now out_before out_now (Ok status) =
    (reply : Reply) × RepliesToTaken before now reply × IsGiven reply (number_of status) out_before out_now
EndsDesk before now out_before out_now (Err Memory) = DeskBegun before now out_before out_now
EndsDesk before now out_before out_now (Err Read) = DeskBegun before now out_before out_now
EndsDesk before now out_before out_now (Err Write) = DeskBroken before now out_before out_now
