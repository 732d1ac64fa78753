-- A desk at work: the history that its table stands for, and what it printed when it stopped.
use Rattle.std.specs.Prelude.{◌≡◌, ◌≤◌, ℕ, ◌+◌, Bool, true, List, [], ◌++◌, length, Result, Ok, Err, Option, None, Some}
use Rattle.std.specs.Io.KnownBytes.{Consumes, Appends}
use Rattle.nt_rules.specs.declared.act.Entry.{Entry}
use Rattle.nt_rules.specs.history.Now.{now_of, is_open_for}
use Rattle.nt_rules.specs.history.Step.{ServerState, Represents}
use Rattle.nt_tools.specs.declared.status.Status.{Status}
use Rattle.nt_tools.specs.declared.status.ToolFault.{ToolFault}
use Rattle.nt_tools.specs.declared.status.ToolFault.TheVariants.{Memory, Read, Write}
use Rattle.nt_tools.specs.LineReading.{Ahead}
use Rattle.nt_tools.specs.Reply.{Reply, IsGiven, IsPrefix, IsCutShort, with_text}
use Rattle.nt_tools.specs.Printing.{number_of}
use Rattle.nt_tools.specs.Input.{most_bytes, piece_bytes, Took, MayFollow}
use Rattle.nt_cli.specs.Desk.{Decoding, start, worker, conn, opened, reply_within}

-- the table stands for a history in which the desk's connection is open
pub record IsConnected (server : ServerState) (past : List Entry) : Type 0 where
  pub represents : Represents server start past
  pub is_there : is_open_for (now_of start past).connections worker conn ≡ true

-- ---- a desk in the midst of its work

-- where a desk stands: how frames are decoded, what is ahead of its lines, its history, and the number of the next line
pub record Progress : Type 0 where
  pub decode : Decoding
  pub ahead : Ahead
  pub past : List Entry
  pub number : ℕ

-- the reply that is still to be given, where these bytes are taken from here on
abbrev pub left_reply : Progress → List ℕ → Reply
left_reply from bytes = reply_within from.decode from.ahead.room from.past from.number (from.ahead.bytes ++ bytes)

-- where a desk begins
abbrev pub beginning : Decoding → Progress
beginning decode = record {
  decode = decode;
  ahead = record { bytes = []; room = most_bytes };
  past = opened;
  number = 1;
}

-- ---- how it ends

-- the reply was given: what was taken settles it, whatever follows
pub record Settles (from : Progress) (before now out_before out_now : Option (List ℕ)) (status : ℕ) : Type 0 where
  pub taken : List ℕ
  pub all : Bool
  pub took : Took before now taken all
  pub bounded : length from.ahead.bytes + length taken ≤ from.ahead.room + piece_bytes
  pub finished : status ≡ 0 → all ≡ true
  pub given : (more : List ℕ) → MayFollow all more → IsGiven (left_reply from (taken ++ more)) status out_before out_now

-- a prefix of the reply was printed
pub record Stops (from : Progress) (before now out_before out_now : Option (List ℕ)) : Type 0 where
  pub taken : List ℕ
  pub all : Bool
  pub took : Took before now taken all
  pub prefix : (more : List ℕ) → MayFollow all more → IsPrefix (left_reply from (taken ++ more)) out_before out_now

-- a prefix of the reply was printed that isn't all of it
pub record Breaks (from : Progress) (before now out_before out_now : Option (List ℕ)) : Type 0 where
  pub taken : List ℕ
  pub all : Bool
  pub took : Took before now taken all
  pub cut : (more : List ℕ) → MayFollow all more → IsCutShort (left_reply from (taken ++ more)) out_before out_now

-- by the status, or by what failed
abbrev pub Ends : Progress → Option (List ℕ) → Option (List ℕ) → Option (List ℕ) → Option (List ℕ)
    → Result Status ToolFault → Type 0
Ends from before now out_before out_now (Ok status) = Settles from before now out_before out_now (number_of status)
Ends from before now out_before out_now (Err Memory) = Stops from before now out_before out_now
Ends from before now out_before out_now (Err Read) = Stops from before now out_before out_now
Ends from before now out_before out_now (Err Write) = Breaks from before now out_before out_now

-- ---- how it goes on

-- a text was printed, which the reply begins with, and the rest of the reply is still to be given
pub record GoesOn (from : Progress) (before now out_before out_now : Option (List ℕ)) (server : ServerState)
    (ahead : Ahead) (number : ℕ) : Type 0 where
  pub taken : List ℕ
  pub text : List ℕ
  pub past : List Entry
  pub consumes : Consumes before now taken
  pub size : length from.ahead.bytes + length taken + ahead.room ≡ from.ahead.room + length ahead.bytes
  pub printed : Appends out_before out_now text
  pub connected : IsConnected server past
  pub same : (more : List ℕ) → left_reply from (taken ++ more) ≡ with_text text (left_reply (record {
    decode = from.decode;
    ahead = ahead;
    past = past;
    number = number;
  }) more)

-- a line was read and answered, or the desk ended
abbrev pub Turns : Progress → Option (List ℕ) → Option (List ℕ) → Option (List ℕ) → Option (List ℕ) → ServerState
    → Ahead → ℕ → Result (Option Status) ToolFault → Type 0
Turns from before now out_before out_now server ahead number (Ok None) =
    GoesOn from before now out_before out_now server ahead number
Turns from before now out_before out_now server ahead number (Ok (Some status)) =
    Ends from before now out_before out_now (Ok status)
Turns from before now out_before out_now server ahead number (Err fault) =
    Ends from before now out_before out_now (Err fault)
