-- What the tools that read a log reply.
use Rattle.std.specs.Prelude.{◌≡◌, ℕ, ◌+◌, ◌≤◌, nat_le, Bool, true, false, List, [], ◌++◌, length, take, Option, None, Some, unwrap_or, Result, Ok, Err, if◌then◌else◌}
use Rattle.std.specs.Io.KnownBytes.{Keeps}
use Rattle.wpilog_read.specs.declared.item_at.ItemAt.{ItemAt}
use Rattle.wpilog_read.specs.declared.fault.LogFault.{LogFault}
use Rattle.wpilog_read.specs.declared.fault.LogKind.{LogKind}
use Rattle.wpilog_read.specs.declared.fault.LogKind.TheVariants.{Truncated}
use Rattle.wpilog_read.specs.Meaning.{Means}
use Rattle.nt_log_tools.specs.declared.command.LogTool.{LogTool}
use Rattle.nt_log_tools.specs.declared.command.LogTool.TheVariants.{Check, Show}
use Rattle.nt_log_tools.specs.declared.log_end.LogEnd.{LogEnd}
use Rattle.nt_log_tools.specs.declared.log_end.LogEnd.TheVariants.{Whole, Fault, TooLong}
use Rattle.nt_tools.specs.declared.status.Status.{Status}
use Rattle.nt_tools.specs.declared.status.ToolFault.{ToolFault}
use Rattle.nt_tools.specs.declared.status.ToolFault.TheVariants.{Memory, Read, Write}
use Rattle.nt_tools.specs.Reply.{Reply, IsGiven, IsPrefix, IsCutShort}
use Rattle.nt_tools.specs.Input.{most_bytes, piece_bytes, Took, MayFollow}
use Rattle.nt_tools.specs.Lines.{summary, too_long}
use Rattle.nt_log_tools.specs.Lines.{fault_line}
use Rattle.nt_log_tools.specs.ItemLines.{placed_lines}
use Rattle.nt_tools.specs.Printing.{number_of}

-- ---- how a log ends for a tool

-- a fault of this kind stays one whatever bytes follow: all but the want of bytes
abbrev pub is_known : LogKind → Bool
is_known Truncated = false
is_known kind = true

-- a log that ends here, by its fault or none
abbrev pub end_here : Option LogFault → LogEnd
end_here None = Whole
end_here (Some fault) = Fault fault

-- a log of which more may follow: its fault, if that stays
abbrev pub end_known : Option LogFault → Option LogEnd
end_known None = None
end_known (Some fault) = if is_known fault.kind then Some (Fault fault) else None

-- a log of so many bytes, by the fault of the first ones, as many as a tool reads, or none
abbrev pub end_of : ℕ → Option LogFault → LogEnd
end_of size fault = if nat_le size most_bytes then end_here fault else unwrap_or (end_known fault) TooLong

-- the items of the log in these bytes, and how it ends for a tool: what their first bytes mean, as many as a tool reads
pub record Finds (bytes : List ℕ) (items : List ItemAt) (end : LogEnd) : Type 0 where
  pub extra : Option (List ℕ)
  pub fault : Option LogFault
  pub means : Means (take most_bytes bytes) extra items fault
  pub end_is : end ≡ end_of (length bytes) fault

-- ---- the reply to the bytes of a source

-- what a tool prints of the items of a log
abbrev pub lines_of : LogTool → List ItemAt → List ℕ
lines_of Check items = []
lines_of Show items = placed_lines items

-- and after them, by how the log ends, how many items and bytes it has
abbrev pub last_line : LogTool → LogEnd → ℕ → ℕ → List ℕ
last_line Check Whole items bytes = summary items bytes
last_line Show Whole items bytes = []
last_line tool (Fault fault) items bytes = fault_line fault
last_line tool TooLong items bytes = too_long

-- the status that it then answers
abbrev pub end_status : LogEnd → ℕ
end_status Whole = 0
end_status (Fault fault) = 1
end_status TooLong = 1

-- the reply to a log of so many bytes with these items, which ends so
abbrev pub log_reply : LogTool → ℕ → List ItemAt → LogEnd → Reply
log_reply tool bytes items end = record {
  status = end_status end;
  text = lines_of tool items ++ last_line tool end (length items) bytes;
}

-- the reply of a tool to a source that has these bytes left
pub record IsReply (tool : LogTool) (bytes : List ℕ) (reply : Reply) : Type 0 where
  pub items : List ItemAt
  pub end : LogEnd
  pub finds : Finds bytes items end
  pub reply_is : reply ≡ log_reply tool (length bytes) items end

-- ---- what becomes of the reply

-- the tool replies so to what it took of the source, whatever follows: to all that was left where the status is 0, and
-- it took never more than a tool reads, but for a piece
pub record RepliesToSource (tool : LogTool) (before now : Option (List ℕ)) (reply : Reply) : Type 0 where
  pub taken : List ℕ
  pub all : Bool
  pub took : Took before now taken all
  pub ended : reply.status ≡ 0 → all ≡ true
  pub bounded : length taken ≤ most_bytes + piece_bytes
  pub replies : (more : List ℕ) → MayFollow all more → IsReply tool (taken ++ more) reply

-- a prefix of the reply was printed, to what was taken of the source and whatever follows
pub record HasBegun (tool : LogTool) (before now out_before out_now : Option (List ℕ)) : Type 0 where
  pub taken : List ℕ
  pub all : Bool
  pub took : Took before now taken all
  pub bounded : length taken ≤ most_bytes + piece_bytes
  pub begun : (more : List ℕ) → MayFollow all more → (reply : Reply) × IsReply tool (taken ++ more) reply
      × IsPrefix reply out_before out_now

-- and it isn't all of it
pub record HasBroken (tool : LogTool) (before now out_before out_now : Option (List ℕ)) : Type 0 where
  pub taken : List ℕ
  pub all : Bool
  pub took : Took before now taken all
  pub bounded : length taken ≤ most_bytes + piece_bytes
  pub broken : (more : List ℕ) → MayFollow all more → (reply : Reply) × IsReply tool (taken ++ more) reply
      × IsCutShort reply out_before out_now

-- what stands printed for want of memory, or where a read failed: nothing, or, where the tool prints as it goes, a
-- prefix of the reply
abbrev pub StopsLog : LogTool → Option (List ℕ) → Option (List ℕ) → Option (List ℕ) → Option (List ℕ) → Type 0
StopsLog Check before now out_before out_now = Keeps out_before out_now
StopsLog Show before now out_before out_now = HasBegun Show before now out_before out_now

-- the reply by what was taken of the source was given so far, by the result
abbrev pub EndsLog : LogTool → Option (List ℕ) → Option (List ℕ) → Option (List ℕ) → Option (List ℕ)
    → Result Status ToolFault → Type 0
EndsLog tool before now out_before out_now (Ok status) =
    (reply : Reply) × RepliesToSource tool before now reply × IsGiven reply (number_of status) out_before out_now
EndsLog tool before now out_before out_now (Err Memory) = StopsLog tool before now out_before out_now
EndsLog tool before now out_before out_now (Err Read) = StopsLog tool before now out_before out_now
EndsLog tool before now out_before out_now (Err Write) = HasBroken tool before now out_before out_now
