-- What the tools reply.
use Rattle.std.specs.Prelude.{◌≡◌, ℕ, Bool, true, false, List, Option, None, Some, Result, Ok, Err}
use Rattle.std.specs.Io.KnownBytes.{Keeps, Appends}
use Rattle.nt_cli.specs.declared.words.Tool.{Tool}
use Rattle.nt_cli.specs.declared.words.Tool.TheVariants.{Log, Desk, Gen}
use Rattle.nt_tools.specs.declared.status.Status.{Status}
use Rattle.nt_tools.specs.declared.status.ToolFault.{ToolFault}
use Rattle.nt_tools.specs.declared.status.ToolFault.TheVariants.{Memory, Read, Write}
use Rattle.nt_tools.specs.Reply.{Reply, IsGiven, IsPrefix, IsCutShort}
use Rattle.nt_cli.specs.Words.{tool_of}
use Rattle.nt_cli.specs.Lines.{usage}
use Rattle.nt_tools.specs.Printing.{number_of, printing}
use Rattle.wpilog_write.specs.Written.{IsCut}
use Rattle.nt_gen.specs.Generated.{generated, gen_reply}
use Rattle.nt_log_tools.specs.LogTools.{IsReply, RepliesToSource, StopsLog, HasBroken, EndsLog}
use Rattle.nt_cli.specs.Desk.{RepliesAtDesk, RepliesToTaken, DeskBegun, DeskBroken, EndsDesk}

-- ---- what a tool touches

-- whether it reads its source
abbrev pub reads : Option Tool → Bool
reads None = false
reads (Some (Log tool)) = true
reads (Some Desk) = true
reads (Some (Gen seed count)) = false

-- whether it writes its sink
abbrev pub writes : Option Tool → Bool
writes None = false
writes (Some (Log tool)) = false
writes (Some Desk) = false
writes (Some (Gen seed count)) = true

-- ---- all words

-- the reply to words that no tool has
abbrev pub usage_reply : Reply
usage_reply = record { status = 2; text = usage }

-- the reply to words with this tool or none, where the source has these bytes left
abbrev pub RepliesBy : Option Tool → List ℕ → Reply → Type 0
RepliesBy None bytes reply = reply ≡ usage_reply
RepliesBy (Some (Log tool)) bytes reply = IsReply tool bytes reply
RepliesBy (Some Desk) bytes reply = RepliesAtDesk bytes reply
RepliesBy (Some (Gen seed count)) bytes reply = reply ≡ gen_reply seed count

-- the reply to these words where the source has these bytes left
abbrev pub Replies : List (List ℕ) → List ℕ → Reply → Type 0
Replies words bytes reply = RepliesBy (tool_of words) bytes reply

-- the reply to words with this tool or none, by what was taken of the source
abbrev pub DecidesBy : Option Tool → Option (List ℕ) → Option (List ℕ) → Reply → Type 0
DecidesBy None before now reply = (now ≡ before) × (reply ≡ usage_reply)
DecidesBy (Some (Log tool)) before now reply = RepliesToSource tool before now reply
DecidesBy (Some Desk) before now reply = RepliesToTaken before now reply
DecidesBy (Some (Gen seed count)) before now reply = (now ≡ before) × (reply ≡ gen_reply seed count)

-- the reply to these words by what was taken of the source
abbrev pub Decides : List (List ℕ) → Option (List ℕ) → Option (List ℕ) → Reply → Type 0
Decides words before now reply = DecidesBy (tool_of words) before now reply

-- ---- what becomes of a reply

-- what stands printed for want of memory: nothing, or, where a tool prints as it goes, a prefix of the reply
abbrev pub StopsBy : Option Tool → Option (List ℕ) → Option (List ℕ) → Option (List ℕ) → Option (List ℕ) → Type 0
StopsBy None before now out_before out_now = Keeps out_before out_now
StopsBy (Some (Log tool)) before now out_before out_now = StopsLog tool before now out_before out_now
StopsBy (Some Desk) before now out_before out_now = DeskBegun before now out_before out_now
StopsBy (Some (Gen seed count)) before now out_before out_now = Keeps out_before out_now

-- the same of these words
abbrev pub Stops : List (List ℕ) → Option (List ℕ) → Option (List ℕ) → Option (List ℕ) → Option (List ℕ) → Type 0
Stops words before now out_before out_now = StopsBy (tool_of words) before now out_before out_now

-- what stands printed where a read failed: nothing, or, where a tool prints as it goes, a prefix of the reply. A tool
-- that reads nothing has no read that fails
abbrev pub UnreadBy : Option Tool → Option (List ℕ) → Option (List ℕ) → Option (List ℕ) → Option (List ℕ) → Type 0
UnreadBy None before now out_before out_now = Keeps out_before out_now
UnreadBy (Some (Log tool)) before now out_before out_now = StopsLog tool before now out_before out_now
UnreadBy (Some Desk) before now out_before out_now = DeskBegun before now out_before out_now
UnreadBy (Some (Gen seed count)) before now out_before out_now = ⊥

-- the same of these words
abbrev pub Unread : List (List ℕ) → Option (List ℕ) → Option (List ℕ) → Option (List ℕ) → Option (List ℕ) → Type 0
Unread words before now out_before out_now = UnreadBy (tool_of words) before now out_before out_now

-- what stands printed where a write of the output failed: a prefix of the reply that isn't all of it
abbrev pub UnwrittenBy : Option Tool → Option (List ℕ) → Option (List ℕ) → Option (List ℕ) → Option (List ℕ) → Type 0
UnwrittenBy None before now out_before out_now = (reply : Reply) × DecidesBy None before now reply
    × IsCutShort reply out_before out_now
UnwrittenBy (Some (Log tool)) before now out_before out_now = HasBroken tool before now out_before out_now
UnwrittenBy (Some Desk) before now out_before out_now = DeskBroken before now out_before out_now
UnwrittenBy (Some (Gen seed count)) before now out_before out_now = (now ≡ before)
    × IsCutShort (gen_reply seed count) out_before out_now

-- the same of these words
abbrev pub Unwritten : List (List ℕ) → Option (List ℕ) → Option (List ℕ) → Option (List ℕ) → Option (List ℕ) → Type 0
Unwritten words before now out_before out_now = UnwrittenBy (tool_of words) before now out_before out_now

-- the reply to words that no tool has was given so far, by the result
abbrev pub EndsUsage : Option (List ℕ) → Option (List ℕ) → Option (List ℕ) → Option (List ℕ) → Result Status ToolFault
    → Type 0
EndsUsage before now out_before out_now (Ok status) = (now ≡ before)
    × IsGiven usage_reply (number_of status) out_before out_now
EndsUsage before now out_before out_now (Err Memory) = Keeps out_before out_now
EndsUsage before now out_before out_now (Err Read) = Keeps out_before out_now
EndsUsage before now out_before out_now (Err Write) = (now ≡ before) × IsCutShort usage_reply out_before out_now

-- the summary of a log that was made was given so far, by the result
abbrev pub EndsGen : ℕ → ℕ → Option (List ℕ) → Option (List ℕ) → Option (List ℕ) → Option (List ℕ)
    → Result Status ToolFault → Type 0
EndsGen seed count before now out_before out_now (Ok status) = (now ≡ before)
    × IsGiven (gen_reply seed count) (number_of status) out_before out_now
EndsGen seed count before now out_before out_now (Err Memory) = Keeps out_before out_now
EndsGen seed count before now out_before out_now (Err Read) = ⊥
EndsGen seed count before now out_before out_now (Err Write) = (now ≡ before)
    × IsPrefix (gen_reply seed count) out_before out_now

-- what becomes of the reply to words with this tool or none, by the result
abbrev pub EndsBy : Option Tool → Option (List ℕ) → Option (List ℕ) → Option (List ℕ) → Option (List ℕ)
    → Result Status ToolFault → Type 0
EndsBy None before now out_before out_now result = EndsUsage before now out_before out_now result
EndsBy (Some (Log tool)) before now out_before out_now result = EndsLog tool before now out_before out_now result
EndsBy (Some Desk) before now out_before out_now result = EndsDesk before now out_before out_now result
EndsBy (Some (Gen seed count)) before now out_before out_now result =
    EndsGen seed count before now out_before out_now result

-- the same of these words
abbrev pub Ends : List (List ℕ) → Option (List ℕ) → Option (List ℕ) → Option (List ℕ) → Option (List ℕ)
    → Result Status ToolFault → Type 0
Ends words before now out_before out_now result = EndsBy (tool_of words) before now out_before out_now result

-- ---- what a tool writes into its sink

-- all that it writes: a log, or nothing
abbrev pub WroteBy : Option Tool → Option (List ℕ) → Option (List ℕ) → Type 0
WroteBy None before now = now ≡ before
WroteBy (Some (Log tool)) before now = now ≡ before
WroteBy (Some Desk) before now = now ≡ before
WroteBy (Some (Gen seed count)) before now = Appends before now (generated seed count)

-- the same of these words
abbrev pub Wrote : List (List ℕ) → Option (List ℕ) → Option (List ℕ) → Type 0
Wrote words before now = WroteBy (tool_of words) before now

-- a prefix of it, which may be nothing or all
abbrev pub WroteSomeBy : Option Tool → Option (List ℕ) → Option (List ℕ) → Type 0
WroteSomeBy None before now = now ≡ before
WroteSomeBy (Some (Log tool)) before now = now ≡ before
WroteSomeBy (Some Desk) before now = now ≡ before
WroteSomeBy (Some (Gen seed count)) before now = IsPrefix (printing (generated seed count)) before now

-- the same of these words
abbrev pub WroteSome : List (List ℕ) → Option (List ℕ) → Option (List ℕ) → Type 0
WroteSome words before now = WroteSomeBy (tool_of words) before now

-- where a write of the sink failed, a prefix that isn't all of it, and nothing is printed
abbrev pub CutBy : Option Tool → Option (List ℕ) → Option (List ℕ) → Option (List ℕ) → Option (List ℕ) → Type 0
CutBy None before now out_before out_now = ⊥
CutBy (Some (Log tool)) before now out_before out_now = ⊥
CutBy (Some Desk) before now out_before out_now = ⊥
CutBy (Some (Gen seed count)) before now out_before out_now = IsCut (generated seed count) before now
    × Keeps out_before out_now

-- the same of these words
abbrev pub Cut : List (List ℕ) → Option (List ℕ) → Option (List ℕ) → Option (List ℕ) → Option (List ℕ) → Type 0
Cut words before now out_before out_now = CutBy (tool_of words) before now out_before out_now
