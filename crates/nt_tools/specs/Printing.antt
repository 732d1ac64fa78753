-- What stands printed where a tool ended.
use Rattle.std.specs.Prelude.{◌≡◌, ℕ, ◌<◌, List, ◌++◌, length, Result, Ok, Err, Option}
use Rattle.std.specs.Io.KnownBytes.{Appends}
use Rattle.nt_tools.specs.declared.status.Status.{Status}
use Rattle.nt_tools.specs.declared.status.Status.TheVariants as statuses
use Rattle.nt_tools.specs.declared.status.ToolFault.{ToolFault}
use Rattle.nt_tools.specs.declared.status.ToolFault.TheVariants.{Memory, Read, Write}
use Rattle.nt_tools.specs.Reply.{Reply, IsGiven, IsPrefix, IsCutShort}

-- the number of a status
abbrev pub number_of : Status → ℕ
number_of statuses.Done = 0
number_of statuses.Fault = 1
number_of statuses.Usage = 2
number_of statuses.Memory = 3
number_of statuses.Failed = 4

-- ---- printing a text

-- a text as a reply, of which the text alone matters
abbrev pub printing : List ℕ → Reply
printing text = record { status = 0; text = text }

-- all of a text was printed, or a prefix of it for want of memory, or a write failed in the midst of it
abbrev pub Prints : List ℕ → Option (List ℕ) → Option (List ℕ) → Result (Unit {0}) ToolFault → Type 0
Prints text before now (Ok done) = Appends before now text
Prints text before now (Err Memory) = IsPrefix (printing text) before now
Prints text before now (Err Read) = ⊥
Prints text before now (Err Write) = IsCutShort (printing text) before now

-- ---- printing line by line

-- these lines were printed, but for this rest of them
pub record HasPrinted (lines rest : List ℕ) (before now : Option (List ℕ)) : Type 0 where
  pub printed : List ℕ
  pub whole : lines ≡ printed ++ rest
  pub appended : Appends before now printed

-- these lines were printed, but for a rest, where the tool stopped so; where a write failed some of them are wanting
pub record HasStopped (lines : List ℕ) (e : ToolFault) (before now : Option (List ℕ)) : Type 0 where
  pub rest : List ℕ
  pub left : e ≡ Write → 0 < length rest
  pub printed : HasPrinted lines rest before now

-- ---- giving a reply

-- the reply was given, or a prefix of it was printed for want of memory, or a write failed in the midst of it
abbrev pub GivesReply : Reply → Option (List ℕ) → Option (List ℕ) → Result Status ToolFault → Type 0
GivesReply reply before now (Ok status) = IsGiven reply (number_of status) before now
GivesReply reply before now (Err Memory) = IsPrefix reply before now
GivesReply reply before now (Err Read) = ⊥
GivesReply reply before now (Err Write) = IsCutShort reply before now

-- the reply was given, or a prefix of it was printed where the tool stopped
abbrev pub Follows : Reply → Option (List ℕ) → Option (List ℕ) → Result Status ToolFault → Type 0
Follows reply before now (Ok status) = IsGiven reply (number_of status) before now
Follows reply before now (Err fault) = IsPrefix reply before now
