-- A tool that reads a log piece by piece, in the midst of its work.
use Rattle.std.specs.Prelude.{◌≡◌, ℕ, ◌+◌, ◌<◌, ◌≤◌, Bool, true, List, [], ◌++◌, length, Option, Some, unwrap_or}
use Rattle.std.specs.Io.KnownBytes.{Consumes, IsAtEnd}
use Rattle.wpilog_read.specs.declared.item_at.ItemAt.{ItemAt}
use Rattle.wpilog_read.specs.declared.fault.LogFault.{LogFault}
use Rattle.wpilog_read.specs.Run.{Reading, Stands}
use Rattle.nt_log_tools.specs.declared.command.LogTool.{LogTool}
use Rattle.nt_log_tools.specs.declared.command.LogTool.TheVariants.{Check, Show}
use Rattle.nt_log_tools.specs.declared.input.Came.{Came}
use Rattle.nt_log_tools.specs.declared.input.Came.TheVariants.{Bytes, Beyond, End}
use Rattle.nt_log_tools.specs.declared.log_end.LogEnd.{LogEnd}
use Rattle.nt_log_tools.specs.declared.log_end.LogEnd.TheVariants.{Whole, TooLong}
use Rattle.nt_tools.specs.declared.status.ToolFault.{ToolFault}
use Rattle.nt_tools.specs.Input.{most_bytes, piece_bytes, Took, MayFollow}
use Rattle.nt_tools.specs.Printing.{HasPrinted, HasStopped}
use Rattle.nt_log_tools.specs.ItemLines.{placed_line}
use Rattle.nt_log_tools.specs.LogTools.{Finds, lines_of, end_here, end_known}

-- ---- printing

-- what the tool prints of one item
abbrev pub line_of : LogTool → ItemAt → List ℕ
line_of Check x = []
line_of Show x = placed_line x

-- ---- the items so far

-- a reader that was fed these bytes gave so many items, whose lines are printed but for this rest
pub record HasFound (tool : LogTool) (bytes : List ℕ) (reader : Reading) (count : ℕ) (rest : List ℕ)
    (before now : Option (List ℕ)) : Type 0 where
  pub items : List ItemAt
  pub stands : Stands bytes items reader
  pub count_is : length items ≡ count
  pub printed : HasPrinted (lines_of tool items) rest before now

-- a reader that was fed these bytes gave items, in printing whose lines the tool stopped so
pub record StopsAt (tool : LogTool) (bytes : List ℕ) (e : ToolFault) (before now : Option (List ℕ)) : Type 0 where
  pub items : List ItemAt
  pub reader : Reading
  pub stands : Stands bytes items reader
  pub stopped : HasStopped (lines_of tool items) e before now

-- ---- the source

-- of the bytes that came the first were kept, as many as may still be read, and others are left over: bytes within the
-- limit, or more than that, or the end
abbrev pub HasCome : Came → List ℕ → List ℕ → ℕ → Option (List ℕ) → Type 0
HasCome Bytes kept over room now = (0 < length kept) × (over ≡ [])
HasCome Beyond kept over room now = (room ≡ 0) × (0 < length over)
HasCome End kept over room now = (kept ≡ []) × (over ≡ []) × IsAtEnd now

-- what came of the source in one read went to the reader, as much as may still be read
pub record Feeds (came : Came) (before now : Option (List ℕ)) (old new : Reading) (old_room new_room : ℕ)
    : Type 0 where
  pub fed : List ℕ
  pub over : List ℕ
  pub consumes : Consumes before now (fed ++ over)
  pub size : length (fed ++ over) ≤ piece_bytes
  pub room : old_room ≡ length fed + new_room
  pub has_come : HasCome came fed over new_room now
  pub stands : (bytes : List ℕ) (items : List ItemAt) → Stands bytes items old → Stands (bytes ++ fed) items new
  pub at : new.at ≡ old.at

-- how a log ends, where that is known, by what came of the source and the fault of what was read, or none
abbrev pub end_by : Came → Option LogFault → Option LogEnd
end_by Bytes fault = end_known fault
end_by Beyond fault = Some (unwrap_or (end_known fault) TooLong)
end_by End fault = Some (end_here fault)

-- ---- the whole log

-- the tool took bytes of the source, and by them and whatever follows the log ends so, after so many items, whose lines
-- are printed but for this rest; a whole log has so many bytes
pub record ReadsLog (tool : LogTool) (before now : Option (List ℕ)) (end : LogEnd) (count size : ℕ) (rest : List ℕ)
    (out_before out_now : Option (List ℕ)) : Type 0 where
  pub taken : List ℕ
  pub all : Bool
  pub items : List ItemAt
  pub took : Took before now taken all
  pub ended : end ≡ Whole → all ≡ true
  pub bounded : length taken ≤ most_bytes + piece_bytes
  pub size_is : all ≡ true → length taken ≡ size
  pub finds : (more : List ℕ) → MayFollow all more → Finds (taken ++ more) items end
  pub count_is : length items ≡ count
  pub printed : HasPrinted (lines_of tool items) rest out_before out_now

-- the tool took bytes of the source and stopped so in the midst of their items
pub record StopsReading (tool : LogTool) (before now : Option (List ℕ)) (e : ToolFault)
    (out_before out_now : Option (List ℕ)) : Type 0 where
  pub fed : List ℕ
  pub over : List ℕ
  pub consumes : Consumes before now (fed ++ over)
  pub within : length fed ≤ most_bytes
  pub bounded : length (fed ++ over) ≤ most_bytes + piece_bytes
  pub stops : StopsAt tool fed e out_before out_now
