-- The line that is printed of a log with a fault.
use Rattle.std.specs.Prelude.{ℕ, List, ◌++◌, codes}
use Rattle.std.specs.Fmt.{decimal}
use Rattle.wpilog_read.specs.declared.fault.LogFault.{LogFault}
use Rattle.wpilog_read.specs.Names.{kind_name}

-- what is wrong with a log, and where
abbrev pub fault_line : LogFault → List ℕ
fault_line fault = codes "fault " ++ (kind_name fault.kind ++ (codes " at " ++ (decimal fault.at ++ codes "\n")))
