use Rattle.wpilog_write.specs.Log.{type_named}
use Rattle.wpilog_read.proofs.Live.{at-inserted, finish-ends}
use Rattle.wpilog_read.proofs.laws.entries_are_live.Goals as goal

pub returns-clause-start : goal.returns-clause-start
returns-clause-start c = λ live time id other name typ meta. at-inserted live id (type_named typ) other

pub returns-clause-finish : goal.returns-clause-finish
returns-clause-finish c = finish-ends
