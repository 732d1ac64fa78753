use Rattle.std.proofs.Common.{rules}
use Rattle.wpilog_read.proofs.Loops.{booleans-fail, booleans-next, booleans-end}
use Rattle.wpilog_read.proofs.value.booleans_from.Goals as goal

pub returns-in_err-truth : goal.returns-in_err-truth
returns-in_err-truth c = search (rules, booleans-fail)

pub loop-byte-preserved : goal.loop-byte-preserved
loop-byte-preserved c = search (rules, booleans-next)

pub returns : goal.returns
returns c = search (rules, booleans-end)
