use Rattle.wpilog_read.proofs.Grammar.{next-after, next-wrong_header, next-wanting_header}
use Rattle.wpilog_read.proofs.Units.{next-takes, next-again, next-known, known-next, wanting-or, left-wanting}
use Rattle.wpilog_read.proofs.laws.step_is_unit.Goals as goal

pub returns-clause-header : goal.returns-clause-header
returns-clause-header c = next-after

pub returns-clause-wrong_header : goal.returns-clause-wrong_header
returns-clause-wrong_header c = next-wrong_header

pub returns-clause-wanting_header : goal.returns-clause-wanting_header
returns-clause-wanting_header c = next-wanting_header

pub returns-clause-item : goal.returns-clause-item
returns-clause-item c = λ r m x on e. let t = next-takes r m x on e in
    (t.unit, t.parts, t.is, t.at, t.offset, t.live)

pub returns-clause-read : goal.returns-clause-read
returns-clause-read c = next-again

pub returns-clause-fault : goal.returns-clause-fault
returns-clause-fault c = next-known

pub returns-clause-known : goal.returns-clause-known
returns-clause-known c = known-next

pub returns-clause-wanting : goal.returns-clause-wanting
returns-clause-wanting c = wanting-or

pub returns-clause-none : goal.returns-clause-none
returns-clause-none c = left-wanting
