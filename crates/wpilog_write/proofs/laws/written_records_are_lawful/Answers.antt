use Rattle.wpilog_write.proofs.Live.{taken-may, may-taken}
use Rattle.wpilog_write.proofs.Logs.{taken-lawful, refused-unlawful, record-fewest}
use Rattle.wpilog_write.proofs.laws.written_records_are_lawful.Goals as goal

pub returns-clause-taken : goal.returns-clause-taken
returns-clause-taken c = λ live item. (taken-may live item, λ both. may-taken live item both.0 both.1)

pub returns-clause-lawful : goal.returns-clause-lawful
returns-clause-lawful c = taken-lawful

pub returns-clause-refused : goal.returns-clause-refused
returns-clause-refused c = refused-unlawful

pub returns-clause-fewest : goal.returns-clause-fewest
returns-clause-fewest c = record-fewest
