use Rattle.wpilog_write.proofs.Logs.{log-lawful, log-fewest}
use Rattle.wpilog_write.proofs.laws.written_logs_are_lawful.Goals as goal

pub returns-clause-lawful : goal.returns-clause-lawful
returns-clause-lawful c = log-lawful

pub returns-clause-fewest : goal.returns-clause-fewest
returns-clause-fewest c = log-fewest
