use Rattle.wpilog_write.proofs.Logs.{written-begun, written-more, written-cut}
use Rattle.wpilog_write.proofs.laws.writing_is_a_log.Goals as goal

pub returns-clause-begun : goal.returns-clause-begun
returns-clause-begun c = written-begun

pub returns-clause-put : goal.returns-clause-put
returns-clause-put c = written-more

pub returns-clause-cut : goal.returns-clause-cut
returns-clause-cut c = written-cut
