use Rattle.wpilog_read.proofs.Grammar.{reading-means, means-reading, means-some, means-one, kind-one, items-begin, fault-farthest, reads-prefix}
use Rattle.wpilog_read.proofs.laws.reading_is_meaning.Goals as goal

pub returns-clause-means : goal.returns-clause-means
returns-clause-means c = reading-means

pub returns-clause-reads : goal.returns-clause-reads
returns-clause-reads c = means-reading

pub returns-clause-some : goal.returns-clause-some
returns-clause-some c = means-some

pub returns-clause-one : goal.returns-clause-one
returns-clause-one c = means-one

pub returns-clause-one_kind : goal.returns-clause-one_kind
returns-clause-one_kind c = kind-one

pub returns-clause-begins : goal.returns-clause-begins
returns-clause-begins c = items-begin

pub returns-clause-longest : goal.returns-clause-longest
returns-clause-longest c = fault-farthest

pub returns-clause-prefix : goal.returns-clause-prefix
returns-clause-prefix c = reads-prefix
