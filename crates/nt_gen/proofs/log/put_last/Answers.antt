use Rattle.nt_gen.specs.Parts.{last_record}
use Rattle.nt_gen.proofs.log.put_last.Goals as goal

pub returns-clause-bytes : goal.returns-clause-bytes
unfolding last_record
returns-clause-bytes c = rw c.from-time.ensures at c.put.ensures.bytes

pub returns-clause-len : goal.returns-clause-len
unfolding last_record
returns-clause-len c = rw c.from-time.ensures at c.put.ensures.len
