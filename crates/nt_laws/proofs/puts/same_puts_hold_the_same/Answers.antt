use Rattle.nt_laws.proofs.topics.Puts.{same-held}
use Rattle.nt_laws.proofs.puts.same_puts_hold_the_same.Goals as goal

pub returns : goal.returns
returns c = same-held
