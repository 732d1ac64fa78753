use Rattle.nt_laws.proofs.topics.Puts.{greatest-held, uncached-stays}
use Rattle.nt_laws.proofs.puts.puts_leave_the_greatest.Goals as goal

pub returns : goal.returns
returns c = record { greatest = greatest-held; uncached_stays = uncached-stays }
