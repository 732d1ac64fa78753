use Rattle.nt_laws.proofs.topics.TakenPuts.{taken-head}
use Rattle.nt_laws.proofs.puts.the_last_taken_is_held.Goals as goal

pub returns : goal.returns
returns c = taken-head
