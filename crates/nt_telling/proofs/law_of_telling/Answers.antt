use Rattle.nt_telling.proofs.Law.{law, law-server}
use Rattle.nt_telling.proofs.law_of_telling.Goals as goal

pub returns : goal.returns
returns c = record { law = law; server = law-server }
