use Rattle.nt_laws.proofs.metas.MetaNames.{metas-by-id, metas-found, ordered-found}
use Rattle.nt_laws.proofs.meta.metas_are_apart.Goals as goal

pub returns : goal.returns
returns c = record { by_id = metas-by-id; found = metas-found; ordered = ordered-found }
