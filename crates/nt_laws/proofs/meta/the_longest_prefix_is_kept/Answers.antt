use Rattle.nt_laws.proofs.metas.Prefixes.{longest-kept}
use Rattle.nt_laws.proofs.meta.the_longest_prefix_is_kept.Goals as goal

pub returns : goal.returns
returns c = longest-kept
