use Rattle.nt_laws.proofs.metas.RowOrder.{rows-stay}
use Rattle.nt_laws.proofs.meta.rows_in_order_stay.Goals as goal

pub returns : goal.returns
returns c = rows-stay
