use Rattle.nt_session.proofs.Order.{laid-whole, laid-fit}
use Rattle.nt_session.proofs.laws.values_are_laid_in_order.Goals as goal

pub returns : goal.returns
returns c = record { whole = laid-whole; fit = laid-fit }
