use Rattle.nt_laws.proofs.outboxes.DrainsEnd.{drain-fewer, drains-end}
use Rattle.nt_laws.proofs.history.drains_leave_nothing_owed.Goals as goal

pub returns : goal.returns
returns c = record { fewer = drain-fewer; nothing = drains-end }
