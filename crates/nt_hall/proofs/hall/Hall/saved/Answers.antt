use Rattle.nt_hall.proofs.Turning.{save-value}
use Rattle.nt_hall.proofs.hall.Hall.saved.Goals as goal

pub returns-clause-saved : goal.returns-clause-saved
returns-clause-saved g c = save-value g.row.S.Denot _ _ _ _ _ c.turn.ensures
