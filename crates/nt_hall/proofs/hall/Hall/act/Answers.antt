use Rattle.nt_hall.proofs.Turning.{acted}
use Rattle.nt_hall.proofs.hall.Hall.act.Goals as goal

pub returns-clause-acted : goal.returns-clause-acted
returns-clause-acted g c = acted g.row.S.Denot _ _ _ _ _ _ c.turn.ensures
