use Rattle.nt_cli.proofs.DeskTurns.{turn-leaves}
use Rattle.nt_cli.proofs.laws.nothing_is_owed_after_a_turn.Goals as goal

pub returns : goal.returns
returns c = turn-leaves
