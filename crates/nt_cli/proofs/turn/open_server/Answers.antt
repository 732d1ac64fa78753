use Rattle.std.proofs.Common.{[]}
use Rattle.nt_cli.specs.Desk.{start}
use Rattle.nt_cli.proofs.DeskSteps.{connected-opened}
use Rattle.nt_cli.proofs.turn.open_server.Goals as goal

pub returns : goal.returns
returns c = connected-opened _ _ _ _ c.in-Ok.ensures.ok (c.in_ok-step.ensures.steps start [] c.in_ok-server.ensures)
