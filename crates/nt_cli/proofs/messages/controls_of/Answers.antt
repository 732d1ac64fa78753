use Rattle.nt_cli.proofs.LineMessages.{controls-fit}
use Rattle.nt_cli.proofs.messages.controls_of.Goals as goal

pub returns-clause-fit : goal.returns-clause-fit
returns-clause-fit c = rw c.loop-msg.invariant (controls-fit c.loop-msg.yielded)
