use Rattle.std.proofs.Common.{◌≡◌, None, Some}
use Rattle.nt_cli.specs.Desk.{start, answer_to}
use Rattle.nt_cli.proofs.DeskSteps.{connected-said, connected-asked}
use Rattle.nt_cli.proofs.turn.say.Goals as goal

pub returns-in-Some-clause-connected : goal.returns-in-Some-clause-connected
returns-in-Some-clause-connected c = λ past connected.
    let is : Some c.in-Some.answer ≡ answer_to c.args.moment c.args.msg =
    rw c.in-Some.is at c.in_ok-answer.ensures in connected-asked past _ _ _ _ is connected

pub returns-clause-connected : goal.returns-clause-connected
returns-clause-connected c = λ past connected.
    let is : None ≡ answer_to c.args.moment c.args.msg = rw c.in_default.is at c.in_ok-answer.ensures in
    connected-said past _ _ _ _ _ _ is connected (c.in_ok-step.ensures.steps start past connected.represents)
