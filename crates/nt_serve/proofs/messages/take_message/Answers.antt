use Rattle.std.proofs.Common.{◌≡◌, Some, None, inl}
use Rattle.nt_serve.specs.Rounds.{reply_to}
use Rattle.nt_serve.proofs.Moving.{moves-none, moves-sent, moves-acted, moves-failed}
use Rattle.nt_serve.proofs.Taking.{cut-memory, cut-link, cut-failed, reply-taken, said-taken}
use Rattle.nt_serve.proofs.messages.take_message.Goals as goal

pub returns-in_err-answer-clause-cut : goal.returns-in_err-answer-clause-cut
returns-in_err-answer-clause-cut g c = cut-memory c.from_residual.result _ c.from_residual.ensures.1

pub returns-in_err-send-clause-cut : goal.returns-in_err-send-clause-cut
returns-in_err-send-clause-cut g c =
    cut-link c.from_residual-in_err-send.result c.in_err-send.field-0.0 _ _ c.from_residual-in_err-send.ensures.1
    (moves-none _ _ _ _ _ _ _ _ c.in_err-send.ensures.coming c.in_err-send.ensures.received
    c.in_err-send.ensures.sent)

pub returns-in-Some-clause-taken : goal.returns-in-Some-clause-taken
returns-in-Some-clause-taken g c =
    let is : Some c.in-Some.answer ≡ reply_to c.now-now.result c.args.msg = rw c.in-Some.is at c.in_ok-answer.ensures in
    reply-taken _ _ _ c.now-now.result _ c.in-Some.answer is
    (moves-sent _ _ _ _ _ _ _ _ _ c.in_ok-send.ensures.coming c.in_ok-send.ensures.received
    c.in_ok-send.ensures.sent)

pub returns-in-Err-clause-cut : goal.returns-in-Err-clause-cut
returns-in-Err-clause-cut g c = cut-failed _ _ (moves-failed _ _ _ _ _ _ (inl c.in-Err.ensures.refused))

pub returns-in-Ok-clause-taken : goal.returns-in-Ok-clause-taken
returns-in-Ok-clause-taken g c =
    let is : None ≡ reply_to c.now-now.result c.args.msg = rw c.in_default.is at c.in_ok-answer.ensures in
    said-taken _ _ _ c.now-now.result _ c.in-Ok.out is
    (moves-acted _ _ _ _ _ _ _ _ _ _ c.in-Ok.ensures.acted c.ignored_after.ensures)
