use Rattle.std.proofs.Common.{◌∙◌}
use Rattle.std.proofs.lemmas.Result.{err_from_is_err_and}
use Rattle.nt_ws.proofs.Meeting.{no-memory-to-answer, fails-to-answer, welcomes, refuses}
use Rattle.nt_ws.proofs.Sides.{same-bytes, same-faults}
use Rattle.nt_ws.proofs.greeting.greet.Goals as goal

pub returns-in_err-bytes-in-Ok-clause-greets : goal.returns-in_err-bytes-in-Ok-clause-greets
returns-in_err-bytes-in-Ok-clause-greets g c =
    let p = err_from_is_err_and c.from_residual.result c.from_residual.ensures.1 in
    let taken = same-bytes g.T.Source.aside g.T.Sink.taken g.T.Sink.faults g.met.T.Stream.aside_of_reads _ _
    c.read_request.ensures.source.aside in
    rw (p.1, p.2) (no-memory-to-answer _ _ _ c.in-Ok.request c.in-Ok.ensures.head taken)

pub returns-in_err-tell-in-Ok-clause-greets : goal.returns-in_err-tell-in-Ok-clause-greets
returns-in_err-tell-in-Ok-clause-greets g c =
    let p = err_from_is_err_and c.from_residual-in_err-tell-in-Ok.result c.from_residual-in_err-tell-in-Ok.ensures.1 in
    let taken = same-bytes g.T.Source.aside g.T.Sink.taken g.T.Sink.faults g.met.T.Stream.aside_of_reads _ _
    c.read_request.ensures.source.aside in
    let faults = same-faults g.T.Source.aside g.T.Sink.taken g.T.Sink.faults g.met.T.Stream.aside_of_reads _ _
    c.read_request.ensures.source.aside in
    let tells = c.in_err-tell-in-Ok.ensures.tells in
    rw (p.1, p.2, tells.0)
    (fails-to-answer _ _ _ _ _ _ _ _ _ c.in-Ok.request _ c.in-Ok.ensures.head c.tell.ensures.left taken faults
    (c.as_bytes.ensures ∙ c.in_ok-bytes-in-Ok.ensures) tells.1)

pub returns-in_ok-tell-in-Ok-clause-greets : goal.returns-in_ok-tell-in-Ok-clause-greets
returns-in_ok-tell-in-Ok-clause-greets g c =
    let taken = same-bytes g.T.Source.aside g.T.Sink.taken g.T.Sink.faults g.met.T.Stream.aside_of_reads _ _
    c.read_request.ensures.source.aside in
    welcomes _ _ _ _ _ _ _ _ c.in-Ok.request _ c.in-Ok.ensures.head c.tell.ensures.left taken
    (c.as_bytes.ensures ∙ c.in_ok-bytes-in-Ok.ensures) c.in_ok-tell-in-Ok.ensures.tells

pub returns-in-Err-clause-greets : goal.returns-in-Err-clause-greets
returns-in-Err-clause-greets g c =
    let taken = same-bytes g.T.Source.aside g.T.Sink.taken g.T.Sink.faults g.met.T.Stream.aside_of_reads _ _
    c.read_request.ensures.source.aside in
    let faults = same-faults g.T.Source.aside g.T.Sink.taken g.T.Sink.faults g.met.T.Stream.aside_of_reads _ _
    c.read_request.ensures.source.aside in
    refuses _ _ _ _ _ _ _ _ _ c.in-Err.fault _ c.tell-in-Err.result c.in-Err.ensures.head
    c.tell-in-Err.ensures.left taken faults c.refusal_of.ensures c.tell-in-Err.ensures.tells
