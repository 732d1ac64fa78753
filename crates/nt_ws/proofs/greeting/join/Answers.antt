use Rattle.std.proofs.Common.{◌∙◌}
use Rattle.nt_ws.proofs.Meeting.{joins}
use Rattle.nt_ws.proofs.Sides.{same-bytes}
use Rattle.nt_ws.proofs.greeting.join.Goals as goal

pub returns-clause-joins : goal.returns-clause-joins
returns-clause-joins g c =
    let taken = same-bytes g.T.Source.aside g.T.Sink.taken g.T.Sink.faults g.met.T.Stream.aside_of_reads _ _
    c.read_answer.ensures.source.aside in
    joins (record { host = c.args.host.now; name = c.args.name.now; nonce = c.args.key.now }) _ _ _ _ _ _ _ _ _
    c.read_answer.result c.tell.ensures.left taken
    (c.as_bytes.ensures ∙ c.in_ok-request.ensures) c.in_ok-tell.ensures.tells c.read_answer.ensures.head
