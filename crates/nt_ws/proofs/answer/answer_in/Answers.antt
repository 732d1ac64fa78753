use Rattle.std.proofs.Common.{arith}
use Rattle.nt_ws.proofs.Heard.{response-says}
use Rattle.nt_ws.proofs.answer.answer_in.Goals as goal

pub returns : goal.returns
returns c =
    let found = rw (c.in-Ok-Complete.field-0-is) at c.in-Ok-Complete.ensures.complete in
    let within = rw (c.in-Ok-Complete.field-0-is) at c.in-Ok-Complete.ensures.within in
    response-says c.args.key.now c.args.bytes.now c.parse_response.new.headers c.in-Ok-Complete.head found.0
    c.agreed.result
    c.new-fields.result found.1 c.if-head-bytes.true (omega
    (arith, within.section.count_fits, c.parse_response.auto.headers)) c.new-fields.ensures c.agreed.ensures
