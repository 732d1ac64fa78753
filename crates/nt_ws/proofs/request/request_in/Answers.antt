use Rattle.std.proofs.Common.{refl, ◌∙◌, arith}
use Rattle.nt_ws.proofs.Heard.{request-says}
use Rattle.nt_ws.proofs.request.request_in.Goals as goal

pub returns : goal.returns
returns c =
    let found = rw (c.in-Ok-Complete.field-0-is) at c.in-Ok-Complete.ensures.complete in
    let within = rw (c.in-Ok-Complete.field-0-is) at c.in-Ok-Complete.ensures.within in
    request-says c.args.bytes.now c.parse_request.new.headers c.in-Ok-Complete.head found.0 c.asked.result
    c.of-2.result.now c.in-Ok.target.now c.in-Ok-Complete.head.version c.new-fields.result
    found.1 c.if-head-bytes.true (omega (arith, within.section.count_fits, c.parse_request.auto.headers)) c.of-2.ensures
    (c.in-Ok.ensures.cases.0 ∙ c.of.ensures) refl c.new-fields.ensures c.asked.ensures
