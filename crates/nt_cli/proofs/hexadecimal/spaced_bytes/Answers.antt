use Rattle.nt_cli.proofs.Hexadecimals.{spaced-more}
use Rattle.nt_cli.proofs.hexadecimal.spaced_bytes.Goals as goal

pub loop-rest-preserved : goal.loop-rest-preserved
loop-rest-preserved c =
    rw c.in_ok-push.ensures.items
    (spaced-more c.loop-rest.rest.now c.loop-rest.bytes.items c.in-Some.byte c.byte_of.result _
    c.in-len2-up.len_at_least c.if-is_blank.ensures c.byte_of.ensures c.in-Some.is
    c.loop-rest.invariant)
