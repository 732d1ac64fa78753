use Rattle.std.proofs.Common.{◌<◌, ◌≤◌, length, arith}
use Rattle.std.proofs.lemmas.Result.{err_from_is_err_and}
use Rattle.nt_ws.specs.Ends.{most_bytes}
use Rattle.nt_ws.proofs.Lines.{none-read, none-left, too-many, no-memory}
use Rattle.nt_ws.proofs.head.read_head.Goals as goal

pub returns-in_err-push-in-Ok-Some-clause-none : goal.returns-in_err-push-in-Ok-Some-clause-none
returns-in_err-push-in-Ok-Some-clause-none g c =
    let few : length c.loop-source.head.bytes.items < most_bytes = omega
    (arith, c.loop-source.head.bytes.ok.0, c.len.ensures, c.loop-source-test.true) in
    let taken = rw (c.in-Ok-Some.field-0-is) at c.in-Ok-Some.ensures.byte in
    let p = err_from_is_err_and c.from_residual.result c.from_residual.ensures.1 in
    rw (p.1, p.2) (no-memory _ _ _ _ _ _ c.in-Ok-Some.byte c.loop-source.invariant.0 few taken)

pub returns-in-Ok-None-clause-none : goal.returns-in-Ok-None-clause-none
returns-in-Ok-None-clause-none g c =
    let few : length c.loop-source.head.bytes.items < most_bytes = omega
    (arith, c.loop-source.head.bytes.ok.0, c.len.ensures, c.loop-source-test.true) in
    let at-end = rw (c.in-Ok-None.field-0-is) at c.in-Ok-None.ensures.end in
    none-left _ _ _ _ _ _ c.loop-source.invariant.0 few at-end.0 at-end.1

pub returns-in-Err-clause-none : goal.returns-in-Err-clause-none
returns-in-Err-clause-none g c =
    let few : length c.loop-source.head.bytes.items < most_bytes = omega
    (arith, c.loop-source.head.bytes.ok.0, c.len.ensures, c.loop-source-test.true) in
    none-read _ _ _ _ _ _ c.loop-source.invariant.0 few c.in-Err.ensures.failed.0

pub returns-clause-none : goal.returns-clause-none
returns-clause-none g c =
    let many : most_bytes ≤ length c.loop-source.head.bytes.items = omega
    (arith, c.loop-source.head.bytes.ok.0, c.len.ensures, c.loop-source-test.false) in
    too-many _ _ _ _ _ c.loop-source.invariant.0 many
