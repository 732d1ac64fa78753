use Rattle.std.proofs.Common.{◌<◌, ◌≤◌, arith}
use Rattle.std.proofs.lemmas.Result.{err_from_is_err_and}
use Rattle.nt_values.specs.Types.{size_of}
use Rattle.nt_frames.proofs.Matches.{told, fails-fault}
use Rattle.nt_frames.proofs.read.small_message_of.Goals as goal

pub returns-in_err-message-clause-fault : goal.returns-in_err-message-clause-fault
returns-in_err-message-clause-fault c =
    let p = err_from_is_err_and c.from_residual.result c.from_residual.ensures.1 in
    rw (p.1, p.2) (fails-fault c.args.most c.args.bytes.now _ c.in_err-message.ensures)

pub returns-then-size-most-clause-fault : goal.returns-then-size-most-clause-fault
returns-then-size-most-clause-fault c =
    let m = told c.args.bytes.now c.in_ok-message.rest.now c.in_ok-message.message c.in_ok-message.ensures in
    let large : c.args.most < size_of c.in_ok-message.message.value = omega
    (arith, c.size.ensures, c.if-size-most.true) in
    (c.in_ok-message.message, m.0, c.in_ok-message.rest.now, m.1, m.2, large)

pub returns-clause-message : goal.returns-clause-message
returns-clause-message c =
    let m = told c.args.bytes.now c.in_ok-message.rest.now c.in_ok-message.message c.in_ok-message.ensures in
    let small : size_of c.in_ok-message.message.value ≤ c.args.most = omega
    (arith, c.size.ensures, c.if-size-most.false) in
    (m.0, m.1, m.2, small)
