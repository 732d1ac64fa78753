use Rattle.std.proofs.Common.{arith}
use Rattle.std.proofs.lemmas.List.{take_all}
use Rattle.wpilog_read.proofs.whole.read_pieces.Goals as goal

pub returns-clause-meaning : goal.returns-clause-meaning
returns-clause-meaning c =
    let stands = rw (take_all c.loop-piece.piece-index c.args.pieces.now (omega arith)) at c.loop-piece.invariant.stands
    in
    rw (c.err.ensures.value, c.in_ok-extra.ensures) (c.finish.ensures.meaning _ _ stands)

pub returns-clause-only : goal.returns-clause-only
returns-clause-only c = λ extra items fault means.
    let stands = rw (take_all c.loop-piece.piece-index c.args.pieces.now (omega arith)) at c.loop-piece.invariant.stands
    in
    rw (c.err.ensures.value, c.in_ok-extra.ensures) (c.finish.ensures.only _ extra _ items fault stands means)
