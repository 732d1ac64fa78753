use Rattle.std.proofs.Common.{◌≡◌, true, inr, rules}
use Rattle.nt_serve.proofs.Moving.{moves-failed}
use Rattle.nt_serve.proofs.Turning.{moves-looked, failed-looked, heard-more, cut-by, cut-heard, cut-looked, cut-drain, whole-drained, whole-looked, ends-shut, ends-behind}
use Rattle.nt_serve.proofs.rounds.turn.Goals as goal

pub returns-in_err-hear-clause-cut : goal.returns-in_err-hear-clause-cut
returns-in_err-hear-clause-cut g c =
    cut-by c.from_residual.result c.in_err-hear.field-0.0 _ _ c.args.conn c.from_residual.ensures.1
    (cut-heard c.in_err-hear.field-0.0 _ _ c.args.conn c.in_err-hear.ensures.cut)

pub returns-then-look-clause-cut : goal.returns-then-look-clause-cut
returns-then-look-clause-cut g c =
    let more : c.in_ok-hear.field-0 ≡ true = search rules in
    cut-looked _ _ _ c.args.conn (heard-more _ _ c.args.conn c.in_ok-hear.field-0 more c.in_ok-hear.ensures.heard)
    (moves-failed _ _ _ _ _ _
    (inr (failed-looked _ _ c.look-look.result c.look-look.ensures.turn c.if-look.true)))

pub returns-then-look-2-clause-round : goal.returns-then-look-2-clause-round
returns-then-look-2-clause-round g c =
    let more : c.in_ok-hear.field-0 ≡ true = search rules in
    ends-shut _ _ _ c.args.conn c.look-look.result c.if-look-2.true
    (heard-more _ _ c.args.conn c.in_ok-hear.field-0 more c.in_ok-hear.ensures.heard)
    (moves-looked _ _ _ _ _ _ c.args.conn c.look-look.result c.look-look.ensures.turn c.if-look.false
    c.look-look.ensures.look)

pub returns-in-Some-clause-round : goal.returns-in-Some-clause-round
returns-in-Some-clause-round g c =
    let more : c.in_ok-hear.field-0 ≡ true = search rules in
    ends-behind _ _ _ c.args.conn c.in-Some.weight c.look-look.result c.if-look-2.false c.in-Some.is
    (heard-more _ _ c.args.conn c.in_ok-hear.field-0 more c.in_ok-hear.ensures.heard)
    (moves-looked _ _ _ _ _ _ c.args.conn c.look-look.result c.look-look.ensures.turn c.if-look.false
    c.look-look.ensures.look)

pub returns-in_err-drain-clause-cut : goal.returns-in_err-drain-clause-cut
returns-in_err-drain-clause-cut g c =
    let more : c.in_ok-hear.field-0 ≡ true = search rules in
    cut-by c.from_residual-in_err-drain.result c.in_err-drain.field-0.0 _ _ c.args.conn
    c.from_residual-in_err-drain.ensures.1
    (cut-drain c.in_err-drain.field-0.0 _ _ _ _ c.args.conn c.look-look.result c.if-look-2.false c.in_default.is
    c.if-look-gt0.true (heard-more _ _ c.args.conn c.in_ok-hear.field-0 more c.in_ok-hear.ensures.heard)
    (moves-looked _ _ _ _ _ _ c.args.conn c.look-look.result c.look-look.ensures.turn c.if-look.false
    c.look-look.ensures.look) (c.in_err-drain.ensures.cut c.hear.new.ignored))

pub returns-in_ok-drain-clause-round : goal.returns-in_ok-drain-clause-round
returns-in_ok-drain-clause-round g c =
    let more : c.in_ok-hear.field-0 ≡ true = search rules in
    whole-drained _ _ _ _ c.args.conn c.look-look.result c.if-look-2.false c.in_default.is c.if-look-gt0.true
    (heard-more _ _ c.args.conn c.in_ok-hear.field-0 more c.in_ok-hear.ensures.heard)
    (moves-looked _ _ _ _ _ _ c.args.conn c.look-look.result c.look-look.ensures.turn c.if-look.false
    c.look-look.ensures.look) (c.in_ok-drain.ensures.drained c.hear.new.ignored)

pub returns-else-look-gt0-clause-round : goal.returns-else-look-gt0-clause-round
returns-else-look-gt0-clause-round g c =
    let more : c.in_ok-hear.field-0 ≡ true = search rules in
    whole-looked _ _ _ c.args.conn c.look-look.result c.if-look-2.false c.in_default.is c.if-look-gt0.false
    (heard-more _ _ c.args.conn c.in_ok-hear.field-0 more c.in_ok-hear.ensures.heard)
    (moves-looked _ _ _ _ _ _ c.args.conn c.look-look.result c.look-look.ensures.turn c.if-look.false
    c.look-look.ensures.look)
