use Rattle.std.proofs.Common.{◌∙◌}
use Rattle.std.proofs.lemmas.Result.{IfOk-weaker}
use Rattle.nt_meta.proofs.Packing.{with-part, with-parts}
use Rattle.nt_meta.proofs.bytes.publishers.Goals as goal

pub loop-conn-preserved : goal.loop-conn-preserved
loop-conn-preserved c =
    with-part _ c.args.conns.now c.loop-conn.conn-index c.conn-item.result c.loop-conn.packed
    c.in_ok-packed.packed _
    c.loop-conn-test.true c.conn-item.is c.loop-conn.invariant c.in_ok-packed.ensures

pub returns : goal.returns
returns c =
    let all = with-parts _ c.args.conns.now c.loop-conn.conn-index c.loop-conn.packed c.loop-conn-test.false
    c.loop-conn.invariant in
    IfOk-weaker c.finish.result _ _ (λ bytes e. e ∙ all) c.finish.ensures
