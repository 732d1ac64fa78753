use Rattle.std.proofs.Common.{ap, arith}
use Rattle.nt_rules.specs.outbox.Marks.{weight}
use Rattle.nt_outbox.proofs.Weights.{weight-insert}
use Rattle.nt_outbox.proofs.marks.change_fresh.Goals as goal

pub returns-in_ok-insert-clause-weighed : goal.returns-in_ok-insert-clause-weighed
returns-in_ok-insert-clause-weighed c =
    let put = ap weight c.in_ok-insert.ensures.items in
    let more = weight-insert c.args.marks.now.items c.args.i c.apply.new.mark in
    let told = c.in_ok-weight.ensures.weight in
    let none = c.requires.fresh in
    let all = c.requires.weighed in omega arith
