use Rattle.std.proofs.Common.{◌≡◌, ◌+◌, ◌-◌, [], suc, arith}
use Rattle.std.proofs.lemmas.Result.{err_from_is_err_and}
use Rattle.nt_frames.proofs.Steps.{element-more, elements-all, elements-none, fails-element}
use Rattle.nt_frames.proofs.read.elements_of.Goals as goal

pub loop-i-init : goal.loop-i-init
loop-i-init g c = record {
  done = [];
  stand = rw c.empty-list.ensures tt;
  goes_on = elements-none _ _ _ _ (omega arith);
}

pub loop-i-preserved : goal.loop-i-preserved
loop-i-preserved g c =
    let left : c.args.count - c.loop-i.i ≡ suc (c.args.count - (c.loop-i.i + 1)) = omega arith in
    let more = element-more g.T.Element.stands g.T.Element.number _ _ c.loop-i.list c.in_ok-value.value _
    c.loop-i.rest.now c.in_ok-value.after.now _ left
    c.loop-i.invariant.stand c.loop-i.invariant.goes_on c.in_ok-value.ensures.reads in
    record { done = more.0; stand = rw c.in_ok-push.ensures.ok more.1; goes_on = more.2 }

pub returns-in_err-value : goal.returns-in_err-value
returns-in_err-value g c =
    let left : c.args.count - c.loop-i.i ≡ suc (c.args.count - (c.loop-i.i + 1)) = omega arith in
    let p = err_from_is_err_and c.from_residual.result c.from_residual.ensures.1 in
    rw (p.1, p.2) (fails-element g.T.Element.number _ _ c.loop-i.invariant.done c.loop-i.rest.now _ _ left
    c.loop-i.invariant.goes_on c.in_err-value.ensures.reads)

pub returns : goal.returns
returns g c =
    elements-all g.T.Element.stands g.T.Element.number _ c.loop-i.list _ c.loop-i.rest.now _ (omega arith)
    c.loop-i.invariant.stand c.loop-i.invariant.goes_on
