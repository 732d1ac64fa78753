use Rattle.std.proofs.Common.{◌+◌, take}
use Rattle.nt_frames.proofs.Written.{listed-none, listed-more, listed-all, listed-array, taken-more}
use Rattle.nt_frames.proofs.write.put_list.Goals as goal

pub loop-item-init : goal.loop-item-init
loop-item-init g c =
    listed-none g.T.Element.number c.in_ok-count.count c.args.out.now.items c.put_atom.new.out.items
    (tt, rw c.in_ok-count.ensures.value c.in_ok-count.ensures.small) c.in_ok-put_atom.ensures.ok

pub loop-item-preserved : goal.loop-item-preserved
loop-item-preserved g c =
    listed-more g.T.Element.number c.in_ok-count.count g.T.Element.written c.args.out.now.items c.loop-item.out.items
    c.put.new.out.items
    (take c.loop-item.item-index c.args.list.now) (take (c.loop-item.item-index + 1) c.args.list.now) c.item-item.result
    (taken-more c.args.list.now c.loop-item.item-index c.item-item.result c.loop-item-test.true c.item-item.is)
    c.loop-item.invariant c.in_ok-put.ensures.ok c.in_ok-put.ensures.spelled c.in_ok-put.ensures.stands

pub returns-clause-ok : goal.returns-clause-ok
returns-clause-ok g c =
    (listed-all g.T.Element.number c.in_ok-count.count c.loop-item.item-index g.T.Element.written c.args.out.now.items
    c.loop-item.out.items
    c.args.list.now c.in_ok-count.ensures.value c.loop-item-test.false c.loop-item.invariant).written

pub returns-clause-spelled : goal.returns-clause-spelled
returns-clause-spelled g c =
    (listed-all g.T.Element.number c.in_ok-count.count c.loop-item.item-index g.T.Element.written c.args.out.now.items
    c.loop-item.out.items
    c.args.list.now c.in_ok-count.ensures.value c.loop-item-test.false c.loop-item.invariant).spelled

pub returns-clause-array : goal.returns-clause-array
returns-clause-array g c =
    listed-array g.T.Element.number g.T.Element.written c.args.list.now
    (listed-all g.T.Element.number c.in_ok-count.count c.loop-item.item-index g.T.Element.written c.args.out.now.items
    c.loop-item.out.items
    c.args.list.now c.in_ok-count.ensures.value c.loop-item-test.false c.loop-item.invariant).each
