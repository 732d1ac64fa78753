use Rattle.std.proofs.Common.{ap, ◌∙◌, map}
use Rattle.serde_json.proofs.Views.{view-Array}
use Rattle.serde_json.specs.Data.{array}
use Rattle.serde_json.specs.View.{view, items_of}
use Rattle.nt_control.proofs.Arrays.{listed-items_of, written_none, written_more, written_all}
use Rattle.nt_control.proofs.write.tree.Goals as goal

pub loop-msg-init : goal.loop-msg-init
loop-msg-init g c = rw c.new-elements.ensures.items (written_none g.M.Message.written g.M.Message.read c.args.msgs.now)

pub loop-msg-preserved : goal.loop-msg-preserved
loop-msg-preserved g c =
    rw c.in_ok-push.ensures.items (
    written_more _ _ _ _ _ _ _ c.loop-msg-test.true c.msg-item.is c.in_ok-element.ensures c.loop-msg.invariant
    )

pub returns : goal.returns
returns g c =
    let so_far = c.loop-msg.invariant in
    let all = written_all g.M.Message.written g.M.Message.read _ _ _ c.loop-msg-test.false so_far in
    let is = view-Array c.loop-msg.elements in
    let items = listed-items_of (map view c.loop-msg.elements.items) in
    record {
      tree = is ∙ ap (λ ds. array (items_of ds)) all.0;
      whole = rw is so_far.whole;
      back = rw (is, items) all.1;
      none_passed = rw (is, items) so_far.none_passed;
    }
