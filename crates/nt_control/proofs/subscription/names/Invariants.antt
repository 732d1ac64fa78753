use Rattle.std.proofs.Common.{◌≡◌, ◌++◌, option_map}
use Rattle.std.specs.Vec.Iter.{into_iter_items}
use Rattle.serde_json.specs.View.{items_view}
use Rattle.nt_control.specs.Params.{texts_of}
use Rattle.nt_control.proofs.subscription.names.Given as goal

abbrev pub invariant-loop-item : goal.invariant-loop-item
invariant-loop-item l =
    option_map (λ texts. l.names ++ texts) (texts_of (items_view (into_iter_items l.item-iterator)))
    ≡ texts_of (items_view l.fn.items.items)
