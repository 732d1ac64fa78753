use Rattle.std.proofs.Common.{◌≡◌, ◌-◌, ◌+◌, ◌^◌, ◌++◌, ◌<◌, min, map, count_by, is_none}
use Rattle.std.specs.List.{filter_map}
use Rattle.std.specs.Vec.Iter.{into_iter_items}
use Rattle.serde_json.specs.View.{view}
use Rattle.nt_control.specs.Elements.{tree_in, elements_of, said, passed_over}
use Rattle.nt_control.specs.Client.{client_message}
use Rattle.nt_control.proofs.client.read_client.Given as goal

abbrev pub invariant-loop-element : goal.invariant-loop-element
invariant-loop-element l =
    let rest = map view (into_iter_items l.element-iterator) in
    let all = elements_of (tree_in l.text) in
    (l.msgs.items ++ filter_map client_message rest ≡ said client_message all)
    × (l.ignored < 2 ^ 32)
    × (min (l.ignored + count_by (λ d. is_none (client_message d)) rest) (2 ^ 32 - 1)
    ≡ min (passed_over client_message all) (2 ^ 32 - 1))
