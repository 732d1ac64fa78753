use Rattle.std.proofs.Common.{◌≡◌, ◌-◌, ◌+◌, ◌^◌, ◌++◌, ◌<◌, min, map, count_by, is_none}
use Rattle.std.specs.List.{filter_map}
use Rattle.std.specs.Vec.Iter.{into_iter_items}
use Rattle.serde_json.specs.View.{view}
use Rattle.nt_control.specs.Elements.{tree_in, elements_of, said, passed_over}
use Rattle.nt_control.specs.Server.{server_message}
use Rattle.nt_control.proofs.server.read_server.Given as goal

abbrev pub invariant-loop-element : goal.invariant-loop-element
invariant-loop-element l =
    let rest = map view (into_iter_items l.element-iterator) in
    let all = elements_of (tree_in l.text) in
    (l.msgs.items ++ filter_map server_message rest ≡ said server_message all)
    × (l.ignored < 2 ^ 32)
    × (min (l.ignored + count_by (λ d. is_none (server_message d)) rest) (2 ^ 32 - 1)
    ≡ min (passed_over server_message all) (2 ^ 32 - 1))
