use Rattle.std.proofs.Common.{◌≡◌, map}
use Rattle.std.specs.Vec.Iter.{into_iter_items}
use Rattle.nt_rules.specs.telling.Told.{Value, told_from}
use Rattle.nt_client.specs.Kept.{id_of, outline}
use Rattle.nt_client.specs.Sorted.{Rise}
use Rattle.nt_client.proofs.values.keep_all.Given as goal

abbrev pub invariant-loop-msg : goal.invariant-loop-msg
invariant-loop-msg l = record {
  rising : Rise id_of l.held.items;
  outlines : map outline l.held.items ≡ map outline l.fn.held.items;
  held : told_from l.held.items (map Value (into_iter_items l.msg-iterator))
      ≡ told_from l.fn.held.items (map Value l.fn.msgs.items);
}
