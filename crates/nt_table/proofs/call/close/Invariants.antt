use Rattle.std.proofs.Common.{◌≡◌, ◌++◌, drop}
use Rattle.std.specs.List.Sorted.{IsNonDecreasing}
use Rattle.nt_rules.specs.topics.Topics.{dropped}
use Rattle.nt_rules.specs.topics.Changes.{drop_changes}
use Rattle.nt_table.specs.Index.{IsRising, AreAmong}
use Rattle.nt_table.proofs.call.close.Given as goal

-- what is told and left by the ids passed, and is still to be by the others, is all
abbrev pub invariant-loop-id : goal.invariant-loop-id
invariant-loop-id l =
    IsRising 0 l.topics.items × AreAmong (drop l.id-index l.ids) l.conn l.topics.items
    × IsNonDecreasing (drop l.id-index l.ids)
    × (l.changes ++ drop_changes l.topics.items l.conn ≡ drop_changes l.fn.topics.items l.conn)
    × (dropped l.topics.items l.conn ≡ dropped l.fn.topics.items l.conn)
