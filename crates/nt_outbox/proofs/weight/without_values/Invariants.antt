use Rattle.std.proofs.Common.{◌≡◌, ◌≤◌, ◌+◌, drop}
use Rattle.nt_rules.specs.outbox.Marks.{values_weight}
use Rattle.nt_outbox.proofs.weight.without_values.Given as goal

-- what is left holds the values that follow, and with all values it is the weight with those that follow
abbrev pub invariant-loop-placed : goal.invariant-loop-placed
invariant-loop-placed l =
    (values_weight (drop l.placed-index l.values) ≤ l.others)
    × (l.others + values_weight l.values ≡ l.weight + values_weight (drop l.placed-index l.values))
