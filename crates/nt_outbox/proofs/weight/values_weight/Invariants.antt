use Rattle.std.proofs.Common.{◌≡◌, ◌+◌, drop}
use Rattle.nt_rules.specs.outbox.Marks.{values_weight}
use Rattle.nt_outbox.proofs.weight.values_weight.Given as goal

-- the weight so far, and that of those that follow
abbrev pub invariant-loop-placed : goal.invariant-loop-placed
invariant-loop-placed l =
    l.weight + values_weight (drop l.placed-index l.values) ≡ values_weight l.values
