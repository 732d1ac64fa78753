use Rattle.std.proofs.Common.{◌≡◌, ◌++◌, drop}
use Rattle.nt_rules.proofs.batch.copy_values.Given as goal

-- the values copied and those that follow are all
abbrev pub invariant-loop-value : goal.invariant-loop-value
invariant-loop-value l = l.copied.items ++ drop l.value-index l.values ≡ l.values
