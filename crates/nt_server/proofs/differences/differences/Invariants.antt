use Rattle.std.proofs.Common.{◌≡◌, ◌≤◌, ◌++◌, drop, length, map}
use Rattle.nt_rules.specs.declared.meta.Difference.TheVariants.{Began}
use Rattle.nt_rules.specs.history.State.{differences}
use Rattle.nt_server.proofs.differences.differences.Given as goal

-- what was found and what is different of the rest is all
abbrev pub invariant-loop-meta : goal.invariant-loop-meta
invariant-loop-meta l = record {
  within : l.passed ≤ length l.after;
  found_is : l.found.items ++ differences (drop l.meta-index l.before) (drop l.passed l.after)
      ≡ differences l.before l.after;
}

-- and those that follow began
abbrev pub invariant-loop-one : goal.invariant-loop-one
invariant-loop-one l =
    l.found.items ++ map Began (drop l.one-index l.rest) ≡ differences l.before l.after
