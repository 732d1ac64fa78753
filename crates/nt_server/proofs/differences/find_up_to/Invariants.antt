use Rattle.std.proofs.Common.{◌≡◌, ◌++◌, List, drop}
use Rattle.nt_rules.specs.declared.meta.MetaNow.{MetaNow}
use Rattle.nt_rules.specs.declared.meta.Difference.{Difference}
use Rattle.nt_rules.specs.history.State.{differences_from}
use Rattle.nt_server.proofs.differences.find_up_to.Given as goal

-- what was found and what is different from here on is all
abbrev pub invariant-loop-passed : goal.invariant-loop-passed
invariant-loop-passed l =
    (rest : List MetaNow → List Difference)
    → l.found.items ++ differences_from rest l.before (drop l.passed l.after)
    ≡ l.fn.found.items ++ differences_from rest l.before l.after
