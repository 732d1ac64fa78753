use Rattle.std.proofs.Common.{◌≡◌, ◌++◌, drop}
use Rattle.nt_rules.specs.history.Saved.{persistent_ones}
use Rattle.nt_server.proofs.saved.persistent_ones.Given as goal

-- those saved and those that follow are all
abbrev pub invariant-loop-i : goal.invariant-loop-i
invariant-loop-i l =
    l.saved.items ++ persistent_ones (drop l.i l.table.topics) ≡ persistent_ones l.table.topics
