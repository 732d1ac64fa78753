use Rattle.std.proofs.Common.{◌≡◌, ◌++◌, drop}
use Rattle.nt_subs.proofs.set.copy_entries.Given as goal

-- the subscriptions copied and those that follow are all
abbrev pub invariant-loop-entry : goal.invariant-loop-entry
invariant-loop-entry l = l.copied.items ++ drop l.entry-index l.entries ≡ l.entries
