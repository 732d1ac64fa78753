use Rattle.std.proofs.Common.{take}
use Rattle.nt_subs.specs.Index.{IsIndexed}
use Rattle.nt_subs.proofs.set.indexed.Given as goal

-- the index of the subscriptions so far
abbrev pub invariant-loop-entry : goal.invariant-loop-entry
invariant-loop-entry l = IsIndexed l.names (take l.entry-index l.entries)
