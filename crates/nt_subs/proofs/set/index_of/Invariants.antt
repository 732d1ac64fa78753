use Rattle.std.proofs.Common.{◌≡◌, drop}
use Rattle.nt_subs.specs.Subscriptions.{index_of}
use Rattle.nt_subs.proofs.Indices.{moved}
use Rattle.nt_subs.proofs.set.index_of.Given as goal

-- the uid's index among what is left is its index among all
abbrev pub invariant-loop-index : goal.invariant-loop-index
invariant-loop-index l = moved l.index (index_of l.uid (drop l.index l.entries)) ≡ index_of l.uid l.entries
