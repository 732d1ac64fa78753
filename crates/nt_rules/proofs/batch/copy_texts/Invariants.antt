use Rattle.std.proofs.Common.{◌≡◌, ◌++◌, drop}
use Rattle.nt_rules.proofs.batch.copy_texts.Given as goal

-- the texts copied and those that follow are all
abbrev pub invariant-loop-text : goal.invariant-loop-text
invariant-loop-text l = l.copied.items ++ drop l.text-index l.texts ≡ l.texts
