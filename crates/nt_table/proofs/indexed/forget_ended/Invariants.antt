use Rattle.nt_table.specs.Index.{StaysIndexed}
use Rattle.nt_table.proofs.indexed.forget_ended.Given as goal

-- what was right is still right
abbrev pub invariant-loop-change : goal.invariant-loop-change
invariant-loop-change l = StaysIndexed l.fn.index l.topics l.index l.topics
