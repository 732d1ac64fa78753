use Rattle.std.proofs.Common.{sym, subst}
use Rattle.nt_table.specs.Index.{IsIndexed}
use Rattle.nt_table.proofs.indexed.forget_ended.Goals.{in-Ended, in_default}
use Rattle.nt_table.proofs.indexed.forget_ended.Goals as goal

pub loop-change-preserved : goal.loop-change-preserved
loop-change-preserved c = λ next h. elim c.match-change.branch [
  | in-Ended w ↦
      subst (λ x. IsIndexed x c.args.topics.now next) (sym w.index-is)
      (w.forget_unless_living.ensures next (c.loop-change.invariant next h))
  | in_default w ↦ subst (λ x. IsIndexed x c.args.topics.now next) (sym w.index-is) (c.loop-change.invariant next h)
]
