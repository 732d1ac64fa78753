use Rattle.std.proofs.Common.{refl, sym, ◌∙◌, w64}
use Rattle.std.proofs.lemmas.Int.{to_z-of_z}
use Rattle.nt_table.proofs.Steps.{if-ok, publisher-passed, position-publisher}
use Rattle.nt_table.proofs.table.Table.unpublish.Goals as goal

pub unpublish-outcome-requires-clause-indexed : goal.unpublish-outcome-requires-clause-indexed
unpublish-outcome-requires-clause-indexed c =
    publisher-passed c.self.inside.index c.self.inside.topics.items c.self.inside.topics.items c.args.conn c.args.uid _
    refl
    (sym (to_z-of_z w64 c.args.uid c.ranges.uid))
    (position-publisher c.self.inside.index c.self.inside.topics.items c.self.inside.next
    (c.self.invariant c.if-self.false)
    c.args.conn c.args.uid)

pub invariant_of-self : goal.invariant_of-self
invariant_of-self c = λ well.
    if-ok c.unpublish-outcome.result c.unpublish-outcome.ensures.indexed (sym c.is_err-self-inside.ensures.value ∙ well)
    c.self.inside.next (c.self.invariant c.if-self.false)
