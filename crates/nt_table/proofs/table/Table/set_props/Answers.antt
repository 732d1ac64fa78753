use Rattle.std.proofs.Common.{sym, ◌∙◌}
use Rattle.nt_table.proofs.Steps.{if-ok, position-named}
use Rattle.nt_table.proofs.table.Table.set_props.Goals as goal

pub set_props-outcome-requires-clause-indexed : goal.set_props-outcome-requires-clause-indexed
set_props-outcome-requires-clause-indexed c =
    position-named c.self.inside.index c.self.inside.topics.items c.self.inside.next (c.self.invariant c.if-self.false)
    c.args.name.now

pub invariant_of-self : goal.invariant_of-self
invariant_of-self c = λ well.
    if-ok c.set_props-outcome.result c.set_props-outcome.ensures.indexed (sym c.is_err-self-inside.ensures.value ∙ well)
    c.self.inside.next (c.self.invariant c.if-self.false)
