use Rattle.std.proofs.Common.{sym, refl}
use Rattle.nt_table.proofs.Steps.{name-passed, position-named}
use Rattle.nt_table.proofs.table.Table.topic.Goals as goal

pub topic_of_name-requires-2-clause-indexed : goal.topic_of_name-requires-2-clause-indexed
topic_of_name-requires-2-clause-indexed c =
    name-passed c.self.inside.index c.self.inside.topics.items c.deref-2.result.now c.args.name.now c.args.name.now
    (sym c.deref-2.ensures.value) refl
    (position-named c.self.inside.index c.self.inside.topics.items c.self.inside.next (c.self.invariant c.if-self.false)
    c.args.name.now)
