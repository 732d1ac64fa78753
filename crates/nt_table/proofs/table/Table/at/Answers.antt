use Rattle.std.proofs.Common.{◌<◌, length, sym, subst}
use Rattle.nt_rules.specs.topics.Topics.{TableState}
use Rattle.nt_table.specs.Index.{id_named, id_of}
use Rattle.nt_table.proofs.Search.{rising-item, below-item}
use Rattle.nt_table.proofs.table.Table.at.Goals as goal

pub returns-clause-rising : goal.returns-clause-rising
returns-clause-rising c =
    rw (← c.self.view_is)
    (λ well j t less there.
    let right = c.self.invariant well in
    rising-item c.self.inside.topics.items c.args.i j c.index.result.now t right.rising less c.index.ensures there)

pub returns-clause-below : goal.returns-clause-below
returns-clause-below c =
    let within : c.args.i < length c.self.inside.topics.items =
    subst (λ (h : TableState). c.args.i < length h.topics) (sym c.self.view_is) c.requires in
    rw (← c.self.view_is)
    (λ well.
    let right = c.self.invariant well in
    below-item (id_named c.self.inside.index) (id_of c.self.inside.index) c.self.inside.next c.self.inside.topics.items
    c.args.i
    c.index.result.now right.filed within c.index.ensures)
