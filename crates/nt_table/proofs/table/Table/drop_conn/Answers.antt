use Rattle.std.proofs.Common.{sym, ◌∙◌}
use Rattle.nt_table.specs.Index.{id_named, id_of}
use Rattle.nt_table.proofs.Leaving.{said-filed}
use Rattle.nt_table.proofs.Steps.{if-ok}
use Rattle.nt_table.proofs.table.Table.drop_conn.Goals as goal

pub close-changes-requires-clause-indexed : goal.close-changes-requires-clause-indexed
close-changes-requires-clause-indexed c =
    let right = c.self.invariant c.if-self.false in
    said-filed (id_named c.self.inside.index) (id_of c.self.inside.index) c.self.inside.next c.args.conn
    c.self.inside.topics.items right.filed

pub invariant_of-self : goal.invariant_of-self
invariant_of-self c = λ well.
    if-ok c.close-changes.result c.close-changes.ensures.indexed (sym c.is_err-self-inside.ensures.value ∙ well)
    c.self.inside.next (c.self.invariant c.if-self.false)
