use Rattle.std.proofs.Common.{sym, subst}
use Rattle.nt_table.specs.Index.{id_of, AreAmong}
use Rattle.nt_table.proofs.Leaving.{among-said}
use Rattle.nt_table.proofs.indexed.close_topics.Goals as goal

pub close-requires-clause-among : goal.close-requires-clause-among
close-requires-clause-among c =
    subst (λ ids. AreAmong ids c.args.conn c.args.topics.now.items) (sym c.as_slice.ensures.value)
    (among-said c.args.conn (id_of c.args.index.now c.args.conn) c.in_ok-ids.ids.items c.args.topics.now.items
    (λ uid id at. (c.in_ok-ids.ensures.ids id).1 (uid, at)) c.requires.indexed)
