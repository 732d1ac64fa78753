use Rattle.nt_subs.proofs.Indexed.{room_more}
use Rattle.nt_subs.proofs.set.indexed.Goals as goal

pub note-requires : goal.note-requires
note-requires c =
    room_more c.loop-entry.names c.args.entries.now c.loop-entry.entry-index c.entry-item.result
    c.loop-entry-test.true c.entry-item.is c.loop-entry.invariant c.requires
