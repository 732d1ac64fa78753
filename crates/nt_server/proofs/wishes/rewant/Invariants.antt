use Rattle.std.proofs.Common.{◌≡◌, drop}
use Rattle.nt_subs.specs.Wishes.{wanted}
use Rattle.nt_rules.specs.history.State.{rewanted_all, meta_rewanted_all}
use Rattle.nt_server.proofs.wishes.rewant.Given as goal

-- the topics that follow do to the outbox what all do to the one at the start
abbrev pub invariant-loop-i : goal.invariant-loop-i
invariant-loop-i l =
    rewanted_all l.place l.taken (wanted l.old) (wanted l.new) (drop l.i l.table.topics) l.outbox
    ≡ rewanted_all l.place l.taken (wanted l.old) (wanted l.new) l.table.topics l.fn.outbox

-- and so do the meta topics to the one after them
abbrev pub invariant-loop-meta : goal.invariant-loop-meta
invariant-loop-meta l =
    meta_rewanted_all l.place (wanted l.old) (wanted l.new) (drop l.meta-index l.metas) l.outbox
    ≡ meta_rewanted_all l.place (wanted l.old) (wanted l.new) l.metas
    (rewanted_all l.place l.taken (wanted l.old) (wanted l.new) l.table.topics l.fn.outbox)
