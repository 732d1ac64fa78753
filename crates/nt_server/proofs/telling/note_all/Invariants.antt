use Rattle.std.proofs.Common.{◌≡◌, drop}
use Rattle.nt_subs.specs.Wishes.{wanted}
use Rattle.nt_rules.specs.history.State.{noted_all}
use Rattle.nt_server.proofs.telling.note_all.Given as goal

-- the changes that follow do to the outbox what all do to the one at the start
abbrev pub invariant-loop-change : goal.invariant-loop-change
invariant-loop-change l =
    noted_all l.place l.table.topics (wanted l.subs) (drop l.change-index l.changes) l.outbox
    ≡ noted_all l.place l.table.topics (wanted l.subs) l.changes l.fn.outbox
