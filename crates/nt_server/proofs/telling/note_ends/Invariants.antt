use Rattle.std.proofs.Common.{◌≡◌, drop, filter}
use Rattle.nt_subs.specs.Wishes.{wanted}
use Rattle.nt_rules.specs.history.State.{is_end, noted_all}
use Rattle.nt_server.proofs.telling.note_ends.Given as goal

-- the ends that follow do to the outbox what all do to the one at the start
abbrev pub invariant-loop-change : goal.invariant-loop-change
invariant-loop-change l =
    noted_all l.place l.table.topics (wanted l.subs) (filter is_end (drop l.change-index l.changes)) l.outbox
    ≡ noted_all l.place l.table.topics (wanted l.subs) (filter is_end l.changes) l.fn.outbox
