use Rattle.std.proofs.Common.{◌≡◌, drop}
use Rattle.nt_rules.specs.history.State.{taken_after}
use Rattle.nt_server.proofs.taken.TakenPlaces.take_changes.Given as goal

-- the changes that follow do to the places what all do to those at the start
abbrev pub invariant-loop-change : goal.invariant-loop-change
invariant-loop-change l =
    taken_after l.place l.table.topics (drop l.change-index l.changes) l.self
    ≡ taken_after l.place l.table.topics l.changes l.fn.self
