-- The history with drains of one connection, each of which is answered as the history before it says.
use Rattle.std.specs.Prelude.{ℕ, List, [], ◌∷◌}
use Rattle.nt_rules.specs.declared.act.Act.TheVariants as act
use Rattle.nt_rules.specs.declared.act.Entry.{Entry}
use Rattle.nt_rules.specs.declared.start.Start.{Start}
use Rattle.nt_rules.specs.history.Now.{now_of}
use Rattle.nt_rules.specs.history.Answer.{answer, entry, moment_of}

-- with a drain by a worker, at this moment or at that of the last entry, if that is later
abbrev pub with_drain : Start → ℕ → ℕ → ℕ → ℕ → List Entry → List Entry
with_drain start worker conn budget now past =
    entry worker (moment_of (now_of start past) now) (act.Drain conn budget)
    (answer start past worker now (act.Drain conn budget)) ∷ past

-- with a drain at each of these moments in turn
abbrev pub with_drains : Start → ℕ → ℕ → ℕ → List ℕ → List Entry → List Entry
with_drains start worker conn budget [] past = past
with_drains start worker conn budget (now ∷ moments) past =
    with_drains start worker conn budget moments (with_drain start worker conn budget now past)
