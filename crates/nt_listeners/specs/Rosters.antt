-- Listeners, as contracts see them.
use Rattle.std.specs.Prelude.{ℕ, ◌==◌, List, None}
use Rattle.nt_rules.specs.topics.Topics.{change_first}
use Rattle.nt_listeners.specs.declared.row.Row.{Row}

-- the listeners, in the order in which they were added, and how many were ever added
pub record Roster (L : Type 0) : Type 0 where
  pub rows : List (Row L)
  pub added : ℕ

-- the rows without the one of this id
abbrev pub without : {L : Type 0} → ℕ → List (Row L) → List (Row L)
without id rows = change_first (λ row. row.id == id) (λ row. None) rows
