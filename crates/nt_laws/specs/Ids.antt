-- Ids of topics, and of what is told and kept of them: they are below those of meta topics.
use Rattle.std.specs.Prelude.{◌<◌, ◌≤◌, ◌+◌, ℕ, ℤ, pos, negsuc, List}
use Rattle.std.specs.List.{AllByRecursion}
use Rattle.nt_rules.specs.Limits.{first_meta, last_id}
use Rattle.nt_rules.specs.declared.topic.Topic.{Topic}
use Rattle.nt_rules.specs.declared.topic.Change.{Change}
use Rattle.nt_rules.specs.declared.topic.Change.TheVariants as change
use Rattle.nt_rules.specs.outbox.Marks.{Mark}

abbrev pub AreLow : List Mark → Type 0
AreLow marks = AllByRecursion (λ (m : Mark). m.id < first_meta) marks

abbrev pub AreLowTopics : List Topic → Type 0
AreLowTopics ts = AllByRecursion (λ (t : Topic). t.id < first_meta) ts

-- the topics of a table, and the id that comes next, as long as there is one
pub record HaveLowIds (ts : List Topic) (n : ℕ) : Type 0 where
  pub topics : AreLowTopics ts
  pub next : n ≤ last_id + 1

-- the number of a change. One that is no id names no topic
abbrev pub IsLowNumber : ℤ → Type 0
IsLowNumber (pos n) = n < first_meta
IsLowNumber (negsuc n) = Unit {0}

abbrev pub IsLowChange : Change → Type 0
IsLowChange (change.Started id name typ props) = IsLowNumber id
IsLowChange (change.Changed id name time value) = IsLowNumber id
IsLowChange (change.Props id name update) = IsLowNumber id
IsLowChange (change.Ended id name) = IsLowNumber id

abbrev pub AreLowChanges : List Change → Type 0
AreLowChanges changes = AllByRecursion IsLowChange changes
