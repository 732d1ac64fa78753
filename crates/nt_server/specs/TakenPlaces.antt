-- How the places of taken values stand, and where a search finds that of a topic.
use Rattle.std.specs.Prelude.{◌≡◌, ◌≤◌, ◌<◌, ℕ, List, Some, length, insert, remove, slice_set}
use Rattle.std.specs.List.{slice_get}
use Rattle.nt_rules.specs.declared.taken.Taken.{Taken}
use Rattle.nt_rules.specs.history.State.{taken_at, with_taken, without_taken}

abbrev pub id_of_place : Taken → ℕ
id_of_place t = t.topic

abbrev pub taken_of : ℕ → ℕ → Taken
taken_of topic place = record { topic = topic; place = place }

-- the place of the topic stands at this position
pub record IsFoundAt (topic : ℕ) (taken : List Taken) (i : ℕ) : Type 0 where
  pub within : i < length taken
  pub there : slice_get taken i ≡ Some (taken_of topic (taken_at topic taken))
  pub put : (place : ℕ) → slice_set taken i (taken_of topic place) ≡ with_taken topic place taken
  pub left : remove taken i ≡ without_taken topic taken

-- the topic has no place, and it would stand at this position
pub record IsMissedAt (topic : ℕ) (taken : List Taken) (i : ℕ) : Type 0 where
  pub within : i ≤ length taken
  pub nowhere : taken_at topic taken ≡ 0
  pub put : (place : ℕ) → insert taken i (taken_of topic place) ≡ with_taken topic place taken
  pub left : taken ≡ without_taken topic taken
