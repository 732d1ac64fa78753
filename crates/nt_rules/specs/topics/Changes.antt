-- The changes that a call tells, and what it answers.
use Rattle.std.specs.Prelude.{ℕ, ℤ, pos, List, [], ◌∷◌, Option, Some, None, map, filter, not, if◌then◌else◌}
use Rattle.std.specs.List.{list_any, find}
use Rattle.serde_json.specs.Data.{Data}
use Rattle.nt_values.specs.declared.value.Value.{Value}
use Rattle.nt_rules.specs.declared.topic.Topic.{Topic}
use Rattle.nt_rules.specs.declared.topic.Saved.{Saved}
use Rattle.nt_rules.specs.declared.topic.Change.{Change}
use Rattle.nt_rules.specs.declared.topic.Change.TheVariants as changes
use Rattle.nt_rules.specs.declared.topic.Cause.{Cause}
use Rattle.nt_rules.specs.declared.topic.Outcome.{Outcome}
use Rattle.nt_rules.specs.declared.topic.Outcome.TheVariants.{Done, Ignored}
use Rattle.nt_rules.specs.topics.Topics.{has_publisher, is_named, lives_on, outlives, without_publisher, with_update}

-- what a call answers, by the cause that refuses it
abbrev pub outcome_of : Option Cause → List Change → Outcome
outcome_of None changes = Done changes
outcome_of (Some cause) changes = Ignored cause

-- what a topic that was found tells
abbrev pub if_found : (Topic → List Change) → Option Topic → List Change
if_found f None = []
if_found f (Some t) = f t

-- the end of a topic
abbrev pub ended : Topic → Change
ended t = changes.Ended (pos t.id) t.name

-- its end, where it doesn't live on
abbrev pub end_of : Topic → List Change
end_of t = if lives_on t then [] else ended t ∷ []

-- a publish tells the start of a new topic
abbrev pub publish_changes : List Topic → ℕ → List ℕ → List ℕ → Data → List Change
publish_changes topics next name typ props =
    if list_any (is_named name) topics then [] else changes.Started (pos next) name typ props ∷ []

-- an unpublish tells the end of a topic of which nothing is left
abbrev pub unpublish_changes : List Topic → ℕ → ℤ → List Change
unpublish_changes topics conn uid =
    if_found (λ t. end_of (without_publisher conn uid t)) (find (has_publisher conn uid) topics)

-- the end of a connection tells the ends of the topics that end with it, by rising id
abbrev pub drop_changes : List Topic → ℕ → List Change
drop_changes topics conn = map ended (filter (λ t. not (outlives conn t)) topics)

-- an update is told, an empty one too, and then the end of a topic of which nothing is left
abbrev pub update_change : Data → Topic → List Change
update_change u t = changes.Props (pos t.id) t.name u ∷ end_of (with_update u t)

abbrev pub update_changes : List Topic → List ℕ → Data → List Change
update_changes topics name u = if_found (update_change u) (find (is_named name) topics)

-- a put tells the new value
abbrev pub put_change : ℕ → Value → Topic → List Change
put_change time value t = changes.Changed (pos t.id) t.name time value ∷ []

abbrev pub put_changes : List Topic → ℕ → ℤ → ℕ → Value → List Change
put_changes topics conn uid time value = if_found (put_change time value) (find (has_publisher conn uid) topics)

-- a restored value is told with the time 0
abbrev pub restored_value : ℕ → List ℕ → Option Value → List Change
restored_value id name None = []
restored_value id name (Some value) = changes.Changed (pos id) name 0 value ∷ []

-- a restore tells the start of the topic, and then its value
abbrev pub restore_changes : ℕ → Saved → List Change
restore_changes next saved =
    changes.Started (pos next) saved.name saved.typ saved.props ∷ restored_value next saved.name saved.value
