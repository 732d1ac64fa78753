-- How living topics stand in a table.
use Rattle.std.specs.Prelude.{◌≢◌, ◌<◌, List}
use Rattle.nt_rules.specs.declared.topic.Topic.{Topic}
use Rattle.nt_rules.specs.meta.Rosters.{Pairwise}

-- topics stand by rising id, and their names differ: no two have one id or one name
pub record AreApart (topics : List Topic) : Type 0 where
  pub by_id : Pairwise (λ a b. a.id < b.id) topics
  pub names_differ : Pairwise (λ a b. a.name ≢ b.name) topics
