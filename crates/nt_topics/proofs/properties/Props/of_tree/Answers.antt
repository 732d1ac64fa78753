use Rattle.serde_json.specs.View.{members_view}
use Rattle.nt_topics.specs.Properties.{is_property}
use Rattle.nt_topics.proofs.Kept.{all_pass-kept}
use Rattle.nt_topics.proofs.properties.Props.of_tree.Goals as goal

pub of_members-requires : goal.of_members-requires
of_members-requires c = rw c.keep_properties.ensures
    (all_pass-kept is_property (members_view c.in-Object.members.entries))
