use Rattle.std.proofs.Common.{◌≡◌, false}
use Rattle.serde_json.proofs.Views.{view-Object}
use Rattle.serde_json.specs.View.{view, members_view}
use Rattle.serde_json.specs.Written.{has_float}
use Rattle.serde_json.specs.declared.value.Value.{Object}
use Rattle.nt_topics.specs.Properties.{is_property}
use Rattle.nt_topics.proofs.Kept.{whole, property_is_whole}
use Rattle.nt_topics.proofs.Rising.{ordered-map}
use Rattle.nt_topics.proofs.properties.Props.of_members.Goals as goal

pub invariant_of-result : goal.invariant_of-result
invariant_of-result c =
    let members = c.args.members in
    let no_float : has_float (view (Object members)) ≡ false =
    rw view-Object (whole is_property property_is_whole (members_view members.entries) c.requires) in
    (rw view-Object c.requires, c.in_ok-len.ensures no_float, ordered-map members c.len-count.ensures.ordered)
