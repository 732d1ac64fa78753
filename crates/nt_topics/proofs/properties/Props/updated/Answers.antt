use Rattle.std.proofs.Common.{◌≡◌, true, ap, sym, subst, ◌∙◌}
use Rattle.serde_json.proofs.Views.{view-Object}
use Rattle.serde_json.specs.Data.{object}
use Rattle.serde_json.specs.View.{view, members_view}
use Rattle.nt_topics.specs.Properties.{is_object_of, is_property, is_change, all_pass, members_in}
use Rattle.nt_topics.proofs.Kept.{all_pass-changed_by, all_pass-members_in}
use Rattle.nt_topics.proofs.properties.Props.updated.Goals as goal

pub of_members-requires : goal.of_members-requires
of_members-requires c =
    let ms = members_view c.in-Object.members.entries in
    let update = view c.update.inside.tree in
    let is : view c.self.inside.tree ≡ object ms =
    sym c.in_ok-tree.ensures.cases ∙ ap view c.in-Object.is ∙ view-Object c.in-Object.members in
    let fits : all_pass is_property ms ≡ true =
    subst (λ d. is_object_of is_property d ≡ true) is c.self.invariant.0 in
    rw c.in_ok-change_tree-in-Object.ensures.ok
    (all_pass-changed_by ms (members_in update)
    (all_pass-members_in is_change update c.update.invariant.0) fits)
