use Rattle.std.proofs.Common.{◌≡◌, true, subst}
use Rattle.nt_topics.specs.Properties.{is_object_of, is_property}
use Rattle.nt_topics.proofs.Kept.{kept_of-is_object_of, whole_tree, property_is_whole}
use Rattle.nt_topics.proofs.properties.Props.tree.Goals as goal

pub returns-clause-again : goal.returns-clause-again
returns-clause-again c =
    kept_of-is_object_of is_property c.args.self.now
    (subst (λ d. is_object_of is_property d ≡ true) c.self.view_is c.self.invariant.0)

pub returns-clause-whole : goal.returns-clause-whole
returns-clause-whole c =
    whole_tree is_property property_is_whole c.args.self.now
    (subst (λ d. is_object_of is_property d ≡ true) c.self.view_is c.self.invariant.0)
