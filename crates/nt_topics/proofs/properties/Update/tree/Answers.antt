use Rattle.std.proofs.Common.{◌≡◌, true, subst}
use Rattle.nt_topics.specs.Properties.{is_object_of, is_change}
use Rattle.nt_topics.proofs.Kept.{kept_of-is_object_of, whole_tree, change_is_whole}
use Rattle.nt_topics.proofs.properties.Update.tree.Goals as goal

pub returns-clause-again : goal.returns-clause-again
returns-clause-again c =
    kept_of-is_object_of is_change c.args.self.now
    (subst (λ d. is_object_of is_change d ≡ true) c.self.view_is c.self.invariant.0)

pub returns-clause-whole : goal.returns-clause-whole
returns-clause-whole c =
    whole_tree is_change change_is_whole c.args.self.now
    (subst (λ d. is_object_of is_change d ≡ true) c.self.view_is c.self.invariant.0)
