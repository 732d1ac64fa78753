use Rattle.std.proofs.Common.{rules, ap, ◌∙◌}
use Rattle.std.proofs.lemmas.Map.Made.{filter_same_pairs}
use Rattle.serde_json.proofs.Views.{Entry}
use Rattle.serde_json.specs.View.{view, members_view}
use Rattle.nt_topics.specs.Properties.{is_change}
use Rattle.nt_topics.proofs.Kept.{members_view-filter}
use Rattle.nt_topics.proofs.tree.keep_changes.Goals as goal

pub returns : goal.returns
returns c =
    let passes = λ (e : Entry). is_change (view e.1) in
    ap members_view
    (filter_same_pairs _ passes _ (λ k v b w f' t. search rules) _ _ c.retain.ensures.filtered)
    ∙ members_view-filter is_change c.args.members.now.entries
