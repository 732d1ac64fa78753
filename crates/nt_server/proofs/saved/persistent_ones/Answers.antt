use Rattle.std.proofs.Common.{◌+◌, ◌++◌, [], ◌∷◌, List, drop, append_assoc, sym, ◌∙◌, ap}
use Rattle.nt_rules.specs.declared.topic.Topic.{Topic}
use Rattle.nt_rules.specs.declared.topic.Saved.{Saved}
use Rattle.nt_rules.specs.history.Saved.{persistent_ones}
use Rattle.nt_server.proofs.Lists.{drop_at}
use Rattle.nt_server.proofs.Persistent.{saved_more}
use Rattle.nt_server.proofs.saved.persistent_ones.Goals as goal

pub loop-i-preserved : goal.loop-i-preserved
loop-i-preserved c =
    let ts = c.args.table.now.topics in
    let t : Topic = c.at.result.now in
    let rest : List Topic = drop (c.loop-i.i + 1) ts in
    ap (λ (xs : List Saved). xs ++ persistent_ones rest) c.in_ok-save.ensures
    ∙ append_assoc c.loop-i.saved.items (persistent_ones (t ∷ [])) (persistent_ones rest)
    ∙ ap (λ (xs : List Saved). c.loop-i.saved.items ++ xs)
    (saved_more t rest ∙ ap persistent_ones (sym (drop_at ts c.loop-i.i t c.at.ensures.topic)))
    ∙ c.loop-i.invariant
