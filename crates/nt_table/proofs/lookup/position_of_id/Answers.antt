use Rattle.std.proofs.Common.{◌≡◌, ◌<◌, ◌∙◌, length, rules}
use Rattle.std.proofs.lemmas.List.Sorted.{answers_always}
use Rattle.nt_rules.specs.declared.topic.Topic.{Topic}
use Rattle.nt_table.proofs.Search.{at-position, searched}
use Rattle.nt_table.proofs.lookup.position_of_id.Goals as goal

pub returns-in-Some : goal.returns-in-Some
returns-in-Some c =
    let within : c.in-Some.i < length c.args.topics.now = search rules in
    let here : c.index-topics-i.result.id ≡ c.args.id = search rules in
    at-position c.args.id c.args.topics.now c.in-Some.i c.index-topics-i.result c.requires within c.index-topics-i.is
    here

pub returns-in_default : goal.returns-in_default
returns-in_default c =
    let facts = c.binary_search_by_key.ensures in
    let by_key = facts.position (λ (t : Topic). t.id) (answers_always _ _ _ (λ f a r g called. search rules)) in
    c.ok.ensures.value ∙ searched c.args.id c.args.topics.now c.binary_search_by_key.result c.requires facts.bound
    by_key
