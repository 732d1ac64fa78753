use Rattle.std.proofs.Common.{◌≡◌, ◌≤◌, ◌<◌, ◌+◌, ◌++◌, ℕ, List, [], ◌∷◌, drop, length, get_or, refl, sym, ◌∙◌, ap, subst, rules}
use Rattle.std.specs.List.Sorted.{IsNonDecreasing}
use Rattle.std.proofs.lemmas.List.{drop_more}
use Rattle.std.proofs.Math.ListN.{drop_of_length-le}
use Rattle.nt_rules.specs.topics.Topics.{dropped}
use Rattle.nt_rules.specs.topics.Changes.{drop_changes}
use Rattle.nt_table.specs.Index.{IsRising, AreAmong}
use Rattle.nt_table.proofs.Leaving.{after, rising-ordered, rest-ordered, rising-left, dropped-left, told-after, among-left, all-left, all-told}
use Rattle.nt_table.proofs.call.close.Goals as goal

pub loop-id-init : goal.loop-id-init
loop-id-init c = (
  c.requires.rising,
  c.requires.among,
  rising-ordered c.args.ids.now c.requires.sorted,
  ap (λ cs. cs ++ drop_changes c.args.topics.now.items c.args.conn) c.empty-changes.ensures,
  refl,
)

pub loop-id-preserved : goal.loop-id-preserved
loop-id-preserved c =
    let h = c.loop-id.invariant in
    let id : ℕ = get_or c.args.ids.now c.loop-id.id-index 0 in
    let rest : List ℕ = drop (c.loop-id.id-index + 1) c.args.ids.now in
    let within : c.loop-id.id-index < length c.args.ids.now = search rules in
    let is : drop c.loop-id.id-index c.args.ids.now ≡ id ∷ rest =
    drop_more c.args.ids.now c.loop-id.id-index 0 within in
    let among : AreAmong (id ∷ rest) c.args.conn c.loop-id.topics.items =
    subst (λ ids. AreAmong ids c.args.conn c.loop-id.topics.items) is h.1 in
    let up : IsNonDecreasing (id ∷ rest) = subst (λ ids. IsNonDecreasing ids) is h.2 in
    let left : c.leave_topic.new.topics.items ≡ after c.args.conn id c.loop-id.topics.items =
    c.in_ok-leave_topic.ensures.topics in (
      subst (λ ts. IsRising 0 ts) (sym left) (rising-left c.args.conn id c.loop-id.topics.items h.0),
      subst (λ ts. AreAmong rest c.args.conn ts) (sym left)
          (among-left c.args.conn id 0 rest c.loop-id.topics.items among h.0),
      rest-ordered id rest up,
      ap (λ ts. c.leave_topic.new.changes ++ drop_changes ts c.args.conn) left
          ∙ told-after c.args.conn id 0 rest c.loop-id.topics.items up among h.0 c.loop-id.changes
          c.leave_topic.new.changes c.in_ok-leave_topic.ensures.changes ∙ h.3,
      ap (λ ts. dropped ts c.args.conn) left ∙ dropped-left c.args.conn id c.loop-id.topics.items ∙ h.4,
    )

pub returns-clause-changes : goal.returns-clause-changes
returns-clause-changes c =
    let h = c.loop-id.invariant in
    let past : length c.args.ids.now ≤ c.loop-id.id-index = search rules in
    let none : AreAmong [] c.args.conn c.loop-id.topics.items =
    subst (λ ids. AreAmong ids c.args.conn c.loop-id.topics.items) (drop_of_length-le c.args.ids.now past) h.1
    in
    let nil : c.loop-id.changes ≡ c.loop-id.changes ++ [] = search rules in
    nil ∙ ap (λ cs. c.loop-id.changes ++ cs) (all-told c.args.conn c.loop-id.topics.items none) ∙ h.3

pub returns-clause-topics : goal.returns-clause-topics
returns-clause-topics c =
    let h = c.loop-id.invariant in
    let past : length c.args.ids.now ≤ c.loop-id.id-index = search rules in
    let none : AreAmong [] c.args.conn c.loop-id.topics.items =
    subst (λ ids. AreAmong ids c.args.conn c.loop-id.topics.items) (drop_of_length-le c.args.ids.now past) h.1
    in
    all-left c.args.conn c.loop-id.topics.items none ∙ h.4
