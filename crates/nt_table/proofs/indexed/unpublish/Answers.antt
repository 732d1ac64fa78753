use Rattle.std.proofs.Common.{◌≡◌, ◌+◌, ◌&&◌, ◌==◌, ℕ, ℤ, None, cond, sym, ◌∙◌, subst, rules, w64}
use Rattle.std.proofs.lemmas.Int.{to_z-of_z}
use Rattle.std.specs.Option.{is_some}
use Rattle.nt_table.specs.Index.{one, id_of, count_of, IsRising, IsIndexed}
use Rattle.nt_rules.specs.topics.Topics.{if_counts, unpublish_cause, unpublished}
use Rattle.nt_table.proofs.Numbers.{is_key}
use Rattle.nt_table.proofs.Steps.{publisher-passed, rising-unpublished, unpublished-either, indexed-without}
use Rattle.nt_table.proofs.indexed.unpublish.Goals as goal

pub position_of_publisher-at-requires-clause-indexed : goal.position_of_publisher-at-requires-clause-indexed
position_of_publisher-at-requires-clause-indexed c =
    publisher-passed c.args.index.now c.args.topics.now.items c.deref.result.now c.args.conn c.args.uid _
    (sym c.deref.ensures.value) (sym (to_z-of_z w64 c.args.uid c.ranges.uid)) c.requires.indexed

pub forget_ended-requires : goal.forget_ended-requires
forget_ended-requires c =
    let left : c.unpublish.new.topics.items
    ≡ if_counts (unpublish_cause c.args.topics.now.items c.args.conn c.args.uid)
    (unpublished c.args.topics.now.items c.args.conn c.args.uid) c.args.topics.now.items =
    search rules in
    subst (λ ts. IsRising 0 ts) (sym (c.deref-2.ensures.value ∙ left))
    (rising-unpublished c.args.topics.now.items c.args.conn c.args.uid
    (unpublish_cause c.args.topics.now.items c.args.conn c.args.uid) c.requires.rising)

pub returns-clause-indexed : goal.returns-clause-indexed
returns-clause-indexed c = λ next h.
    let same = to_z-of_z w64 c.args.uid c.ranges.uid in
    let left : c.unpublish.new.topics.items
    ≡ if_counts (unpublish_cause c.args.topics.now.items c.args.conn c.args.uid)
    (unpublished c.args.topics.now.items c.args.conn c.args.uid) c.args.topics.now.items =
    search rules in
    let ids =
    subst (λ v. (d : ℕ) (u : ℤ) → id_of c.forget.new.self d u
    ≡ cond (is_key c.args.conn v d u) None (id_of c.args.index.now d u))
    same c.forget.ensures.ids in
    let counts =
    subst
    (λ v. (d : ℕ) → count_of c.forget.new.self d + one
    ((c.args.conn == d) && is_some (id_of c.args.index.now c.args.conn v))
    ≡ count_of c.args.index.now d)
    same c.forget.ensures.counts in
    let right : IsIndexed c.forget.new.self (unpublished c.args.topics.now.items c.args.conn c.args.uid) next =
    indexed-without c.args.index.now c.args.topics.now.items next h c.forget.new.self c.args.conn c.args.uid ids counts
    c.forget.ensures.names in
    let now = left ∙ unpublished-either c.args.topics.now.items c.args.conn c.args.uid in
    subst (λ ts. IsIndexed c.forget_ended.new.index ts next) c.deref-2.ensures.value
    (c.forget_ended.ensures next
    (subst (λ ts. IsIndexed c.forget.new.self ts next) (sym (c.deref-2.ensures.value ∙ now)) right))
