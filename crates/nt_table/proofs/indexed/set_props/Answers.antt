use Rattle.std.proofs.Common.{sym, ◌∙◌, subst}
use Rattle.nt_table.specs.Index.{IsRising, IsIndexed}
use Rattle.nt_rules.specs.topics.Topics.{update_cause}
use Rattle.nt_table.proofs.Steps.{name-passed, rising-props, indexed-props}
use Rattle.nt_table.proofs.indexed.set_props.Goals as goal

pub position_of_name-at-requires-clause-indexed : goal.position_of_name-at-requires-clause-indexed
position_of_name-at-requires-clause-indexed c =
    name-passed c.args.index.now c.args.topics.now.items c.deref.result.now c.args.name.now c.as_str.result.now
    (sym c.deref.ensures.value) (sym c.as_str.ensures.text) c.requires.indexed

pub forget_ended-requires : goal.forget_ended-requires
forget_ended-requires c =
    subst (λ ts. IsRising 0 ts) (sym (c.deref-2.ensures.value ∙ c.in_ok-outcome.ensures.topics))
    (rising-props c.args.topics.now.items c.args.name.now c.args.update
    (update_cause c.args.topics.now.items c.args.name.now c.args.update) c.requires.rising)

pub returns-clause-indexed : goal.returns-clause-indexed
returns-clause-indexed c = λ next h.
    let right =
    indexed-props c.args.index.now c.args.topics.now.items next h c.args.name.now c.args.update
    (update_cause c.args.topics.now.items c.args.name.now c.args.update) in
    subst (λ ts. IsIndexed c.forget_ended.new.index ts next) c.deref-2.ensures.value
    (c.forget_ended.ensures next
    (subst (λ ts. IsIndexed c.args.index.now ts next) (sym (c.deref-2.ensures.value ∙ c.in_ok-outcome.ensures.topics))
    right))
