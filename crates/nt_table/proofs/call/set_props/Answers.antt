use Rattle.std.proofs.Common.{refl, ◌≡◌, true, false, Some, None, sym, ◌∙◌, ap}
use Rattle.std.specs.List.{position}
use Rattle.nt_rules.specs.declared.topic.Cause.TheVariants.{NoTopic, PropsFull}
use Rattle.nt_rules.specs.topics.Topics.{is_named, is_too_long, with_update, update_cause, with_props}
use Rattle.nt_rules.specs.topics.Changes.{update_changes}
use Rattle.nt_rules.proofs.Positions.{first-position, position-None}
use Rattle.nt_rules.proofs.Calls.{ignored, unchanged, done, counted, update-none, update-first, updated-changes, updated-topics}
use Rattle.nt_table.proofs.call.set_props.Goals as goal

pub returns-in-None-clause-answer : goal.returns-in-None-clause-answer
returns-in-None-clause-answer c =
    let at : None ≡ position (is_named c.args.name.now) c.args.topics.now.items = sym c.in-None.is ∙ c.requires in
    let none = position-None (is_named c.args.name.now) c.args.topics.now.items c.args.topics.now.items refl at in
    ignored (update_cause c.args.topics.now.items c.args.name.now c.args.update) NoTopic
    (update_changes c.args.topics.now.items c.args.name.now c.args.update)
    (update-none c.args.topics.now.items c.args.name.now c.args.update none)

pub returns-in-None-clause-topics : goal.returns-in-None-clause-topics
returns-in-None-clause-topics c =
    let at : None ≡ position (is_named c.args.name.now) c.args.topics.now.items = sym c.in-None.is ∙ c.requires in
    let none = position-None (is_named c.args.name.now) c.args.topics.now.items c.args.topics.now.items refl at in
    unchanged (update_cause c.args.topics.now.items c.args.name.now c.args.update) NoTopic
    (with_props c.args.topics.now.items c.args.name.now c.args.update) c.args.topics.now.items
    (update-none c.args.topics.now.items c.args.name.now c.args.update none)

pub returns-then-is_too_long-clause-answer : goal.returns-then-is_too_long-clause-answer
returns-then-is_too_long-clause-answer c =
    let at : Some c.in-Some.i ≡ position (is_named c.args.name.now) c.args.topics.now.items =
    sym c.in-Some.is ∙ c.requires in
    let first =
    first-position (is_named c.args.name.now) c.args.topics.now.items c.args.topics.now.items c.in-Some.i
    c.index.result.now
    refl at c.index.ensures in
    let long : is_too_long (with_update c.args.update c.index.result.now).props ≡ true =
    ap is_too_long (sym c.in_ok-props-in-Some.ensures.updated) ∙ sym c.is_too_long.ensures ∙ c.if-is_too_long.true in
    ignored (update_cause c.args.topics.now.items c.args.name.now c.args.update) PropsFull
    (update_changes c.args.topics.now.items c.args.name.now c.args.update)
    (update-first c.args.topics.now.items c.args.name.now c.args.update c.in-Some.i c.index.result.now first true long)

pub returns-then-is_too_long-clause-topics : goal.returns-then-is_too_long-clause-topics
returns-then-is_too_long-clause-topics c =
    let at : Some c.in-Some.i ≡ position (is_named c.args.name.now) c.args.topics.now.items =
    sym c.in-Some.is ∙ c.requires in
    let first =
    first-position (is_named c.args.name.now) c.args.topics.now.items c.args.topics.now.items c.in-Some.i
    c.index.result.now
    refl at c.index.ensures in
    let long : is_too_long (with_update c.args.update c.index.result.now).props ≡ true =
    ap is_too_long (sym c.in_ok-props-in-Some.ensures.updated) ∙ sym c.is_too_long.ensures ∙ c.if-is_too_long.true in
    unchanged (update_cause c.args.topics.now.items c.args.name.now c.args.update) PropsFull
    (with_props c.args.topics.now.items c.args.name.now c.args.update) c.args.topics.now.items
    (update-first c.args.topics.now.items c.args.name.now c.args.update c.in-Some.i c.index.result.now first true long)

pub returns-in_ok-changes-in-Some-clause-answer : goal.returns-in_ok-changes-in-Some-clause-answer
returns-in_ok-changes-in-Some-clause-answer c =
    let at : Some c.in-Some.i ≡ position (is_named c.args.name.now) c.args.topics.now.items =
    sym c.in-Some.is ∙ c.requires in
    let first =
    first-position (is_named c.args.name.now) c.args.topics.now.items c.args.topics.now.items c.in-Some.i
    c.index.result.now
    refl at c.index.ensures in
    let here =
    first-position (is_named c.args.name.now) c.args.topics.now.items c.args.topics.now.items c.in-Some.i
    c.index_mut.result.now refl at c.index_mut.ensures.value in
    let short : is_too_long (with_update c.args.update c.index.result.now).props ≡ false =
    ap is_too_long (sym c.in_ok-props-in-Some.ensures.updated) ∙ sym c.is_too_long.ensures ∙ c.if-is_too_long.false in
    done (update_cause c.args.topics.now.items c.args.name.now c.args.update) c.in_ok-changes-in-Some.changes
    (update_changes c.args.topics.now.items c.args.name.now c.args.update)
    (update-first c.args.topics.now.items c.args.name.now c.args.update c.in-Some.i c.index.result.now first false
    short)
    (c.in_ok-changes-in-Some.ensures.changes
    ∙ updated-changes c.args.topics.now.items c.args.name.now c.args.update c.in-Some.i c.index_mut.result.now here)

pub returns-in_ok-changes-in-Some-clause-topics : goal.returns-in_ok-changes-in-Some-clause-topics
returns-in_ok-changes-in-Some-clause-topics c =
    let at : Some c.in-Some.i ≡ position (is_named c.args.name.now) c.args.topics.now.items =
    sym c.in-Some.is ∙ c.requires in
    let first =
    first-position (is_named c.args.name.now) c.args.topics.now.items c.args.topics.now.items c.in-Some.i
    c.index.result.now
    refl at c.index.ensures in
    let here =
    first-position (is_named c.args.name.now) c.args.topics.now.items c.args.topics.now.items c.in-Some.i
    c.index_mut.result.now refl at c.index_mut.ensures.value in
    let short : is_too_long (with_update c.args.update c.index.result.now).props ≡ false =
    ap is_too_long (sym c.in_ok-props-in-Some.ensures.updated) ∙ sym c.is_too_long.ensures ∙ c.if-is_too_long.false in
    counted (update_cause c.args.topics.now.items c.args.name.now c.args.update) c.settle.new.topics.items
    (with_props c.args.topics.now.items c.args.name.now c.args.update) c.args.topics.now.items
    (update-first c.args.topics.now.items c.args.name.now c.args.update c.in-Some.i c.index.result.now first false
    short)
    (c.settle.ensures
    ∙ updated-topics c.args.topics.now.items c.args.name.now c.args.update c.in-Some.i c.index_mut.result.now here
    c.update_topic.new.topic c.in_ok-changes-in-Some.ensures.topic)
