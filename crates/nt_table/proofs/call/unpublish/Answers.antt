use Rattle.std.proofs.Common.{refl, ◌≡◌, Some, None, sym, ◌∙◌, ap, rules}
use Rattle.std.specs.List.{position}
use Rattle.nt_rules.specs.declared.topic.Cause.TheVariants.{NoSuchUid}
use Rattle.nt_rules.specs.topics.Topics.{has_publisher, without_publisher, unpublish_cause, unpublished}
use Rattle.nt_rules.specs.topics.Changes.{end_of, unpublish_changes}
use Rattle.nt_rules.proofs.Positions.{first-position, position-None, written}
use Rattle.nt_rules.proofs.Calls.{ignored, unchanged, done, counted, unpublish-none, unpublish-first, unpublished-changes, unpublished-topics}
use Rattle.nt_table.proofs.call.unpublish.Goals as goal

pub returns-in-None-clause-answer : goal.returns-in-None-clause-answer
returns-in-None-clause-answer c =
    let at : None ≡ position (has_publisher c.args.conn c.args.uid) c.args.topics.now.items =
    sym c.in-None.is ∙ c.requires in
    let none =
    position-None (has_publisher c.args.conn c.args.uid) c.args.topics.now.items c.args.topics.now.items refl at in
    ignored (unpublish_cause c.args.topics.now.items c.args.conn c.args.uid) NoSuchUid
    (unpublish_changes c.args.topics.now.items c.args.conn c.args.uid)
    (unpublish-none c.args.topics.now.items c.args.conn c.args.uid none)

pub returns-in-None-clause-topics : goal.returns-in-None-clause-topics
returns-in-None-clause-topics c =
    let at : None ≡ position (has_publisher c.args.conn c.args.uid) c.args.topics.now.items =
    sym c.in-None.is ∙ c.requires in
    let none =
    position-None (has_publisher c.args.conn c.args.uid) c.args.topics.now.items c.args.topics.now.items refl at in
    unchanged (unpublish_cause c.args.topics.now.items c.args.conn c.args.uid) NoSuchUid
    (unpublished c.args.topics.now.items c.args.conn c.args.uid) c.args.topics.now.items
    (unpublish-none c.args.topics.now.items c.args.conn c.args.uid none)

pub returns-in_ok-changes-in-Some-clause-answer : goal.returns-in_ok-changes-in-Some-clause-answer
returns-in_ok-changes-in-Some-clause-answer c =
    let at : Some c.in-Some.i ≡ position (has_publisher c.args.conn c.args.uid) c.args.topics.now.items =
    sym c.in-Some.is ∙ c.requires in
    let first =
    first-position (has_publisher c.args.conn c.args.uid) c.args.topics.now.items c.args.topics.now.items c.in-Some.i
    c.index_mut.result.now refl at c.index_mut.ensures.value in
    let gone : c.drop_publisher.new.topic ≡ without_publisher c.args.conn c.args.uid c.index_mut.result.now =
    search rules in
    let now : c.index.result.now ≡ c.drop_publisher.new.topic =
    written c.args.topics.now.items c.in-Some.i c.drop_publisher.new.topic c.index.result.now first.within
    c.index.ensures in
    done (unpublish_cause c.args.topics.now.items c.args.conn c.args.uid) c.in_ok-changes-in-Some.changes
    (unpublish_changes c.args.topics.now.items c.args.conn c.args.uid)
    (unpublish-first c.args.topics.now.items c.args.conn c.args.uid c.in-Some.i c.index_mut.result.now first)
    (c.in_ok-changes-in-Some.ensures ∙ ap end_of (now ∙ gone)
    ∙ unpublished-changes c.args.topics.now.items c.args.conn c.args.uid c.in-Some.i c.index_mut.result.now first)

pub returns-in_ok-changes-in-Some-clause-topics : goal.returns-in_ok-changes-in-Some-clause-topics
returns-in_ok-changes-in-Some-clause-topics c =
    let at : Some c.in-Some.i ≡ position (has_publisher c.args.conn c.args.uid) c.args.topics.now.items =
    sym c.in-Some.is ∙ c.requires in
    let first =
    first-position (has_publisher c.args.conn c.args.uid) c.args.topics.now.items c.args.topics.now.items c.in-Some.i
    c.index_mut.result.now refl at c.index_mut.ensures.value in
    let gone : c.drop_publisher.new.topic ≡ without_publisher c.args.conn c.args.uid c.index_mut.result.now =
    search rules in
    counted (unpublish_cause c.args.topics.now.items c.args.conn c.args.uid) c.settle.new.topics.items
    (unpublished c.args.topics.now.items c.args.conn c.args.uid) c.args.topics.now.items
    (unpublish-first c.args.topics.now.items c.args.conn c.args.uid c.in-Some.i c.index_mut.result.now first)
    (c.settle.ensures
    ∙ unpublished-topics c.args.topics.now.items c.args.conn c.args.uid c.in-Some.i c.index_mut.result.now first
    c.drop_publisher.new.topic gone)
