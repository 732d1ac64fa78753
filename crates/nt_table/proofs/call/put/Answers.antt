use Rattle.std.proofs.Common.{refl, ◌≡◌, Some, None, sym, ◌∙◌, rules}
use Rattle.std.specs.List.{position}
use Rattle.nt_rules.specs.declared.topic.Cause.TheVariants.{NoSuchUid}
use Rattle.nt_rules.specs.topics.Topics.{has_publisher, put_cause, with_put}
use Rattle.nt_rules.specs.topics.Changes.{put_changes}
use Rattle.nt_rules.proofs.Positions.{first-position, position-None}
use Rattle.nt_rules.proofs.Calls.{ignored, unchanged, put-none, put-answer, put-topics}
use Rattle.nt_table.proofs.call.put.Goals as goal

pub returns-in-None-clause-answer : goal.returns-in-None-clause-answer
returns-in-None-clause-answer c =
    let at : None ≡ position (has_publisher c.args.conn c.args.uid) c.args.topics.now.items =
    sym c.in-None.is ∙ c.requires in
    let none =
    position-None (has_publisher c.args.conn c.args.uid) c.args.topics.now.items c.args.topics.now.items refl at in
    ignored (put_cause c.args.topics.now.items c.args.conn c.args.uid c.args.time c.args.value) NoSuchUid
    (put_changes c.args.topics.now.items c.args.conn c.args.uid c.args.time c.args.value)
    (put-none c.args.topics.now.items c.args.conn c.args.uid c.args.time c.args.value none)

pub returns-in-None-clause-topics : goal.returns-in-None-clause-topics
returns-in-None-clause-topics c =
    let at : None ≡ position (has_publisher c.args.conn c.args.uid) c.args.topics.now.items =
    sym c.in-None.is ∙ c.requires in
    let none =
    position-None (has_publisher c.args.conn c.args.uid) c.args.topics.now.items c.args.topics.now.items refl at in
    unchanged (put_cause c.args.topics.now.items c.args.conn c.args.uid c.args.time c.args.value) NoSuchUid
    (with_put c.args.topics.now.items c.args.conn c.args.uid c.args.time c.args.value) c.args.topics.now.items
    (put-none c.args.topics.now.items c.args.conn c.args.uid c.args.time c.args.value none)

pub returns-in-Some-clause-answer : goal.returns-in-Some-clause-answer
returns-in-Some-clause-answer c =
    let at : Some c.in-Some.i ≡ position (has_publisher c.args.conn c.args.uid) c.args.topics.now.items =
    sym c.in-Some.is ∙ c.requires in
    let first =
    first-position (has_publisher c.args.conn c.args.uid) c.args.topics.now.items c.args.topics.now.items c.in-Some.i
    c.index_mut.result.now refl at c.index_mut.ensures.value in
    put-answer c.args.topics.now.items c.args.conn c.args.uid c.args.time c.args.value c.in-Some.i
    c.index_mut.result.now
    first c.put_to.result (search rules)

pub returns-in-Some-clause-topics : goal.returns-in-Some-clause-topics
returns-in-Some-clause-topics c =
    let at : Some c.in-Some.i ≡ position (has_publisher c.args.conn c.args.uid) c.args.topics.now.items =
    sym c.in-Some.is ∙ c.requires in
    let first =
    first-position (has_publisher c.args.conn c.args.uid) c.args.topics.now.items c.args.topics.now.items c.in-Some.i
    c.index_mut.result.now refl at c.index_mut.ensures.value in
    put-topics c.args.topics.now.items c.args.conn c.args.uid c.args.time c.args.value c.in-Some.i
    c.index_mut.result.now
    first c.put_to.result c.put_to.new.topic (search rules)
