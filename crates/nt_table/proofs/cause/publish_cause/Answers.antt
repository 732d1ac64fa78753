use Rattle.std.proofs.Common.{◌≡◌, true, false, leb, sym, ◌∙◌, ap, rules}
use Rattle.std.specs.List.{list_any}
use Rattle.std.specs.Option.{is_some}
use Rattle.nt_topics.specs.Names.{is_special}
use Rattle.nt_table.specs.Index.{id_of, count_of}
use Rattle.nt_rules.specs.Limits.{most_publishers}
use Rattle.nt_rules.specs.topics.Topics.{is_named, publishers_of}
use Rattle.nt_rules.proofs.Positions.{any-position}
use Rattle.nt_rules.proofs.Calls.{refused}
use Rattle.nt_table.proofs.Steps.{any-publisher}
use Rattle.nt_table.proofs.cause.publish_cause.Goals as goal

pub returns-then-is_some : goal.returns-then-is_some
returns-then-is_some c =
    let special : is_special c.args.name.now ≡ false = search rules in
    let some : is_some (id_of c.args.index.now c.args.publisher.now.conn c.args.publisher.now.uid) ≡ true =
    search rules in
    refused c.args.topics.now c.args.next c.args.publisher.now.conn c.args.publisher.now.uid c.args.name.now
    c.args.props.now false true
    (leb most_publishers (publishers_of c.args.publisher.now.conn c.args.topics.now))
    (list_any (is_named c.args.name.now) c.args.topics.now)
    special
    (any-publisher c.args.index.now c.args.topics.now c.args.next c.requires.indexed c.args.publisher.now.conn
    c.args.publisher.now.uid ∙ some)
    (λ i. leb most_publishers (publishers_of c.args.publisher.now.conn c.args.topics.now))
    (λ i. list_any (is_named c.args.name.now) c.args.topics.now)

pub returns-then-count_of-ge-MOST_PUBLISHERS : goal.returns-then-count_of-ge-MOST_PUBLISHERS
returns-then-count_of-ge-MOST_PUBLISHERS c =
    let special : is_special c.args.name.now ≡ false = search rules in
    let some : is_some (id_of c.args.index.now c.args.publisher.now.conn c.args.publisher.now.uid) ≡ false =
    search rules in
    let full : leb most_publishers (count_of c.args.index.now c.args.publisher.now.conn) ≡ true = search rules in
    refused c.args.topics.now c.args.next c.args.publisher.now.conn c.args.publisher.now.uid c.args.name.now
    c.args.props.now false false
    true (list_any (is_named c.args.name.now) c.args.topics.now)
    special
    (any-publisher c.args.index.now c.args.topics.now c.args.next c.requires.indexed c.args.publisher.now.conn
    c.args.publisher.now.uid ∙ some)
    (ap (λ n. leb most_publishers n) (sym (c.requires.indexed.counted c.args.publisher.now.conn)) ∙ full)
    (λ i. list_any (is_named c.args.name.now) c.args.topics.now)

pub returns-then-is_some-2 : goal.returns-then-is_some-2
returns-then-is_some-2 c =
    let special : is_special c.args.name.now ≡ false = search rules in
    let some : is_some (id_of c.args.index.now c.args.publisher.now.conn c.args.publisher.now.uid) ≡ false =
    search rules in
    let full : leb most_publishers (count_of c.args.index.now c.args.publisher.now.conn) ≡ false = search rules in
    let living : is_some c.args.at ≡ true = search rules in
    refused c.args.topics.now c.args.next c.args.publisher.now.conn c.args.publisher.now.uid c.args.name.now
    c.args.props.now false false
    false true special
    (any-publisher c.args.index.now c.args.topics.now c.args.next c.requires.indexed c.args.publisher.now.conn
    c.args.publisher.now.uid ∙ some)
    (ap (λ n. leb most_publishers n) (sym (c.requires.indexed.counted c.args.publisher.now.conn)) ∙ full)
    (any-position (is_named c.args.name.now) c.args.topics.now c.args.at c.requires.found ∙ living)

pub returns : goal.returns
returns c =
    let special : is_special c.args.name.now ≡ false = search rules in
    let some : is_some (id_of c.args.index.now c.args.publisher.now.conn c.args.publisher.now.uid) ≡ false =
    search rules in
    let full : leb most_publishers (count_of c.args.index.now c.args.publisher.now.conn) ≡ false = search rules in
    let living : is_some c.args.at ≡ false = search rules in
    c.new_cause.ensures ∙
    refused c.args.topics.now c.args.next c.args.publisher.now.conn c.args.publisher.now.uid c.args.name.now
    c.args.props.now false false
    false false special
    (any-publisher c.args.index.now c.args.topics.now c.args.next c.requires.indexed c.args.publisher.now.conn
    c.args.publisher.now.uid ∙ some)
    (ap (λ n. leb most_publishers n) (sym (c.requires.indexed.counted c.args.publisher.now.conn)) ∙ full)
    (any-position (is_named c.args.name.now) c.args.topics.now c.args.at c.requires.found ∙ living)
