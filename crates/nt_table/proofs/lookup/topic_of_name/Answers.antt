use Rattle.std.proofs.Common.{sym, refl}
use Rattle.nt_rules.specs.topics.Topics.{is_named}
use Rattle.nt_rules.proofs.Positions.{first-position, position-None, find-first, find-none}
use Rattle.nt_table.proofs.lookup.topic_of_name.Goals as goal

pub returns-in-Some : goal.returns-in-Some
returns-in-Some c =
    sym (find-first (is_named c.args.name.now) c.args.topics.now c.in-Some.i c.index-topics-i.result
    (first-position (is_named c.args.name.now) c.args.topics.now c.args.topics.now c.in-Some.i c.index-topics-i.result
    refl
    c.in-Some.ensures c.index-topics-i.is))

pub returns-in-None : goal.returns-in-None
returns-in-None c =
    sym (find-none (is_named c.args.name.now) c.args.topics.now
    (position-None (is_named c.args.name.now) c.args.topics.now c.args.topics.now refl c.in-None.ensures))
