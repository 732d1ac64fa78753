use Rattle.std.proofs.Common.{◌≡◌, IfOk, sym, subst, w64}
use Rattle.std.proofs.lemmas.Int.{to_z-of_z}
use Rattle.nt_rules.specs.topics.Topics.{put_cause}
use Rattle.nt_rules.specs.topics.Changes.{outcome_of, put_changes}
use Rattle.nt_table.proofs.Steps.{publisher-passed}
use Rattle.nt_table.proofs.indexed.put.Goals as goal

pub position_of_publisher-at-requires-clause-indexed : goal.position_of_publisher-at-requires-clause-indexed
position_of_publisher-at-requires-clause-indexed c =
    publisher-passed c.args.index.now c.args.topics.now.items c.deref.result.now c.args.conn c.args.uid _
    (sym c.deref.ensures.value) (sym (to_z-of_z w64 c.args.uid c.ranges.uid)) c.requires.indexed

pub returns-clause-answer : goal.returns-clause-answer
returns-clause-answer c =
    subst
    (λ u. IfOk c.put.result
    (λ o. o
    ≡ outcome_of (put_cause c.args.topics.now.items c.args.conn u c.args.time c.args.value)
    (put_changes c.args.topics.now.items c.args.conn u c.args.time c.args.value)))
    (to_z-of_z w64 c.args.uid c.ranges.uid) c.put.ensures.answer
