use Rattle.std.proofs.Common.{◌≡◌, ◌++◌, drop, take, map}
use Rattle.nt_rules.specs.topics.Topics.{without_conn}
use Rattle.nt_table.proofs.edit.leave_all.Given as goal

-- the topics passed are changed, and the others are to be
abbrev pub invariant-loop-topic : goal.invariant-loop-topic
invariant-loop-topic l =
    take l.topic-index l.topics ++ map (without_conn l.conn) (drop l.topic-index l.topics)
    ≡ map (without_conn l.conn) l.fn.topics
