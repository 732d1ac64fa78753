use Rattle.std.proofs.Common.{◌≡◌, ◌++◌, drop}
use Rattle.nt_rules.specs.topics.Changes.{drop_changes}
use Rattle.nt_table.proofs.edit.ends_of_conn.Given as goal

-- the ends so far and those that follow are all
abbrev pub invariant-loop-topic : goal.invariant-loop-topic
invariant-loop-topic l = l.changes ++ drop_changes (drop l.topic-index l.topics) l.conn ≡ drop_changes l.topics l.conn
