use Rattle.std.proofs.Common.{◌≡◌, ◌++◌, drop}
use Rattle.std.specs.List.{flat_map}
use Rattle.nt_rules.specs.outbox.Marks.{end_keys, reply_keys, topic_keys, value_keys, newest_keys}
use Rattle.nt_outbox.proofs.Owed.{marks_of}
use Rattle.nt_outbox.proofs.queue.keys.Given as goal

-- the keys so far, and those of the topics that follow
abbrev pub invariant-loop-id : goal.invariant-loop-id
invariant-loop-id l = record {
  ends : l.keys.items ++ flat_map end_keys (marks_of (drop l.id-index l.owing) l.marks) ≡ flat_map end_keys l.marks;
  replies : l.replies.items ++ flat_map reply_keys (marks_of (drop l.id-index l.owing) l.marks)
      ≡ flat_map reply_keys l.marks;
  announces : l.announces.items ++ flat_map topic_keys (marks_of (drop l.id-index l.owing) l.marks)
      ≡ flat_map topic_keys l.marks;
  values : l.values.items ++ flat_map value_keys (marks_of (drop l.id-index l.owing) l.marks)
      ≡ flat_map value_keys l.marks;
  newest : l.newest.items ++ flat_map newest_keys (marks_of (drop l.id-index l.owing) l.marks)
      ≡ flat_map newest_keys l.marks;
}
