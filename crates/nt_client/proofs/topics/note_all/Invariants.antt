use Rattle.std.proofs.Common.{drop}
use Rattle.nt_client.specs.Names.{AreInOrder, StaysNoted}
use Rattle.nt_client.specs.Kept.{AreNoted}
use Rattle.nt_client.specs.declared.names.Names.{Names}
use Rattle.nt_client.proofs.topics.note_all.Given as goal

-- once those that are left are noted, all are
abbrev pub invariant-loop-topic : goal.invariant-loop-topic
invariant-loop-topic l = record {
  in_order : AreInOrder l.names;
  all : (names : Names) → StaysNoted l.names names → AreNoted names (drop l.topic-index l.held)
      → AreNoted names l.held;
}
