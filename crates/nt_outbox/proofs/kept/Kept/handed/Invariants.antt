use Rattle.std.proofs.Common.{◌≡◌, false, length, map}
use Rattle.nt_rules.specs.outbox.Marks.{handed}
use Rattle.nt_outbox.specs.Steps.{HasNoBlank}
use Rattle.nt_outbox.proofs.kept.Kept.handed.Given as goal

-- handing the keys that are left leads to where handing all does; and no topic is blank unless one was told to be
abbrev pub invariant-loop-rest : goal.invariant-loop-rest
invariant-loop-rest l = record {
  all : map (handed l.rest) l.kept ≡ map (handed l.initial.rest) l.fn.self;
  full : l.has_blank ≡ false → HasNoBlank l.kept;
}

abbrev pub decreases-loop-rest : goal.decreases-loop-rest
decreases-loop-rest l = length l.rest
