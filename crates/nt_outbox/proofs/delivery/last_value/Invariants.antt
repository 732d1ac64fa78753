use Rattle.std.proofs.Common.{◌≡◌, drop, max}
use Rattle.nt_rules.specs.outbox.Keys.{next_value}
use Rattle.nt_outbox.specs.Steps.{next_of}
use Rattle.nt_outbox.proofs.delivery.last_value.Given as goal

-- the last one so far, and that of the keys that follow
abbrev pub invariant-loop-key : goal.invariant-loop-key
invariant-loop-key l = max (next_of l.last) (next_value (drop l.key-index l.keys) l.id) ≡ next_value l.keys l.id
