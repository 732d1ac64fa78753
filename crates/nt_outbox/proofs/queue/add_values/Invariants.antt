use Rattle.std.proofs.Common.{◌≡◌, ◌++◌, drop, map}
use Rattle.nt_rules.specs.outbox.Keys.{value_key}
use Rattle.nt_outbox.proofs.queue.add_values.Given as goal

-- the keys so far, and those that follow
abbrev pub invariant-loop-placed : goal.invariant-loop-placed
invariant-loop-placed l =
    l.keys.items ++ map (λ x. value_key l.mark.id x.place) (drop l.placed-index l.placed-items)
    ≡ l.fn.keys.items ++ map (λ x. value_key l.mark.id x.place) l.mark.values
