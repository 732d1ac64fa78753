use Rattle.std.proofs.Common.{◌≡◌, ◌==◌, drop}
use Rattle.std.specs.List.{find}
use Rattle.nt_outbox.proofs.message.value_at.Given as goal

-- what is found is found among those that follow
abbrev pub invariant-loop-placed : goal.invariant-loop-placed
invariant-loop-placed l =
    find (λ x. x.place == l.place) (drop l.placed-index l.values) ≡ find (λ x. x.place == l.place) l.values
