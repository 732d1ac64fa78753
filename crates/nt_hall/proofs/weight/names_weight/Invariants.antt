use Rattle.std.proofs.Common.{◌≡◌, ◌^◌, ◌-◌, min, take}
use Rattle.nt_hall.specs.Weight.{names_weight}
use Rattle.nt_hall.proofs.weight.names_weight.Given as goal

-- the weight of those so far
abbrev pub invariant-loop-name : goal.invariant-loop-name
invariant-loop-name l = l.weight ≡ min (names_weight (take l.name-index l.names)) (2 ^ 64 - 1)
