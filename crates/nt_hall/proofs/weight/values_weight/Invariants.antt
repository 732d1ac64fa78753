use Rattle.std.proofs.Common.{◌≡◌, ◌^◌, ◌-◌, min, take}
use Rattle.nt_hall.specs.Weight.{values_weight}
use Rattle.nt_hall.proofs.weight.values_weight.Given as goal

-- the weight of those so far
abbrev pub invariant-loop-message : goal.invariant-loop-message
invariant-loop-message l = l.weight ≡ min (values_weight (take l.message-index l.values)) (2 ^ 64 - 1)
