use Rattle.std.proofs.Common.{◌≡◌, ◌^◌, ◌-◌, min, take}
use Rattle.nt_hall.specs.Weight.{texts_weight}
use Rattle.nt_hall.proofs.weight.texts_weight.Given as goal

-- the weight of those so far
abbrev pub invariant-loop-text : goal.invariant-loop-text
invariant-loop-text l = l.weight ≡ min (texts_weight (take l.text-index l.texts)) (2 ^ 64 - 1)
