use Rattle.std.proofs.Common.{◌≡◌, ◌+◌, ◌-◌, ◌^◌, length, min, sum_by, take}
use Rattle.nt_subs.proofs.set.size.Given as goal

-- the size of the names so far
abbrev pub invariant-loop-name : goal.invariant-loop-name
invariant-loop-name l = l.size
    ≡ min (sum_by (λ name. length name + 8) (take l.name-index l.sub.names)) (2 ^ 64 - 1)
