use Rattle.std.proofs.Common.{refl, arith}
use Rattle.std.specs.List.Sorted.{IsStrictlySortedBy}
use Rattle.nt_subs.proofs.set.SubSet.new.Goals as goal

pub invariant_of-result : goal.invariant_of-result
unfolding IsStrictlySortedBy
invariant_of-result c =
    rw c.new.ensures.items
    (record { by_uid = tt; counted = refl; few = omega arith; small = omega arith }, c.new-2.ensures)
