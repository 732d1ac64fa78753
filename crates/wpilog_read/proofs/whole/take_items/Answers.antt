use Rattle.std.proofs.Common.{[], ◌∷◌, arith, rules, append_assoc}
use Rattle.wpilog_read.proofs.whole.take_items.Goals as goal

pub returns-in_err-push-in-Ok-Some-clause-kept : goal.returns-in_err-push-in-Ok-Some-clause-kept
returns-in_err-push-in-Ok-Some-clause-kept c = λ bytes before stands.
    let taken = c.loop-item.invariant bytes before stands in
    let e = rw c.in-Ok-Some.field-0-is at c.in-Ok-Some.ensures in
    (taken.0, c.in-Ok-Some.item ∷ [], search rules, omega arith, rw (← append_assoc) (e.stands bytes _ taken.2))
