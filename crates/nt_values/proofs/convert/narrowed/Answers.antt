use Rattle.std.proofs.Common.{◌≡◌, ◌*◌, ◌-◌, ◌%◌, ◌/◌, ◌^◌, ◌+◌, arith, inl, inr, refl, zero-add}
use Rattle.nt_values.proofs.Formats.{small-narrowed, large-narrowed, fraction-below, normal-narrowed}
use Rattle.nt_values.proofs.convert.narrowed.Goals as goal

pub returns-then-exponent-lt-HALF_OF_LEAST-clause-nearest : goal.returns-then-exponent-lt-HALF_OF_LEAST-clause-nearest
returns-then-exponent-lt-HALF_OF_LEAST-clause-nearest c = λ _. small-narrowed c.args.magnitude (omega arith)

pub returns-then-exponent-ge-PAST_GREATEST-clause-nearest : goal.returns-then-exponent-ge-PAST_GREATEST-clause-nearest
returns-then-exponent-ge-PAST_GREATEST-clause-nearest c = λ _. large-narrowed c.args.magnitude (omega arith)

pub overflow_cast-result : goal.overflow_cast-result
overflow_cast-result c =
    let drop = 29 + (897 - c.args.magnitude / 2 ^ 52) in
    let bounds = fraction-below c.args.magnitude drop c.rounded_off.result (omega arith) c.rounded_off.ensures in
    omega (arith, bounds.1)

pub returns-then-exponent-lt-LEAST_NORMAL-clause-within : goal.returns-then-exponent-lt-LEAST_NORMAL-clause-within
returns-then-exponent-lt-LEAST_NORMAL-clause-within c =
    let drop = 29 + (897 - c.args.magnitude / 2 ^ 52) in
    let bounds = fraction-below c.args.magnitude drop c.rounded_off.result (omega arith) c.rounded_off.ensures in
    omega (arith, bounds.1)

pub returns-then-exponent-lt-LEAST_NORMAL-clause-nearest : goal.returns-then-exponent-lt-LEAST_NORMAL-clause-nearest
returns-then-exponent-lt-LEAST_NORMAL-clause-nearest c = λ _.
    let drop = 29 + (897 - c.args.magnitude / 2 ^ 52) in
    rw zero-add at (normal-narrowed c.args.magnitude drop 0 c.rounded_off.result
    (omega arith) (omega arith) (omega arith) (inl (refl, omega arith)) c.rounded_off.ensures)

pub returns-else-exponent-lt-LEAST_NORMAL-clause-nearest : goal.returns-else-exponent-lt-LEAST_NORMAL-clause-nearest
returns-else-exponent-lt-LEAST_NORMAL-clause-nearest c = λ _.
    let r = c.rounded_off-else-exponent-lt-LEAST_NORMAL.result in
    let e = c.args.magnitude / 2 ^ 52 - 897 in
    let field : e * 2 ^ 23 % 2 ^ 32 ≡ e * 2 ^ 23 = omega arith in
    rw field (normal-narrowed c.args.magnitude 29 e r
    (omega arith) (omega arith) (omega arith) (inr refl) c.rounded_off-else-exponent-lt-LEAST_NORMAL.ensures)
