use Rattle.std.proofs.Common.{◌/◌, ◌^◌, ◌<◌, arith}
use Rattle.std.proofs.lemmas.Nat.{or_lt, le_or_r}
use Rattle.nt_values.proofs.convert.quiet_nan.Goals as goal

pub overflow_add-result : goal.overflow_add-result
overflow_add-result c =
    let high : c.args.fraction / 2 ^ 29 < 2 ^ 23 = omega arith in
    omega (arith, or_lt 23 (c.args.fraction / 2 ^ 29) (2 ^ 22) high (omega arith))

pub returns-clause-within : goal.returns-clause-within
returns-clause-within c =
    let high : c.args.fraction / 2 ^ 29 < 2 ^ 23 = omega arith in
    omega (arith, or_lt 23 (c.args.fraction / 2 ^ 29) (2 ^ 22) high (omega arith))

pub returns-clause-nan : goal.returns-clause-nan
returns-clause-nan c = omega (arith, le_or_r (c.args.fraction / 2 ^ 29) (2 ^ 22))

pub returns-clause-nan_fraction : goal.returns-clause-nan_fraction
returns-clause-nan_fraction c =
    let high : c.args.fraction / 2 ^ 29 < 2 ^ 23 = omega arith in
    omega (arith, or_lt 23 (c.args.fraction / 2 ^ 29) (2 ^ 22) high (omega arith))
