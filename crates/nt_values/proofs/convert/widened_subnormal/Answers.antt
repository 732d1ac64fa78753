use Rattle.std.proofs.Common.{◌≡◌, ◌*◌, ◌-◌, ◌%◌, ◌^◌, ◌<◌, ap, ◌∙◌, arith}
use Rattle.std.specs.Int.{w64, leading_zeros}
use Rattle.nt_values.specs.Bits.{float_format, worth}
use Rattle.nt_values.proofs.Formats.{zeros-bounds, fraction-leading, subnormal-widened}
use Rattle.nt_values.proofs.convert.widened_subnormal.Goals as goal

pub overflow_sub-result : goal.overflow_sub-result
overflow_sub-result c =
    let some : 0 < c.from-wide.result = omega arith in
    let below : c.from-wide.result < 2 ^ 23 = omega arith in
    let zeros = zeros-bounds c.from-wide.result some below in
    omega (arith, zeros.0)

pub overflow_add-result : goal.overflow_add-result
overflow_add-result c =
    let some : 0 < c.from-wide.result = omega arith in
    let below : c.from-wide.result < 2 ^ 23 = omega arith in
    let leading = fraction-leading c.from-wide.result some below in
    let high = leading.high in
    omega arith

pub returns-clause-finite : goal.returns-clause-finite
returns-clause-finite c =
    let some : 0 < c.from-wide.result = omega arith in
    let below : c.from-wide.result < 2 ^ 23 = omega arith in
    let leading = fraction-leading c.from-wide.result some below in
    let high = leading.high in
    omega arith

pub returns-clause-value : goal.returns-clause-value
returns-clause-value c =
    let some : 0 < c.from-wide.result = omega arith in
    let below : c.from-wide.result < 2 ^ 23 = omega arith in
    let leading = fraction-leading c.from-wide.result some below in
    let high = leading.high in
    let field : c.from.result * 2 ^ 52 % 2 ^ 64
    ≡ (936 - leading_zeros w64 c.from-wide.result) * 2 ^ 52 = omega arith in
    let fraction : c.from-wide.result * 2 ^ (leading_zeros w64 c.from-wide.result - 11) % 2 ^ 64
    ≡ c.from-wide.result * 2 ^ (leading_zeros w64 c.from-wide.result - 11) = omega arith in
    rw (field, fraction) (
    subnormal-widened c.from-wide.result some below ∙ ap (worth float_format) c.from-wide.ensures)
