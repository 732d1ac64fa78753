use Rattle.std.proofs.Common.{◌≡◌, ◌*◌, ◌-◌, ◌%◌, ◌^◌, ◌<◌, arith, rules}
use Rattle.std.proofs.lemmas.Nat.{leading_le}
use Rattle.std.specs.Int.{w64, leading_zeros}
use Rattle.nt_values.specs.Bits.{float_format}
use Rattle.nt_values.proofs.Wholes.{moved-top, zero-nearest, float-nearest}
use Rattle.nt_values.proofs.convert.float_of_whole.Goals as goal

pub returns-then-whole-eq0 : goal.returns-then-whole-eq0
returns-then-whole-eq0 c = rw c.if-whole-eq0.true (zero-nearest float_format (omega arith))

pub returns : goal.returns
returns c =
    let some : 0 < c.args.whole = omega arith in
    let top = moved-top c.args.whole some (search rules) in
    let high = top.high in
    let zeros = leading_le 64 c.args.whole in
    let moved : c.args.whole * 2 ^ leading_zeros w64 c.args.whole % 2 ^ 64
    ≡ c.args.whole * 2 ^ leading_zeros w64 c.args.whole = omega arith in
    let field : (190 - leading_zeros w64 c.args.whole - 1) * 2 ^ 23 % 2 ^ 32
    ≡ (189 - leading_zeros w64 c.args.whole) * 2 ^ 23 = omega arith in
    rw field (float-nearest c.args.whole c.rounded_off-significand.result some (search rules)
    (rw moved at c.rounded_off-significand.ensures))
