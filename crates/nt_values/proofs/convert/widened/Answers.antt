use Rattle.std.proofs.Common.{◌≡◌, ◌+◌, ◌*◌, ◌%◌, ◌^◌, ◌≤◌, ap, sym, ◌∙◌, arith}
use Rattle.nt_values.specs.Bits.{float_format, double_format, worth}
use Rattle.nt_values.proofs.Patterns.{worth-zero}
use Rattle.nt_values.proofs.Formats.{normal-widened}
use Rattle.nt_values.proofs.convert.widened.Goals as goal
use Rattle.nt_values.proofs.convert.widened.Goals.{then-magnitude-lt-FLOAT_INFINITY, else-magnitude-lt-FLOAT_INFINITY}

pub returns-then-magnitude-eq0-clause-value : goal.returns-then-magnitude-eq0-clause-value
returns-then-magnitude-eq0-clause-value c = λ _.
    let none : worth float_format c.args.magnitude ≡ 0 =
    ap (worth float_format) c.if-magnitude-eq0.true ∙ worth-zero float_format in
    worth-zero double_format ∙ sym none

pub returns-clause-value : goal.returns-clause-value
returns-clause-value c = λ finite.
    let exponents : c.if-magnitude-lt-FLOAT_INFINITY.exponents ≡ 896 =
    elim c.if-magnitude-lt-FLOAT_INFINITY.branch [
      | then-magnitude-lt-FLOAT_INFINITY w ↦ w.exponents-is
      | else-magnitude-lt-FLOAT_INFINITY w ↦ absurd (omega arith)
    ] in
    let normal : 2 ^ 23 ≤ c.from.result = omega arith in
    let place : c.from.result * 2 ^ 29 % 2 ^ 64 + c.if-magnitude-lt-FLOAT_INFINITY.exponents * 2 ^ 52 % 2 ^ 64
    ≡ c.from.result * 2 ^ 29 + 896 * 2 ^ 52 = omega arith in
    ap (worth double_format) place ∙ normal-widened c.from.result normal ∙ ap (worth float_format) c.from.ensures
