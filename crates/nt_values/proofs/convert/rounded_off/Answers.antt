use Rattle.std.proofs.Common.{◌+◌, ◌/◌, ◌^◌, refl, ap, arith}
use Rattle.std.proofs.lemmas.Nat.{and_mask}
use Rattle.nt_values.proofs.RoundedOff.{rest-is, half-is}
use Rattle.nt_values.proofs.convert.rounded_off.Goals as goal

pub returns-then-rest-half : goal.returns-then-rest-half
returns-then-rest-half c =
    let rest = rest-is c.args.value c.args.drop c.requires.within in
    let half = half-is c.args.drop c.requires.some c.requires.within in
    record { below = λ _. refl; tie = λ h. absurd (omega arith); above = λ h. absurd (omega arith) }

pub returns-then-rest-half-2 : goal.returns-then-rest-half-2
returns-then-rest-half-2 c =
    let rest = rest-is c.args.value c.args.drop c.requires.within in
    let half = half-is c.args.drop c.requires.some c.requires.within in
    record { below = λ h. absurd (omega arith); tie = λ h. absurd (omega arith); above = λ _. refl }

pub returns-else-rest-half-2 : goal.returns-else-rest-half-2
returns-else-rest-half-2 c =
    let rest = rest-is c.args.value c.args.drop c.requires.within in
    let half = half-is c.args.drop c.requires.some c.requires.within in
    let last = and_mask (c.args.value / 2 ^ c.args.drop) 1 in
    record {
      below = λ h. absurd (omega arith);
      tie = λ _. ap (λ n. c.args.value / 2 ^ c.args.drop + n) last;
      above = λ h. absurd (omega arith);
    }
