use Rattle.std.proofs.Common.{arith}
use Rattle.nt_lines.proofs.Escapes.{encoded}
use Rattle.nt_lines.proofs.field.with_escapes.Goals as goal

pub returns : goal.returns
returns c = rw c.percent_encode.ensures.text (encoded c.args.text.now (λ i within. omega (arith, c.type_inv.text i)))
