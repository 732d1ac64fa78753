use Rattle.std.proofs.Common.{◌≡◌, rules, arith}
use Rattle.nt_lines.specs.ItemLines.{escaped, field}
use Rattle.nt_lines.proofs.Escapes.{field-long}
use Rattle.nt_lines.proofs.field.FieldDisplay.fmt.Goals as goal

pub returns-in_default-clause-writes : goal.returns-in_default-clause-writes
returns-in_default-clause-writes g c = λ plain done.
    let text : escaped c.args.self.now.0.now ≡ field c.args.self.now.0.now = search (rules, arith, field-long) in
    rw (← text, ← c.with_escapes-escaped.ensures) (c.write-in_default.ensures.writes plain done)
