use Rattle.std.proofs.Common.{◌≡◌, true, false, cond, Some, None, ◌∙◌, ap, arith, rules}
use Rattle.nt_rules.proofs.Positions.{keep-change, remove-change}
use Rattle.nt_rules.specs.outbox.Marks.{is_blank}
use Rattle.nt_outbox.specs.Steps.{left_of}
use Rattle.nt_outbox.proofs.marks.settle.Goals as goal

pub returns-then-is_blank : goal.returns-then-is_blank
returns-then-is_blank c =
    let blank : is_blank c.index.result.now ≡ true = search rules in
    c.remove.ensures.items
    ∙ remove-change left_of c.args.marks.now.items c.args.i c.index.result.now (omega arith) c.index.ensures
    (ap (λ b. cond b None (Some c.index.result.now)) blank)

pub returns-else-is_blank : goal.returns-else-is_blank
returns-else-is_blank c =
    let kept : is_blank c.index.result.now ≡ false = search rules in
    keep-change left_of c.args.marks.now.items c.args.i c.index.result.now c.index.ensures
    (ap (λ b. cond b None (Some c.index.result.now)) kept)
