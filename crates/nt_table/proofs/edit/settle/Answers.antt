use Rattle.std.proofs.Common.{◌≡◌, true, false, cond, Some, None, ◌∙◌, ap, arith, rules}
use Rattle.nt_rules.specs.topics.Topics.{lives_on, if_it_lives_on}
use Rattle.nt_rules.proofs.Positions.{keep-change, remove-change}
use Rattle.nt_table.proofs.edit.settle.Goals as goal

pub returns-then-not-lives_on : goal.returns-then-not-lives_on
returns-then-not-lives_on c =
    let over : lives_on c.index.result.now ≡ false = search rules in
    c.remove-gone.ensures.items
    ∙ remove-change if_it_lives_on c.args.topics.now.items c.args.i c.index.result.now (omega arith) c.index.ensures
    (ap (λ b. cond b (Some c.index.result.now) None) over)

pub returns-else-not-lives_on : goal.returns-else-not-lives_on
returns-else-not-lives_on c =
    let on : lives_on c.index.result.now ≡ true = search rules in
    keep-change if_it_lives_on c.args.topics.now.items c.args.i c.index.result.now c.index.ensures
    (ap (λ b. cond b (Some c.index.result.now) None) on)
