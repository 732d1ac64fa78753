use Rattle.std.proofs.Common.{◌≡◌, Some, ap, ◌∙◌, rules}
use Rattle.nt_subs.proofs.Bytes.{said-changed, said-forgotten}
use Rattle.nt_subs.proofs.Counted.{nothing_left}
use Rattle.nt_subs.specs.Index.{none, counts_or_none, less}
use Rattle.nt_subs.proofs.given.forget_in.Goals as goal

pub returns-then-eq : goal.returns-then-eq
returns-then-eq c = λ n.
    let left : c.less.new.self ≡ none = nothing_left c.less.new.self (search rules) in
    said-forgotten c.args.name.now (c.get_mut.follows.lender c.less.new.self) c.remove.new.self
    c.remove.ensures.updates
    (ap counts_or_none ((c.get_mut.follows.holds c.less.new.self).3 (search rules)).1 ∙ left) n
    ∙ said-changed (less c.args.wish) c.args.name.now c.args.tally.now (c.get_mut.follows.lender c.less.new.self)
    (Some c.less.new.self)
    ((c.get_mut.follows.holds c.less.new.self).3 (search rules))
    (c.less.ensures ∙ ap (λ o. less c.args.wish (counts_or_none o)) c.in-Some.ensures.value) n

pub returns-else-eq : goal.returns-else-eq
returns-else-eq c =
    said-changed (less c.args.wish) c.args.name.now c.args.tally.now (c.get_mut.follows.lender c.less.new.self)
    (Some c.less.new.self)
    ((c.get_mut.follows.holds c.less.new.self).3 (search rules))
    (c.less.ensures ∙ ap (λ o. less c.args.wish (counts_or_none o)) c.in-Some.ensures.value)
