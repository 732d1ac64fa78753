use Rattle.std.proofs.Common.{◌≡◌, Some, ap, subst, sym, ◌∙◌, rules}
use Rattle.std.specs.BTreeMap.{UpdatesBy}
use Rattle.nt_subs.proofs.Bytes.{compare, place, said-changed, said-entries}
use Rattle.nt_subs.specs.Index.{counts_or_none, more}
use Rattle.nt_subs.proofs.given.note_in.Goals as goal

pub returns-in-Some-clause-ok : goal.returns-in-Some-clause-ok
returns-in-Some-clause-ok c =
    said-changed (more c.args.wish) c.args.name.now c.args.tally.now (c.get_mut.follows.lender c.more.new.self)
    (Some c.more.new.self)
    ((c.get_mut.follows.holds c.more.new.self).3 (search rules))
    (c.more.ensures ∙ ap (λ o. more c.args.wish (counts_or_none o)) c.in-Some.ensures.value)

pub returns-clause-ok : goal.returns-clause-ok
returns-clause-ok c = λ n.
    let m = c.get_mut.follows.lender-at-none in
    let same : m.entries ≡ c.args.tally.now.entries = search rules in
    rw (sym (said-entries m c.args.tally.now same n))
    (said-changed (more c.args.wish) c.args.name.now m c.insert.new.self (Some c.more-2.new.self)
    (subst (λ l. UpdatesBy compare (place l) m c.insert.new.self (Some c.more-2.new.self))
    c.in_ok-from_slice.ensures.items c.in_ok-insert.ensures.updates)
    (c.more-2.ensures ∙ ap (λ o. more c.args.wish (counts_or_none o)) c.in_default.ensures.value
    ∙ ap (more c.args.wish) (sym (said-entries m c.args.tally.now same c.args.name.now))) n)
