use Rattle.std.proofs.Common.{sym, ◌∙◌, subst}
use Rattle.nt_table.specs.Index.{IsRising, IsIndexed}
use Rattle.nt_table.proofs.Filed.{rising-dropped}
use Rattle.nt_table.proofs.Steps.{indexed-closed}
use Rattle.nt_table.proofs.indexed.close.Goals as goal

pub forget_ended-requires : goal.forget_ended-requires
forget_ended-requires c =
    subst (λ ts. IsRising 0 ts) (sym (c.deref.ensures.value ∙ c.in_ok-changes.ensures.topics))
    (rising-dropped 0 c.args.conn c.args.topics.now.items c.requires.rising)

pub returns-clause-indexed : goal.returns-clause-indexed
returns-clause-indexed c = λ next h.
    let right =
    indexed-closed c.args.index.now c.args.topics.now.items next h c.forget_conn.new.self c.args.conn
    c.forget_conn.ensures.ids c.forget_conn.ensures.counts c.forget_conn.ensures.names in
    subst (λ ts. IsIndexed c.forget_ended.new.index ts next) c.deref.ensures.value
    (c.forget_ended.ensures next
    (subst (λ ts. IsIndexed c.forget_conn.new.self ts next)
    (sym (c.deref.ensures.value ∙ c.in_ok-changes.ensures.topics)) right))
