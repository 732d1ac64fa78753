use Rattle.std.proofs.Common.{refl, sym, ◌∙◌, subst, to_z, of_z, w64}
use Rattle.std.proofs.lemmas.Int.{to_z-of_z}
use Rattle.nt_table.specs.Index.{IsIndexed}
use Rattle.nt_rules.specs.topics.Topics.{put_cause}
use Rattle.nt_table.proofs.Steps.{if-ok, publisher-passed, position-publisher, indexed-put}
use Rattle.nt_table.proofs.table.Table.put.Goals as goal

pub put-outcome-requires-clause-indexed : goal.put-outcome-requires-clause-indexed
put-outcome-requires-clause-indexed c =
    publisher-passed c.self.inside.index c.self.inside.topics.items c.self.inside.topics.items c.args.conn c.args.uid _
    refl
    (sym (to_z-of_z w64 c.args.uid c.ranges.uid))
    (position-publisher c.self.inside.index c.self.inside.topics.items c.self.inside.next
    (c.self.invariant c.if-self.false)
    c.args.conn c.args.uid)

pub invariant_of-self : goal.invariant_of-self
invariant_of-self c = λ well.
    subst (λ ts. IsIndexed c.self.inside.index ts c.self.inside.next)
    (sym (if-ok c.put-outcome.result c.put-outcome.ensures.topics (sym c.is_err-self-inside.ensures.value ∙ well)))
    (indexed-put c.self.inside.index c.self.inside.topics.items c.self.inside.next (c.self.invariant c.if-self.false)
    c.args.conn (to_z w64 (of_z w64 c.args.uid)) c.args.time c.args.value
    (put_cause c.self.inside.topics.items c.args.conn (to_z w64 (of_z w64 c.args.uid)) c.args.time c.args.value))
