use Rattle.std.proofs.Common.{◌≡◌, ℕ, List, [], true, false, ltb, refl, sym, ap, subst, arith}
use Rattle.std.proofs.lemmas.Bool.Decides.{nat_tests}
use Rattle.nt_rules.specs.outbox.Marks.{Mark, turned, at_id}
use Rattle.nt_outbox.specs.Steps.{count_at}
use Rattle.nt_outbox.proofs.Changes.{IsChange, change-at_id}
use Rattle.nt_outbox.proofs.Sound.{ids-rise, told, before-part, recounted, sound-after, ids-stay, turned-fewer}
use Rattle.nt_outbox.proofs.kept.Kept.turn.Goals as goal

pub overflow_sub-others : goal.overflow_sub-others
overflow_sub-others c =
    (before-part c.args.id c.self.inside.count c.count_at.result c.self.inside.marks.items c.self.invariant.counted
    (omega arith)
    (told c.args.id c.count_at.result c.deref.result.now c.self.inside.marks.items c.count_at.ensures
    c.deref.ensures.value)).1

-- the topic of the id alone is changed
changed_of : (id : ℕ) (ms now : List Mark) → now ≡ at_id id [] turned ms → IsChange id ms now
changed_of id ms now e = subst (IsChange id ms) (sym e) (change-at_id id [] turned ms (λ m. refl))

pub overflow_add-self : goal.overflow_add-self
overflow_add-self c =
    let sums =
    recounted c.args.id c.self.inside.count c.turned_at-self-inside.result c.count_at.result c.count_at-owed.result
    c.self.inside.marks.items c.turned_at-self-inside.new.marks.items c.self.invariant.rising (changed_of _ _ _ c.turned_at-self-inside.ensures.marks)
    c.turned_at-self-inside.ensures.rising c.self.invariant.counted (omega arith)
    c.turned_at-self-inside.ensures.weighed (omega arith)
    (told c.args.id c.count_at.result c.deref.result.now c.self.inside.marks.items c.count_at.ensures
    c.deref.ensures.value)
    (told c.args.id c.count_at-owed.result c.deref-2.result.now c.turned_at-self-inside.new.marks.items
    c.count_at-owed.ensures c.deref-2.ensures.value) in
    let small = sums.1 in omega arith

pub forget-requires : goal.forget-requires
forget-requires c =
    ids-rise c.self.inside.marks.items c.self.inside.owing.items c.self.invariant.rising c.self.invariant.named

pub invariant_of-self : goal.invariant_of-self
invariant_of-self c =
    sound-after c.args.id c.self.inside.count c.turned_at-self-inside.result c.count_at.result c.count_at-owed.result _
    false c.self.inside.marks.items c.turned_at-self-inside.new.marks.items c.self.inside.owing.items
    c.forget.new.owing.items c.self.invariant.rising (changed_of _ _ _ c.turned_at-self-inside.ensures.marks) c.turned_at-self-inside.ensures.rising
    c.self.invariant.counted (omega arith) c.turned_at-self-inside.ensures.weighed (omega arith)
    (told c.args.id c.count_at.result c.deref.result.now c.self.inside.marks.items c.count_at.ensures
    c.deref.ensures.value)
    (told c.args.id c.count_at-owed.result c.deref-2.result.now c.turned_at-self-inside.new.marks.items
    c.count_at-owed.ensures c.deref-2.ensures.value)
    refl c.self.invariant.named (sym (ap (ltb 0) c.if-owed-eq0.true)) c.forget.ensures

-- where some messages are owed, the ids stay
pub invariant_of-self-else-owed-eq0 : goal.invariant_of-self-else-owed-eq0
invariant_of-self-else-owed-eq0 c =
    let owed =
    told c.args.id c.count_at-owed.result c.deref-2.result.now c.turned_at-self-inside.new.marks.items
    c.count_at-owed.ensures c.deref-2.ensures.value in
    let fewer = turned-fewer c.args.id 0 c.self.inside.marks.items c.self.invariant.rising in
    let now = ap (count_at c.args.id) c.turned_at-self-inside.ensures.marks in
    let some : ltb 0 c.count_at-owed.result ≡ true = grind (arith, nat_tests) in
    sound-after c.args.id c.self.inside.count c.turned_at-self-inside.result c.count_at.result c.count_at-owed.result _
    true c.self.inside.marks.items c.turned_at-self-inside.new.marks.items c.self.inside.owing.items
    c.self.inside.owing.items c.self.invariant.rising (changed_of _ _ _ c.turned_at-self-inside.ensures.marks) c.turned_at-self-inside.ensures.rising
    c.self.invariant.counted (omega arith) c.turned_at-self-inside.ensures.weighed (omega arith)
    (told c.args.id c.count_at.result c.deref.result.now c.self.inside.marks.items c.count_at.ensures
    c.deref.ensures.value)
    owed refl c.self.invariant.named (sym some)
    (sym (ids-stay c.args.id c.self.inside.marks.items c.self.inside.owing.items c.self.invariant.rising (omega arith)
    c.self.invariant.named))
