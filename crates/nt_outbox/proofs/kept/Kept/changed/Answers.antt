use Rattle.std.proofs.Common.{◌≡◌, ◌<◌, ◌+◌, ◌-◌, ◌^◌, refl, sym, subst, arith}
use Rattle.nt_outbox.specs.Steps.{after, count}
use Rattle.nt_outbox.proofs.Places.{after-id}
use Rattle.nt_outbox.proofs.Changes.{IsChange, change-at_id}
use Rattle.nt_outbox.proofs.Sound.{ids-rise, told, before-part, recounted, sound-after}
use Rattle.nt_outbox.proofs.kept.Kept.changed.Goals as goal

pub overflow_sub-others : goal.overflow_sub-others
overflow_sub-others c =
    (before-part c.args.id c.self.inside.count c.count_at.result c.self.inside.marks.items c.self.invariant.counted
    (omega arith)
    (told c.args.id c.count_at.result c.deref.result.now c.self.inside.marks.items c.count_at.ensures
    c.deref.ensures.value)).1

pub note-requires : goal.note-requires
note-requires c =
    ids-rise c.self.inside.marks.items c.self.inside.owing.items c.self.invariant.rising c.self.invariant.named

-- the topic of the id alone is changed
changed_of : (c : goal.In_ok-note) → IsChange c.args.id c.self.inside.marks.items c.change.new.marks.items
changed_of c =
    subst (IsChange c.args.id c.self.inside.marks.items) (sym c.in_ok-weight.ensures.marks)
    (change-at_id c.args.id c.args.name.now (after c.args.step) c.self.inside.marks.items (after-id c.args.step))

pub overflow_add-result : goal.overflow_add-result
overflow_add-result c =
    let sums =
    recounted c.args.id c.self.inside.count c.in_ok-weight.weight c.count_at.result c.count_at-owed.result
    c.self.inside.marks.items c.change.new.marks.items c.self.invariant.rising (changed_of c)
    c.in_ok-weight.ensures.rising c.self.invariant.counted (omega arith) c.in_ok-weight.ensures.weighed (omega arith)
    (told c.args.id c.count_at.result c.deref.result.now c.self.inside.marks.items c.count_at.ensures
    c.deref.ensures.value)
    (told c.args.id c.count_at-owed.result c.deref-2.result.now c.change.new.marks.items c.count_at-owed.ensures
    c.deref-2.ensures.value) in
    let small = sums.1 in omega arith

pub invariant_of-result : goal.invariant_of-result
invariant_of-result c =
    sound-after c.args.id c.self.inside.count c.in_ok-weight.weight c.count_at.result c.count_at-owed.result _ _
    c.self.inside.marks.items c.change.new.marks.items c.self.inside.owing.items c.note.new.owing.items
    c.self.invariant.rising (changed_of c) c.in_ok-weight.ensures.rising c.self.invariant.counted (omega arith)
    c.in_ok-weight.ensures.weighed (omega arith)
    (told c.args.id c.count_at.result c.deref.result.now c.self.inside.marks.items c.count_at.ensures
    c.deref.ensures.value)
    (told c.args.id c.count_at-owed.result c.deref-2.result.now c.change.new.marks.items c.count_at-owed.ensures
    c.deref-2.ensures.value)
    refl c.self.invariant.named refl c.in_ok-note.ensures
