use Rattle.std.proofs.Common.{◌≡◌, ◌∙◌, map, refl, sym, subst, arith}
use Rattle.nt_outbox.specs.Steps.{RiseFrom}
use Rattle.nt_outbox.proofs.Places.{rise-handed}
use Rattle.nt_outbox.proofs.Changes.{IsChange}
use Rattle.nt_outbox.proofs.Runs.{change-handed}
use Rattle.nt_outbox.proofs.Sound.{ids-rise, told, before-part, recounted, sound-after}
use Rattle.nt_outbox.proofs.kept.Kept.hand.Goals as goal

pub overflow_sub-others : goal.overflow_sub-others
overflow_sub-others c =
    (before-part c.args.id c.self.inside.count c.count_at.result c.self.inside.marks.items c.self.invariant.counted
    (omega arith)
    (told c.args.id c.count_at.result c.deref.result.now c.self.inside.marks.items c.count_at.ensures
    c.deref.ensures.value)).1

pub count_at-left-requires : goal.count_at-left-requires
count_at-left-requires c =
    subst (RiseFrom 0) (sym (c.deref-2.ensures.value ∙ c.in_ok-weight.ensures.marks))
    (rise-handed 0 c.args.run.now c.self.inside.marks.items c.self.invariant.rising)

pub note-requires : goal.note-requires
note-requires c =
    ids-rise c.self.inside.marks.items c.self.inside.owing.items c.self.invariant.rising c.self.invariant.named

-- the topic of the id alone is changed
changed_of : (c : goal.In_ok-note) → IsChange c.args.id c.self.inside.marks.items c.hand_at.new.marks.items
changed_of c =
    subst (IsChange c.args.id c.self.inside.marks.items) (sym c.in_ok-weight.ensures.marks)
    (change-handed c.args.id c.args.run.now c.self.inside.marks.items c.self.invariant.rising c.requires)

rises_of : (c : goal.In_ok-note) → RiseFrom 0 c.hand_at.new.marks.items
rises_of c =
    subst (RiseFrom 0) (sym c.in_ok-weight.ensures.marks)
    (rise-handed 0 c.args.run.now c.self.inside.marks.items c.self.invariant.rising)

pub overflow_add-kept : goal.overflow_add-kept
overflow_add-kept c =
    let sums =
    recounted c.args.id c.self.inside.count c.in_ok-weight.weight c.count_at.result c.count_at-left.result
    c.self.inside.marks.items c.hand_at.new.marks.items c.self.invariant.rising (changed_of c) (rises_of c)
    c.self.invariant.counted (omega arith) c.in_ok-weight.ensures.weighed (omega arith)
    (told c.args.id c.count_at.result c.deref.result.now c.self.inside.marks.items c.count_at.ensures
    c.deref.ensures.value)
    (told c.args.id c.count_at-left.result c.deref-2.result.now c.hand_at.new.marks.items c.count_at-left.ensures
    c.deref-2.ensures.value) in
    let small = sums.1 in omega arith

pub invariant_of-kept : goal.invariant_of-kept
invariant_of-kept c =
    sound-after c.args.id c.self.inside.count c.in_ok-weight.weight c.count_at.result c.count_at-left.result _ _
    c.self.inside.marks.items c.hand_at.new.marks.items c.self.inside.owing.items c.note.new.owing.items
    c.self.invariant.rising (changed_of c) (rises_of c) c.self.invariant.counted (omega arith)
    c.in_ok-weight.ensures.weighed (omega arith)
    (told c.args.id c.count_at.result c.deref.result.now c.self.inside.marks.items c.count_at.ensures
    c.deref.ensures.value)
    (told c.args.id c.count_at-left.result c.deref-2.result.now c.hand_at.new.marks.items c.count_at-left.ensures
    c.deref-2.ensures.value)
    refl c.self.invariant.named refl c.in_ok-note.ensures
