use Rattle.std.proofs.Common.{[], ap, subst, sym, ◌∙◌, arith}
use mir.Val.{bool_byte}
use Rattle.nt_lock.specs.Notes.{MayNote}
use Rattle.nt_lock.specs.Passes.{HasDone}
use Rattle.nt_lock.proofs.Notes.{made-more-is, tells-same}
use Rattle.nt_lock.proofs.Steps.{counts, leaves}
use Rattle.nt_lock.proofs.Taking.{same-value, took}
use Rattle.nt_lock.proofs.lock.Lock+L.take_turn.Goals as goal

pub fetch_add-requires : goal.fetch_add-requires
fetch_add-requires g c =
    let words = c.args.self.now.sized.0 in
    let idle = c.requires.idle in
    let e = c.enter.ensures.entered in
    let w = c.work_on-reply.ensures.done in
    let kept = g.L.Told.kept in
    let last = g.L.Told.last in
    let d =
    subst (λ x. HasDone kept last (g.W.Work.did c.args.work) c.args.worker x c.work_on-reply.result.0 w.1)
    (same-value kept c.args.pass.now.me c.enter.new.pass.me w.0 e w.2) w.5 in (
      c.work_on-reply.ensures.own.0 ∙ (c.enter.ensures.own.0 ∙ c.requires.own),
      omega arith,
      counts kept _ last _ _ c.work_on-reply.new.pass.me e.number_is (kept e.value) w.1 _ idle.hand []
          (ap (λ m. m.0.known.hands) w.3 ∙ (ap (λ m. m.0.known.hands) e.now_is ∙ idle.hands))
          (ap (λ m. m.0.stage) w.3 ∙ ap (λ m. m.0.stage) e.now_is)
          (ap (λ m. m.1) w.3)
          (ap bool_byte w.4 ∙ made-more-is (last w.1))
          d.tells
          (subst (λ worker. MayNote worker (kept e.value).failed (last w.1)) (sym idle.own_hand) d.may)
          d.room,
    )

pub fetch_add-requires-2 : goal.fetch_add-requires-2
fetch_add-requires-2 g c =
    let words = c.args.self.now.sized.0 in
    let e = c.enter.ensures.entered in
    let w = c.work_on-reply.ensures.done in
    let kept = g.L.Told.kept in
    let slot = ap (λ m. m.1) w.3 in
    let n = c.fetch_add.ensures.2 e.number_is (kept e.value) w.1
    (ap (λ m. m.0.stage) w.3 ∙ ap (λ m. m.0.stage) e.now_is) slot in (
      c.fetch_add.ensures.0 ∙ (c.work_on-reply.ensures.own.0 ∙ (c.enter.ensures.own.0 ∙ c.requires.own)),
      omega arith,
      leaves kept _ _ _ c.fetch_add.new.seat.me e.number_is (kept w.1) w.1 (ap (λ m. m.0.stage) n.now_is)
          (ap (λ m. m.1) n.now_is ∙ slot) (tells-same (kept w.1)),
    )

pub returns-clause-took : goal.returns-clause-took
returns-clause-took g c =
    let e = c.enter.ensures.entered in
    let w = c.work_on-reply.ensures.done in
    let kept = g.L.Told.kept in
    let last = g.L.Told.last in
    let did = g.W.Work.did c.args.work in
    let d =
    subst (λ x. HasDone kept last did c.args.worker x c.work_on-reply.result.0 w.1)
    (same-value kept c.args.pass.now.me c.enter.new.pass.me w.0 e w.2) w.5 in
    let n = c.fetch_add.ensures.2 e.number_is (kept e.value) w.1
    (ap (λ m. m.0.stage) w.3 ∙ ap (λ m. m.0.stage) e.now_is) (ap (λ m. m.1) w.3) in
    took kept last did c.args.worker c.args.pass.now.me c.enter.new.pass.me c.work_on-reply.new.pass.me
    c.fetch_add.new.seat.me c.fetch_add-2.new.seat.me c.work_on-reply.result.0 e w.1 w.3 d n c.fetch_add-2.ensures.2
