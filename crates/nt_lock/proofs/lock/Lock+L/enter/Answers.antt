use Rattle.std.proofs.Common.{ℕ, [], ap, sym, subst, ◌∙◌, arith}
use Rattle.nt_lock.specs.declared.view.Stage.TheVariants.{Waiting}
use Rattle.nt_lock.specs.Steps.{view_of, Enters}
use Rattle.nt_lock.proofs.Steps.{draws, enters}
use Rattle.nt_lock.proofs.lock.Lock+L.enter.Goals as goal

pub fetch_add-ticket-requires : goal.fetch_add-ticket-requires
fetch_add-ticket-requires g c =
    let words = c.args.self.now.sized.0 in
    let idle = c.requires.idle.1 in
    (c.requires.own, omega arith, draws g.L.Told.kept _ _ _ c.args.pass.now.me idle.hand [] idle.hands idle.stage)

pub loop-init : goal.loop-init
loop-init g c =
    let e = c.fetch_add-ticket.ensures in (
      e.0,
      e.1,
      (
        e.2.0,
        e.2.1,
        e.2.2
            ∙ (λ i. (
              view_of c.args.pass.now.me.0.origin (Waiting e.2.0) c.args.pass.now.me.0.known,
              c.requires.idle.1.slot i,
            )),
      ),
    )

pub load-requires : goal.load-requires
load-requires g c =
    let words = c.args.self.now.sized.0 in
    let inv = c.loop.invariant in (
      inv.0 ∙ c.requires.own,
      omega arith,
      enters g.L.Told.kept _ _ _ c.loop.pass.me inv.2.0 (ap (λ m. m.0.stage) inv.2.2),
    )

pub returns-then-load-ticket-clause-own : goal.returns-then-load-ticket-clause-own
returns-then-load-ticket-clause-own g c =
    let inv = c.loop.invariant in
    (c.load.ensures.0 ∙ inv.0, c.load.ensures.1 ∙ inv.1)

pub returns-then-load-ticket-clause-entered : goal.returns-then-load-ticket-clause-entered
returns-then-load-ticket-clause-entered g c =
    let inv = c.loop.invariant in
    let n : ℕ = inv.2.0 in
    let did =
    subst (λ m. Enters g.L.Told.kept n m c.load.new.seat.me) inv.2.2
    ((c.load.ensures.2 n (ap (λ m. m.0.stage) inv.2.2)).0 (c.if-load-ticket.true ∙ inv.2.1)) in
    record {
      number_is = n;
      value = did.value;
      now_is = did.now_is;
      origin = did.origin;
      finds = did.finds;
    }

pub loop-preserved : goal.loop-preserved
loop-preserved g c =
    let inv = c.loop.invariant in
    let n : ℕ = inv.2.0 in
    let same = (c.load.ensures.2 n (ap (λ m. m.0.stage) inv.2.2)).1 (λ e. c.if-load-ticket.false (e ∙ sym inv.2.1)) in
    (c.load.ensures.0 ∙ inv.0, c.load.ensures.1 ∙ inv.1, (n, inv.2.1, same ∙ inv.2.2))
