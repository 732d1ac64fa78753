use Rattle.std.proofs.Common.{◌≡◌, ℕ, Err, ◌-◌, subst, arith, rules}
use Rattle.std.specs.Io.KnownBytes.{Appends}
use Rattle.std.proofs.lemmas.Result.{err_from_is_err_and}
use Rattle.nt_cli.specs.Desk.{start, drained, after_drains}
use Rattle.nt_cli.specs.DeskRun.{IsConnected}
use Rattle.nt_tools.specs.Printing.{Prints}
use Rattle.nt_cli.proofs.DeskSteps.{drains-more, drains-stopped, drains-end, drains-last}
use Rattle.nt_cli.proofs.turn.drain_all.Goals as goal

pub returns-in_err-drain-clause-prints : goal.returns-in_err-drain-clause-prints
returns-in_err-drain-clause-prints g c =
    let p = err_from_is_err_and c.from_residual.result c.from_residual.ensures.1 in
    rw (p.1, p.2) (λ past connected.
    let d = c.loop.invariant.0 past connected in
    subst (λ (n : ℕ). Prints (drained n past c.args.moment) (g.O.Sink.taken c.args.out.now)
    (g.O.Sink.taken c.drain.new.out) (Err c.in_err-drain.field-0.0))
    (c.pending-owed.ensures start past connected.represents)
    (drains-stopped _ _ _ past _ _ _ _ _ d c.loop-test.true
    (λ none. c.if-pending-eq0.false (omega (arith, none, c.pending.ensures start d.here d.connected.represents)))
    (c.in_err-drain.ensures.prints d.here d.connected)))

pub loop-preserved : goal.loop-preserved
loop-preserved g c = (
  λ past connected.
      let d = c.loop.invariant.0 past connected in
      drains-more _ _ _ past _ _ _ _ _ d c.loop-test.true
      (λ none. c.if-pending-eq0.false (omega (arith, none, c.pending.ensures start d.here d.connected.represents)))
      (c.in_ok-drain.ensures.prints d.here d.connected) (c.in_ok-drain.ensures.connected d.here d.connected),
  search rules,
)

pub returns-after-loop-clause-prints : goal.returns-after-loop-clause-prints
returns-after-loop-clause-prints g c = λ past connected.
    let none : c.pending-owed.result - c.loop.counter ≡ 0 = omega (arith, c.loop-test.false) in
    subst (λ (n : ℕ). Appends (g.O.Sink.taken c.args.out.now) (g.O.Sink.taken c.loop.out)
    (drained n past c.args.moment)) (c.pending-owed.ensures start past connected.represents)
    (drains-last _ _ _ past _ _ _ (c.loop.invariant.0 past connected) none).0

pub returns-after-loop-clause-connected : goal.returns-after-loop-clause-connected
returns-after-loop-clause-connected g c = λ past connected.
    let none : c.pending-owed.result - c.loop.counter ≡ 0 = omega (arith, c.loop-test.false) in
    subst (λ (n : ℕ). IsConnected c.loop.server (after_drains n past c.args.moment))
    (c.pending-owed.ensures start past connected.represents)
    (drains-last _ _ _ past _ _ _ (c.loop.invariant.0 past connected) none).1

pub returns-then-pending-eq0-clause-prints : goal.returns-then-pending-eq0-clause-prints
returns-then-pending-eq0-clause-prints g c = λ past connected.
    let d = c.loop.invariant.0 past connected in
    subst (λ (n : ℕ). Appends (g.O.Sink.taken c.args.out.now) (g.O.Sink.taken c.loop.out)
    (drained n past c.args.moment)) (c.pending-owed.ensures start past connected.represents)
    (drains-end _ _ _ past _ _ _ d (omega (
      arith,
      c.if-pending-eq0.true,
      c.pending.ensures start d.here
          d.connected.represents,
    ))).0

pub returns-then-pending-eq0-clause-connected : goal.returns-then-pending-eq0-clause-connected
returns-then-pending-eq0-clause-connected g c = λ past connected.
    let d = c.loop.invariant.0 past connected in
    subst (λ (n : ℕ). IsConnected c.loop.server (after_drains n past c.args.moment))
    (c.pending-owed.ensures start past connected.represents)
    (drains-end _ _ _ past _ _ _ d (omega (
      arith,
      c.if-pending-eq0.true,
      c.pending.ensures start d.here
          d.connected.represents,
    ))).1
