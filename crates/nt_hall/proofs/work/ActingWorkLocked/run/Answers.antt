use Rattle.std.proofs.Common.{rules, ◌≡◌, false, refl, ap, sym}
use Rattle.nt_rules.specs.history.Order.{origin_in}
use Rattle.nt_hall.specs.Locked.{LockedView}
use Rattle.nt_hall.proofs.Acting.{is-acted}
use Rattle.nt_hall.proofs.work.ActingWorkLocked.run.Goals as goal

pub returns-clause-did : goal.returns-clause-did
returns-clause-did g c =
    let was = c.locked.inside in
    let same = sym c.locked.view_is in
    let well : c.locked.inside.failed ≡ false = search rules in
    is-acted _ _ was.server c.step_noted.new.server _ _ _ _ c.in_ok-out.made.value c.in_ok-out.ensures.steps
    (g.J.Journal.told was.journal) (origin_in was.first_server.value) was.failed
    (ap (λ (l : LockedView g.row.S.Denot). l.kept.told) same)
    (ap (λ (l : LockedView g.row.S.Denot). l.kept.origin.start) same)
    (ap (λ (l : LockedView g.row.S.Denot). l.kept.failed) same) well refl c.in_ok-out.ensures.entry
    c.locked.invariant.stands c.in_ok-out.ensures.told
