use Rattle.std.proofs.Common.{rules, ◌≡◌, sym, subst}
use Rattle.nt_rules.specs.history.Step.{Steps}
use Rattle.nt_hall.proofs.work.step_noted.Goals as goal

pub returns-clause-steps : goal.returns-clause-steps
returns-clause-steps g c =
    let out = c.in_ok-out.field-0.out in
    let same : c.of-made.result.value ≡ c.in_ok-out.field-0.entry = search rules in
    λ start past stands.
    subst (λ e. Steps start past c.args.worker c.args.now c.args.act out e c.step.new.self) (sym same)
    (c.in_ok-out.ensures.steps start past stands)
