use Rattle.std.proofs.Common.{◌≤◌, length, List, subst, ◌∙◌, arith}
use Rattle.std.proofs.lemmas.List.{take_all}
use Rattle.nt_world.specs.declared.step.WorldStep.{WorldStep}
use Rattle.nt_world.specs.World.{Runs, with_steps}
use Rattle.nt_world.proofs.Clients.{runs-more}
use Rattle.nt_world.proofs.world.run_all.Goals as goal

pub loop-step-preserved : goal.loop-step-preserved
loop-step-preserved c = record {
  runs = λ decode is_decoding scene h.
      runs-more decode c.args.steps.now c.loop-step.step-index c.step-item.result scene _ _ _ c.loop-step-test.true
      c.step-item.is
      (c.in_ok-make.ensures.runs decode is_decoding _ (c.loop-step.invariant.runs decode is_decoding scene h));
  count = c.in_ok-make.ensures.count ∙ c.loop-step.invariant.count;
}

pub returns-clause-runs : goal.returns-clause-runs
returns-clause-runs c = λ decode is_decoding scene h.
    let end : length c.args.steps.now ≤ c.loop-step.step-index = omega arith in
    subst (λ (ss : List WorldStep). Runs c.loop-step.host.server c.loop-step.host.entries c.loop-step.peers.items
    (with_steps decode ss scene)) (take_all c.loop-step.step-index c.args.steps.now end)
    (c.loop-step.invariant.runs decode is_decoding scene h)
