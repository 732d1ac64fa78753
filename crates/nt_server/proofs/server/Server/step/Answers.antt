use Rattle.std.proofs.Common.{◌≡◌, List, IfOk, subst}
use Rattle.nt_server.specs.contracts.server.Server.{the_view}
use Rattle.nt_rules.specs.declared.act.Entry.{Entry}
use Rattle.nt_rules.specs.history.Changes.{added_changes}
use Rattle.nt_rules.specs.declared.start.Start.{Start}
use Rattle.nt_rules.specs.history.Step.{ServerState, Represents, Steps}
use Rattle.nt_server.proofs.Stepping.{well-after, step-steps, step-changes}
use Rattle.nt_server.proofs.server.Server.step.Goals as goal

pub returns-clause-steps : goal.returns-clause-steps
returns-clause-steps c =
    let new : ServerState = the_view record {
      failed = c.is_err-self-inside.result;
      inner = c.step_well-stepped.new.self;
    } in
    subst (λ (k : ServerState). IfOk c.step_well-stepped.result (λ s. (start : Start) (past : List Entry)
    → Represents k start past
    → Steps start past c.args.worker c.args.now c.args.act s.out s.entry new)) c.self.view_is
    (step-steps (the_view c.self.inside) c.args.worker c.args.now c.args.act c.step_well-stepped.result new
    c.requires.may c.see_tree.ensures c.requires.now c.step_well-stepped.ensures.out c.step_well-stepped.ensures.entry
    c.step_well-stepped.ensures.state
    (well-after c.step_well-stepped.result c.is_err-self-inside.result c.is_err-self-inside.ensures.value))

pub returns-clause-changes : goal.returns-clause-changes
returns-clause-changes c =
    subst (λ (k : ServerState). IfOk c.step_well-stepped.result (λ s. (start : Start) (past : List Entry)
    → Represents k start past → s.changes ≡ added_changes start past s.entry)) c.self.view_is
    (step-changes (the_view c.self.inside) c.args.worker c.args.now c.args.act c.step_well-stepped.result
    c.step_well-stepped.ensures.entry c.step_well-stepped.ensures.changes)
