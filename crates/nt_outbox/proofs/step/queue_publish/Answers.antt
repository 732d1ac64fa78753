use Rattle.std.proofs.Common.{rules, tests}
use Rattle.nt_rules.specs.declared.waiting.Publish.{Publish}
use Rattle.nt_outbox.proofs.Queues.{ok-always, put-same, put-other, put-first}
use Rattle.nt_outbox.proofs.step.queue_publish.Goals as goal
use Rattle.nt_outbox.proofs.step.queue_publish.Goals.{in-Some+then-last-publish, in-Some+else-last-publish+in_ok-push, in_default}

pub returns-clause-publishes : goal.returns-clause-publishes
returns-clause-publishes c = ok-always c.sum.result (elim c.match-pop.branch [
  | in-Some+then-last-publish w ↦
      put-same (λ (x : Publish). x.place) c.args.publish w.in-Some.last c.args.publishes.now c.pop.new.self.items
      c.of_vec.result (search rules) (search (rules, tests)) (search rules)
  | in-Some+else-last-publish+in_ok-push w ↦
      put-other (λ (x : Publish). x.place) c.args.publish w.in-Some.last c.args.publishes.now c.pop.new.self.items
      c.of_vec.result (search rules) (search (rules, tests)) (search rules)
  | in_default w ↦
      put-first (λ (x : Publish). x.place) c.args.publish c.args.publishes.now c.of_vec.result (search rules)
      (search rules)
])
