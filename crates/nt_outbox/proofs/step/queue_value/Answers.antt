use Rattle.std.proofs.Common.{◌≡◌, ◌+◌, ◌++◌, ◌∷◌, [], ℕ, rules, tests, arith}
use Rattle.nt_values.specs.Types.{size_of}
use Rattle.nt_rules.specs.declared.waiting.Placed.{Placed}
use Rattle.nt_rules.specs.outbox.Marks.{values_weight}
use Rattle.nt_outbox.proofs.Queues.{ok-always, if-ok, put-same, put-other, put-first, last-value}
use Rattle.nt_outbox.proofs.step.queue_value.Goals as goal
use Rattle.nt_outbox.proofs.step.queue_value.Goals.{in-Some+then-last-placed+in_ok-others, in-Some+else-last-placed+in_ok-push, in_default}

pub overflow_sub-others : goal.overflow_sub-others
overflow_sub-others c =
    let old : c.args.values.now ≡ c.pop.new.self.items ++ c.in-Some.last ∷ [] = search rules in
    let parts = last-value c.args.values.now c.pop.new.self.items c.in-Some.last old in
    let told : c.in_ok-others.field-0 ≡ 64 + size_of c.in-Some.last.value = search rules in
    let all = c.requires in omega arith

pub returns-clause-values : goal.returns-clause-values
returns-clause-values c = ok-always c.sum-2.result (elim c.match-pop.branch [
  | in-Some+then-last-placed+in_ok-others w ↦
      put-same (λ (x : Placed). x.place) c.args.placed w.in-Some.last c.args.values.now c.pop.new.self.items
      c.of_vec.result (search rules) (search (rules, tests)) (search rules)
  | in-Some+else-last-placed+in_ok-push w ↦
      put-other (λ (x : Placed). x.place) c.args.placed w.in-Some.last c.args.values.now c.pop.new.self.items
      c.of_vec.result (search rules) (search (rules, tests)) (search rules)
  | in_default w ↦
      put-first (λ (x : Placed). x.place) c.args.placed c.args.values.now c.of_vec.result (search rules)
      (search rules)
])

weighed : (c : goal.After-sum-2)
    → c.match-pop.others + (64 + size_of c.args.placed.value) + values_weight c.args.values.now
    ≡ c.args.weight + values_weight c.of_vec.result
weighed c = elim c.match-pop.branch [
  | in-Some+then-last-placed+in_ok-others w ↦
      let old : c.args.values.now ≡ c.pop.new.self.items ++ w.in-Some.last ∷ [] = search rules in
      let now : c.of_vec.result ≡ c.pop.new.self.items ++ c.args.placed ∷ [] = search rules in
      let a = last-value c.args.values.now c.pop.new.self.items w.in-Some.last old in
      let b = last-value c.of_vec.result c.pop.new.self.items c.args.placed now in
      let told : w.in_ok-others.field-0 ≡ 64 + size_of w.in-Some.last.value = search rules in
      let less = w.others-is in let all = c.requires in omega arith
  | in-Some+else-last-placed+in_ok-push w ↦
      let now : c.of_vec.result ≡ c.args.values.now ++ c.args.placed ∷ [] = search rules in
      let b = last-value c.of_vec.result c.args.values.now c.args.placed now in
      let same = w.others-is in omega arith
  | in_default w ↦
      let now : c.of_vec.result ≡ c.args.values.now ++ c.args.placed ∷ [] = search rules in
      let b = last-value c.of_vec.result c.args.values.now c.args.placed now in
      let same = w.others-is in omega arith
]

pub returns-clause-weight : goal.returns-clause-weight
returns-clause-weight c =
    let more : c.in_ok-more.more ≡ 64 + size_of c.args.placed.value = search rules in
    let all = weighed c in
    if-ok (λ (w : ℕ). w ≡ c.match-pop.others + c.in_ok-more.more)
    (λ (w : ℕ). w + values_weight c.args.values.now ≡ c.args.weight + values_weight c.of_vec.result) c.sum-2.result
    (λ w told. omega arith) c.sum-2.ensures
