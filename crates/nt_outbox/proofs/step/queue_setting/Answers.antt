use Rattle.std.proofs.Common.{◌≡◌, ◌+◌, ◌++◌, ◌∷◌, [], ℕ, length, rules, tests, arith}
use Rattle.serde_json.specs.Written.{compact_text}
use Rattle.nt_rules.specs.declared.waiting.Setting.{Setting}
use Rattle.nt_rules.specs.outbox.Marks.{settings_weight}
use Rattle.nt_outbox.proofs.Queues.{ok-always, if-ok, put-same, put-other, put-first, last-setting}
use Rattle.nt_outbox.proofs.step.queue_setting.Goals as goal
use Rattle.nt_outbox.proofs.step.queue_setting.Goals.{in-Some+then-last-setting+in_ok-others, in-Some+else-last-setting+in_ok-push, in_default}

pub overflow_sub-others : goal.overflow_sub-others
overflow_sub-others c =
    let old : c.args.settings.now ≡ c.pop.new.self.items ++ c.in-Some.last ∷ [] = search rules in
    let parts = last-setting c.args.settings.now c.pop.new.self.items c.in-Some.last old in
    let told : c.in_ok-others.field-0 ≡ 64 + length (compact_text c.in-Some.last.update) = search rules in
    let all = c.requires in omega arith

pub returns-clause-settings : goal.returns-clause-settings
returns-clause-settings c = ok-always c.sum-2.result (elim c.match-pop.branch [
  | in-Some+then-last-setting+in_ok-others w ↦
      put-same (λ (x : Setting). x.place) c.args.setting w.in-Some.last c.args.settings.now c.pop.new.self.items
      c.of_vec.result (search rules) (search (rules, tests)) (search rules)
  | in-Some+else-last-setting+in_ok-push w ↦
      put-other (λ (x : Setting). x.place) c.args.setting w.in-Some.last c.args.settings.now c.pop.new.self.items
      c.of_vec.result (search rules) (search (rules, tests)) (search rules)
  | in_default w ↦
      put-first (λ (x : Setting). x.place) c.args.setting c.args.settings.now c.of_vec.result (search rules)
      (search rules)
])

weighed : (c : goal.After-sum-2)
    → c.match-pop.others + (64 + length (compact_text c.args.setting.update)) + settings_weight c.args.settings.now
    ≡ c.args.weight + settings_weight c.of_vec.result
weighed c = elim c.match-pop.branch [
  | in-Some+then-last-setting+in_ok-others w ↦
      let old : c.args.settings.now ≡ c.pop.new.self.items ++ w.in-Some.last ∷ [] = search rules in
      let now : c.of_vec.result ≡ c.pop.new.self.items ++ c.args.setting ∷ [] = search rules in
      let a = last-setting c.args.settings.now c.pop.new.self.items w.in-Some.last old in
      let b = last-setting c.of_vec.result c.pop.new.self.items c.args.setting now in
      let told : w.in_ok-others.field-0 ≡ 64 + length (compact_text w.in-Some.last.update) = search rules in
      let less = w.others-is in let all = c.requires in omega arith
  | in-Some+else-last-setting+in_ok-push w ↦
      let now : c.of_vec.result ≡ c.args.settings.now ++ c.args.setting ∷ [] = search rules in
      let b = last-setting c.of_vec.result c.args.settings.now c.args.setting now in
      let same = w.others-is in omega arith
  | in_default w ↦
      let now : c.of_vec.result ≡ c.args.settings.now ++ c.args.setting ∷ [] = search rules in
      let b = last-setting c.of_vec.result c.args.settings.now c.args.setting now in
      let same = w.others-is in omega arith
]

pub returns-clause-weight : goal.returns-clause-weight
returns-clause-weight c =
    let more : c.in_ok-more.more ≡ 64 + length (compact_text c.args.setting.update) = search rules in
    let all = weighed c in
    if-ok (λ (w : ℕ). w ≡ c.match-pop.others + c.in_ok-more.more)
    (λ (w : ℕ). w + settings_weight c.args.settings.now ≡ c.args.weight + settings_weight c.of_vec.result)
    c.sum-2.result (λ w told. omega arith) c.sum-2.ensures
