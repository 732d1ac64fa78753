use Rattle.std.proofs.Common.{◌≡◌, ◌++◌, ◌∷◌, ◌-◌, ◌≤◌, ℕ, suc, [], List, length, get_or, set, refl, sym, ◌∙◌, ap, arith, rules}
use Rattle.std.proofs.lemmas.Result.{on_err_weaker, on_ok_weaker}
use Rattle.nt_rules.specs.declared.act.Msg.TheVariants.{Put}
use Rattle.nt_client.specs.declared.queue.Run.{Run}
use Rattle.nt_client.specs.declared.queue.Run.TheVariants.{Values}
use Rattle.nt_client.proofs.Runs.{added, is-alone, is-behind, kept-added, kept-joined, last-with, said-joined, said-of-added}
use Rattle.nt_client.proofs.queue.Queue.put.Goals as goal
use Rattle.nt_client.proofs.queue.Queue.put.Goals.{then-len-gt0+in-Controls, else-len-gt0}

pub invariant_of-self : goal.invariant_of-self
invariant_of-self c =
    let n : ℕ = c.len-len.result - 1 in
    let runs : List Run = c.self.inside.runs.items in
    let old : Run = Values c.in-Values.values in
    let len : length runs ≡ suc n =
    (let one = c.self.inside.runs.ok.0 in let two = c.len-len.ensures in let some = c.if-len-gt0.true in omega arith) in
    let here : old ≡ get_or runs n old = search rules in
    kept-joined runs n (Put c.args.value) old (Values (c.in-Values.values ++ c.args.value ∷ [])) (Values c.push.new.self) c.push.result len here
    refl c.self.invariant (on_ok_weaker c.push.result (ap Values) c.push.ensures.ok)
    (on_err_weaker c.push.result (ap Values) c.push.ensures.err)

pub returns-in-Values-clause-ok : goal.returns-in-Values-clause-ok
returns-in-Values-clause-ok c =
    let n : ℕ = c.len-len.result - 1 in
    let runs : List Run = c.self.inside.runs.items in
    let old : Run = Values c.in-Values.values in
    let len : length runs ≡ suc n =
    (let one = c.self.inside.runs.ok.0 in let two = c.len-len.ensures in let some = c.if-len-gt0.true in omega arith) in
    let here : old ≡ get_or runs n old = search rules in
    on_ok_weaker c.push.result
    (λ is. said-joined runs n (Put c.args.value) old (Values (c.in-Values.values ++ c.args.value ∷ [])) (Values c.push.new.self) len here refl
    (ap Values is) ∙ ap (λ ms. ms ++ Put c.args.value ∷ []) c.self.view_is)
    c.push.ensures.ok

is-added : (c : goal.In_ok-push-2) → c.push-3.new.self.items ≡ added (Put c.args.value) c.self.inside.runs.items
is-added c = elim c.if-len-gt0.branch [
  | then-len-gt0+in-Controls w ↦
      let n : ℕ = c.len-len.result - 1 in
      let runs : List Run = c.self.inside.runs.items in
      let old : Run = w.index_mut.result.now in
      let len : length runs ≡ suc n =
      (let one = c.self.inside.runs.ok.0 in let two = c.len-len.ensures in let some = w.if-len-gt0.true in omega arith) in
      let back : c.if-len-gt0.self-inside.runs.items ≡ set runs n old = search rules in
      let items : c.push-3.new.self.items ≡ c.if-len-gt0.self-inside.runs.items ++ Values (c.args.value ∷ []) ∷ [] = search rules in
      is-behind runs c.if-len-gt0.self-inside.runs.items c.push-3.new.self.items n (Put c.args.value) old (Values (c.args.value ∷ [])) len
      w.index_mut.ensures.value
      (ap (λ (r : Run). last-with r (Put c.args.value)) w.in-Controls.is
      ∙ ap (λ (r : Run). r ∷ Values (c.args.value ∷ []) ∷ []) (sym w.in-Controls.is))
      back items
  | else-len-gt0 w ↦
      let runs : List Run = c.self.inside.runs.items in
      let none : length runs ≤ 0 = (let one = c.self.inside.runs.ok.0 in let two = c.len-len.ensures in let no = w.if-len-gt0.false in omega arith) in
      let back : c.if-len-gt0.self-inside.runs.items ≡ runs = search rules in
      let items : c.push-3.new.self.items ≡ c.if-len-gt0.self-inside.runs.items ++ Values (c.args.value ∷ []) ∷ [] = search rules in
      is-alone runs c.if-len-gt0.self-inside.runs.items c.push-3.new.self.items (Put c.args.value) (Values (c.args.value ∷ [])) none refl back items
]

pub invariant_of-self-2 : goal.invariant_of-self-2
invariant_of-self-2 c =
    kept-added c.self.inside.runs.items c.push-3.new.self.items (Put c.args.value) c.self.invariant (is-added c)

pub returns-clause-ok : goal.returns-clause-ok
returns-clause-ok c =
    said-of-added c.self.inside.runs.items c.push-3.new.self.items (Put c.args.value) (is-added c)
    ∙ ap (λ ms. ms ++ Put c.args.value ∷ []) c.self.view_is
