use Rattle.std.proofs.Common.{◌≡◌, ◌⊎◌, ℤ, List, inr, sym, subst, rules}
use Rattle.std.specs.Prelude.{remove}
use Rattle.std.specs.List.{Contains}
use Rattle.std.proofs.lemmas.Int.{to_z-of_z}
use Rattle.nt_client.specs.Names.{itself}
use Rattle.nt_client.specs.Sorted.{Rise, IsFoundAt}
use Rattle.nt_client.proofs.Search.{found-by, key-found, within-found, rises-remove}
use Rattle.nt_client.proofs.Members.{remove-keeps}
use Rattle.nt_client.proofs.names.drop_id.Goals as goal
use Rattle.nt_client.proofs.names.drop_id.Goals.{in-Ok, in_default}

pub returns-clause-rising : goal.returns-clause-rising
returns-clause-rising c = elim c.match-binary_search.branch [
  | in-Ok w ↦
      let items : c.match-binary_search.ids.items ≡ remove c.args.ids.now.items w.in-Ok.at = search rules in
      subst (λ (xs : List ℤ). Rise itself xs) (sym items)
      (rises-remove itself c.args.ids.now.items w.in-Ok.at c.requires)
  | in_default w ↦
      let items : c.match-binary_search.ids.items ≡ c.args.ids.now.items = search rules in
      subst (λ (xs : List ℤ). Rise itself xs) (sym items) c.requires
]

pub returns-clause-others : goal.returns-clause-others
returns-clause-others c = λ k h. elim c.match-binary_search.branch [
  | in-Ok w ↦
      let position = simp (to_z-of_z, c.ranges.id) at c.binary_search.ensures.position in
      let same : c.deref.result.now ≡ c.args.ids.now.items = c.deref.ensures.value in
      let found : IsFoundAt itself c.args.id c.args.ids.now.items w.in-Ok.at =
      subst (λ (xs : List ℤ). IsFoundAt itself c.args.id xs w.in-Ok.at) same
      (found-by itself c.args.id c.deref.result.now c.binary_search.result w.in-Ok.at
      (subst (λ (xs : List ℤ). Rise itself xs) (sym same) c.requires) c.binary_search.ensures.bound
      position w.in-Ok.is) in
      let items : c.match-binary_search.ids.items ≡ remove c.args.ids.now.items w.in-Ok.at = search rules in
      subst (λ (xs : List ℤ). (k ≡ c.args.id) ⊎ Contains xs k) (sym items)
      (remove-keeps c.args.ids.now.items w.in-Ok.at c.args.id k
      (within-found itself c.args.id c.args.ids.now.items w.in-Ok.at found)
      (sym (key-found itself c.args.id c.args.ids.now.items w.in-Ok.at c.args.id found)) h)
  | in_default w ↦
      let items : c.match-binary_search.ids.items ≡ c.args.ids.now.items = search rules in
      inr (subst (λ (xs : List ℤ). Contains xs k) (sym items) h)
]
