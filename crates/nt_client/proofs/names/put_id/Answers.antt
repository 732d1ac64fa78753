use Rattle.std.proofs.Common.{◌≡◌, ℤ, List, sym, subst, rules}
use Rattle.std.specs.Prelude.{insert}
use Rattle.std.specs.List.{Contains}
use Rattle.std.proofs.lemmas.Int.{to_z-of_z}
use Rattle.nt_client.specs.Names.{itself}
use Rattle.nt_client.specs.Sorted.{Rise, IsMissedAt}
use Rattle.nt_client.proofs.Search.{missed-by, rises-insert}
use Rattle.nt_client.proofs.Members.{insert-keeps}
use Rattle.nt_client.proofs.names.put_id.Goals as goal

pub returns-in_ok-insert-clause-rising : goal.returns-in_ok-insert-clause-rising
returns-in_ok-insert-clause-rising c =
    let position = simp (to_z-of_z, c.ranges.id) at c.binary_search.ensures.position in
    let same : c.deref.result.now ≡ c.args.ids.now.items = c.deref.ensures.value in
    let missed : IsMissedAt itself c.args.id c.args.ids.now.items c.in-Err.at =
    subst (λ (xs : List ℤ). IsMissedAt itself c.args.id xs c.in-Err.at) same
    (missed-by itself c.args.id c.deref.result.now c.binary_search.result c.in-Err.at
    (subst (λ (xs : List ℤ). Rise itself xs) (sym same) c.requires) c.binary_search.ensures.bound
    position c.in-Err.is) in
    let items : c.insert.new.self.items ≡ insert c.args.ids.now.items c.in-Err.at c.args.id = search rules in
    subst (λ (xs : List ℤ). Rise itself xs) (sym items)
    (rises-insert itself c.args.ids.now.items c.in-Err.at c.args.id missed c.requires)

pub returns-in_ok-insert-clause-others : goal.returns-in_ok-insert-clause-others
returns-in_ok-insert-clause-others c = λ k h.
    let items : c.insert.new.self.items ≡ insert c.args.ids.now.items c.in-Err.at c.args.id = search rules in
    subst (λ (xs : List ℤ). Contains xs k) (sym items) (insert-keeps c.args.ids.now.items c.in-Err.at c.args.id k h)
