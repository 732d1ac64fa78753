use Rattle.std.proofs.Common.{◌≡◌, ◌⊎◌, ℕ, ℤ, cond, List, [], Some, None, inr, sym, ◌∙◌, ap, subst, arith, rules}
use Rattle.std.specs.Prelude.{option_map, unwrap_or}
use Rattle.std.specs.List.{Contains}
use Rattle.std.specs.Str.{bytes_eq}
use Rattle.std.specs.BTreeMap.{get_by_text}
use Rattle.std.proofs.lemmas.Map.Text.{text_keys}
use Rattle.std.proofs.lemmas.Int.{to_z-of_z}
use Rattle.nt_client.specs.declared.names.Names.{Names}
use Rattle.nt_client.specs.Names.{ids_at, itself, AreInOrder, OthersStayNoted}
use Rattle.nt_client.specs.Sorted.{Rise}
use Rattle.nt_client.proofs.Noting.{IsChangedAt, in-order-changed, others-changed, read-changed, read-dropped}
use Rattle.nt_client.proofs.names.Names.forget.Goals as goal
use Rattle.nt_client.proofs.names.Names.forget.Goals.{in-Some, in-None}

pub drop_id-is_last-requires : goal.drop_id-is_last-requires
drop_id-is_last-requires c =
    let at : get_by_text c.args.self.now.ids c.args.name.now ≡ Some c.in-Some.ids.now = search rules in
    let ids : ids_at c.args.self.now c.args.name.now ≡ c.in-Some.ids.now.items =
    ap (λ o. unwrap_or (option_map (λ v. v.items) o) []) at in
    subst (λ (xs : List ℤ). Rise itself xs) ids (c.requires c.args.name.now)

pub returns-else-is_last-clause-in_order : goal.returns-else-is_last-clause-in_order
returns-else-is_last-clause-in_order c = elim c.match-get_mut.branch [
  | in-Some w ↦
      let got : (n : List ℕ) → get_by_text (c.get_mut.follows.lender w.drop_id-is_last.new.ids) n
      ≡ cond (bytes_eq c.args.name.now n) (Some w.drop_id-is_last.new.ids) (get_by_text c.args.self.now.ids n) =
      λ n. grind (arith, text_keys) in
      let changed : IsChangedAt c.args.name.now w.drop_id-is_last.new.ids.items (ids_at c.args.self.now)
      (ids_at (record { ids = c.get_mut.follows.lender w.drop_id-is_last.new.ids })) =
      λ n. ap (λ o. unwrap_or (option_map (λ v. v.items) o) []) (got n)
      ∙ read-changed (λ v. v.items) (bytes_eq c.args.name.now n) w.drop_id-is_last.new.ids
      (get_by_text c.args.self.now.ids n) in
      let is : c.match-get_mut.self ≡ record { ids = c.get_mut.follows.lender w.drop_id-is_last.new.ids } =
      search rules in
      subst (λ (names : Names). AreInOrder names) (sym is)
      (in-order-changed c.args.name.now w.drop_id-is_last.new.ids.items (ids_at c.args.self.now)
      (ids_at (record { ids = c.get_mut.follows.lender w.drop_id-is_last.new.ids })) changed c.requires
      w.drop_id-is_last.ensures.rising)
  | in-None w ↦
      let is : c.match-get_mut.self ≡ c.args.self.now = search rules in
      subst (λ (names : Names). AreInOrder names) (sym is) c.requires
]

pub returns-else-is_last-clause-others : goal.returns-else-is_last-clause-others
returns-else-is_last-clause-others c = elim c.match-get_mut.branch [
  | in-Some w ↦
      let at : get_by_text c.args.self.now.ids c.args.name.now ≡ Some w.in-Some.ids.now = search rules in
      let ids : ids_at c.args.self.now c.args.name.now ≡ w.in-Some.ids.now.items =
      ap (λ o. unwrap_or (option_map (λ v. v.items) o) []) at in
      let got : (n : List ℕ) → get_by_text (c.get_mut.follows.lender w.drop_id-is_last.new.ids) n
      ≡ cond (bytes_eq c.args.name.now n) (Some w.drop_id-is_last.new.ids) (get_by_text c.args.self.now.ids n) =
      λ n. grind (arith, text_keys) in
      let changed : IsChangedAt c.args.name.now w.drop_id-is_last.new.ids.items (ids_at c.args.self.now)
      (ids_at (record { ids = c.get_mut.follows.lender w.drop_id-is_last.new.ids })) =
      λ n. ap (λ o. unwrap_or (option_map (λ v. v.items) o) []) (got n)
      ∙ read-changed (λ v. v.items) (bytes_eq c.args.name.now n) w.drop_id-is_last.new.ids
      (get_by_text c.args.self.now.ids n) in
      let is : c.match-get_mut.self ≡ record { ids = c.get_mut.follows.lender w.drop_id-is_last.new.ids } =
      search rules in
      subst (λ (names : Names). OthersStayNoted c.args.name.now c.args.id c.args.self.now names) (sym is)
      (others-changed c.args.name.now c.args.id w.drop_id-is_last.new.ids.items (ids_at c.args.self.now)
      (ids_at (record { ids = c.get_mut.follows.lender w.drop_id-is_last.new.ids })) changed
      (λ k h. simp (to_z-of_z, c.ranges.id) at (w.drop_id-is_last.ensures.others k
      (subst (λ (xs : List ℤ). Contains xs k) ids h))))
  | in-None w ↦
      let is : c.match-get_mut.self ≡ c.args.self.now = search rules in
      subst (λ (names : Names). OthersStayNoted c.args.name.now c.args.id c.args.self.now names) (sym is)
      (λ n k h. inr h)
]

pub returns-then-is_last-clause-in_order : goal.returns-then-is_last-clause-in_order
returns-then-is_last-clause-in_order c = elim c.match-get_mut.branch [
  | in-Some w ↦
      let got : (n : List ℕ) → get_by_text c.remove.new.self n
      ≡ cond (bytes_eq c.args.name.now n) None (get_by_text c.args.self.now.ids n) =
      λ n. grind (arith, text_keys) in
      let changed : IsChangedAt c.args.name.now [] (ids_at c.args.self.now)
      (ids_at (record { ids = c.remove.new.self })) =
      λ n. ap (λ o. unwrap_or (option_map (λ v. v.items) o) []) (got n)
      ∙ read-dropped (λ v. v.items) (bytes_eq c.args.name.now n) (get_by_text c.args.self.now.ids n) in
      in-order-changed c.args.name.now [] (ids_at c.args.self.now) (ids_at (record { ids = c.remove.new.self })) changed
      c.requires tt
  | in-None w ↦ absurd (search rules)
]

pub returns-then-is_last-clause-others : goal.returns-then-is_last-clause-others
returns-then-is_last-clause-others c = elim c.match-get_mut.branch [
  | in-Some w ↦
      let at : get_by_text c.args.self.now.ids c.args.name.now ≡ Some w.in-Some.ids.now = search rules in
      let ids : ids_at c.args.self.now c.args.name.now ≡ w.in-Some.ids.now.items =
      ap (λ o. unwrap_or (option_map (λ v. v.items) o) []) at in
      let empty : w.drop_id-is_last.new.ids.items ≡ [] = search rules in
      let got : (n : List ℕ) → get_by_text c.remove.new.self n
      ≡ cond (bytes_eq c.args.name.now n) None (get_by_text c.args.self.now.ids n) =
      λ n. grind (arith, text_keys) in
      let changed : IsChangedAt c.args.name.now [] (ids_at c.args.self.now)
      (ids_at (record { ids = c.remove.new.self })) =
      λ n. ap (λ o. unwrap_or (option_map (λ v. v.items) o) []) (got n)
      ∙ read-dropped (λ v. v.items) (bytes_eq c.args.name.now n) (get_by_text c.args.self.now.ids n) in
      others-changed c.args.name.now c.args.id [] (ids_at c.args.self.now) (ids_at (record { ids = c.remove.new.self }))
      changed
      (λ k h. subst (λ (xs : List ℤ). (k ≡ c.args.id) ⊎ Contains xs k) empty
      (simp (to_z-of_z, c.ranges.id) at (w.drop_id-is_last.ensures.others k
      (subst (λ (xs : List ℤ). Contains xs k) ids h))))
  | in-None w ↦ absurd (search rules)
]
