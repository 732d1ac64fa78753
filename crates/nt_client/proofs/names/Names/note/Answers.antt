use Rattle.std.proofs.Common.{◌≡◌, ℕ, ℤ, cond, List, [], ◌∷◌, Some, None, sym, ◌∙◌, ap, subst, arith, rules}
use Rattle.std.specs.Prelude.{option_map, unwrap_or}
use Rattle.std.specs.List.{Contains}
use Rattle.std.specs.Str.{bytes_eq}
use Rattle.std.specs.BTreeMap.{get_by_text}
use Rattle.std.proofs.lemmas.Map.Text.{text_keys}
use Rattle.nt_client.specs.Names.{ids_at, itself}
use Rattle.nt_client.specs.Sorted.{Rise}
use Rattle.nt_client.proofs.Members.{contains-none}
use Rattle.nt_client.proofs.Noting.{IsChangedAt, in-order-changed, stays-changed, read-changed}
use Rattle.nt_client.proofs.names.Names.note.Goals as goal

pub put_id-requires : goal.put_id-requires
put_id-requires c =
    let at : get_by_text c.args.self.now.ids c.args.name.now ≡ Some c.in-Some.ids.now = search rules in
    let ids : ids_at c.args.self.now c.args.name.now ≡ c.in-Some.ids.now.items =
    ap (λ o. unwrap_or (option_map (λ v. v.items) o) []) at in
    subst (λ (xs : List ℤ). Rise itself xs) ids (c.requires c.args.name.now)

pub returns-in-Some-clause-in_order : goal.returns-in-Some-clause-in_order
returns-in-Some-clause-in_order c =
    let got : (n : List ℕ) → get_by_text (c.get_mut.follows.lender c.put_id.new.ids) n
    ≡ cond (bytes_eq c.args.name.now n) (Some c.put_id.new.ids) (get_by_text c.args.self.now.ids n) =
    λ n. grind (arith, text_keys) in
    let changed : IsChangedAt c.args.name.now c.put_id.new.ids.items (ids_at c.args.self.now)
    (ids_at (record { ids = c.get_mut.follows.lender c.put_id.new.ids })) =
    λ n. ap (λ o. unwrap_or (option_map (λ v. v.items) o) []) (got n)
    ∙ read-changed (λ v. v.items) (bytes_eq c.args.name.now n) c.put_id.new.ids (get_by_text c.args.self.now.ids n) in
    in-order-changed c.args.name.now c.put_id.new.ids.items (ids_at c.args.self.now)
    (ids_at (record { ids = c.get_mut.follows.lender c.put_id.new.ids })) changed c.requires c.put_id.ensures.rising

pub returns-in-Some-clause-others : goal.returns-in-Some-clause-others
returns-in-Some-clause-others c =
    let at : get_by_text c.args.self.now.ids c.args.name.now ≡ Some c.in-Some.ids.now = search rules in
    let ids : ids_at c.args.self.now c.args.name.now ≡ c.in-Some.ids.now.items =
    ap (λ o. unwrap_or (option_map (λ v. v.items) o) []) at in
    let got : (n : List ℕ) → get_by_text (c.get_mut.follows.lender c.put_id.new.ids) n
    ≡ cond (bytes_eq c.args.name.now n) (Some c.put_id.new.ids) (get_by_text c.args.self.now.ids n) =
    λ n. grind (arith, text_keys) in
    let changed : IsChangedAt c.args.name.now c.put_id.new.ids.items (ids_at c.args.self.now)
    (ids_at (record { ids = c.get_mut.follows.lender c.put_id.new.ids })) =
    λ n. ap (λ o. unwrap_or (option_map (λ v. v.items) o) []) (got n)
    ∙ read-changed (λ v. v.items) (bytes_eq c.args.name.now n) c.put_id.new.ids (get_by_text c.args.self.now.ids n) in
    stays-changed c.args.name.now c.put_id.new.ids.items (ids_at c.args.self.now)
    (ids_at (record { ids = c.get_mut.follows.lender c.put_id.new.ids })) changed
    (λ k h. c.put_id.ensures.others k (subst (λ (xs : List ℤ). Contains xs k) ids h))

pub returns-clause-in_order : goal.returns-clause-in_order
returns-clause-in_order c =
    let items : c.push.new.self.items ≡ c.args.id ∷ [] = search rules in
    let got : (n : List ℕ) → get_by_text c.insert.new.self n
    ≡ cond (bytes_eq c.args.name.now n) (Some c.push.new.self) (get_by_text c.args.self.now.ids n) =
    λ n. grind (arith, text_keys) in
    let changed : IsChangedAt c.args.name.now c.push.new.self.items (ids_at c.args.self.now)
    (ids_at (record { ids = c.insert.new.self })) =
    λ n. ap (λ o. unwrap_or (option_map (λ v. v.items) o) []) (got n)
    ∙ read-changed (λ v. v.items) (bytes_eq c.args.name.now n) c.push.new.self (get_by_text c.args.self.now.ids n) in
    in-order-changed c.args.name.now c.push.new.self.items (ids_at c.args.self.now)
    (ids_at (record { ids = c.insert.new.self })) changed c.requires
    (subst (λ (xs : List ℤ). Rise itself xs) (sym items) (tt, tt))

pub returns-clause-others : goal.returns-clause-others
returns-clause-others c =
    let none : get_by_text c.args.self.now.ids c.args.name.now ≡ None = search rules in
    let empty : ids_at c.args.self.now c.args.name.now ≡ [] =
    ap (λ o. unwrap_or (option_map (λ v. v.items) o) []) none in
    let got : (n : List ℕ) → get_by_text c.insert.new.self n
    ≡ cond (bytes_eq c.args.name.now n) (Some c.push.new.self) (get_by_text c.args.self.now.ids n) =
    λ n. grind (arith, text_keys) in
    let changed : IsChangedAt c.args.name.now c.push.new.self.items (ids_at c.args.self.now)
    (ids_at (record { ids = c.insert.new.self })) =
    λ n. ap (λ o. unwrap_or (option_map (λ v. v.items) o) []) (got n)
    ∙ read-changed (λ v. v.items) (bytes_eq c.args.name.now n) c.push.new.self (get_by_text c.args.self.now.ids n) in
    stays-changed c.args.name.now c.push.new.self.items (ids_at c.args.self.now)
    (ids_at (record { ids = c.insert.new.self })) changed
    (λ k h. absurd (contains-none k (subst (λ (xs : List ℤ). Contains xs k) empty h)))
