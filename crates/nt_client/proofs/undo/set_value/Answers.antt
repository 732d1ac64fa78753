use Rattle.std.proofs.Common.{◌≡◌, ◌<◌, ◌++◌, ◌∷◌, [], length, refl, rules}
use Rattle.nt_rules.specs.declared.held.Held.{Held}
use Rattle.nt_client.specs.declared.undo.Undo.TheVariants.{Value}
use Rattle.nt_client.proofs.Back.{leads-value}
use Rattle.nt_client.proofs.Keeping.{at-set}
use Rattle.nt_client.proofs.undo.set_value.Goals as goal

pub returns-clause-ok : goal.returns-clause-ok
returns-clause-ok c =
    let within : c.args.at < length c.args.held.now.items = search rules in
    at-set (λ (h : Held). record h { value = c.args.value }) c.args.at c.args.held.now.items c.index_mut.result.now _
    within
    c.index_mut.ensures.value (search rules)

pub returns-clause-leads : goal.returns-clause-leads
returns-clause-leads c =
    let within : c.args.at < length c.args.held.now.items = search rules in
    let noted : c.push_reserved.new.self.items
    ≡ c.args.log.now.items ++ Value c.args.at c.index_mut.result.now.value ∷ [] = search rules in
    leads-value c.args.held.now _ c.args.log.now.items c.push_reserved.new.self.items c.args.at c.index_mut.result.now
    c.args.value noted
    (at-set (λ (h : Held). record h { value = c.args.value }) c.args.at c.args.held.now.items c.index_mut.result.now
    (record c.index_mut.result.now { value = c.replace-value.new.dest }) within
    c.index_mut.ensures.value (search rules))
    c.requires c.index_mut.ensures.value refl refl
