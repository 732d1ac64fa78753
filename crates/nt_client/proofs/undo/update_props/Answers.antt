use Rattle.std.proofs.Common.{◌≡◌, true, false, None, get_or, map, refl, ◌∙◌, ap, arith, rules}
use Rattle.std.proofs.lemmas.Result.{on_err_weaker, on_ok_weaker}
use Rattle.nt_rules.specs.declared.held.Held.{Held}
use Rattle.nt_rules.specs.telling.Told.{with_properties}
use Rattle.nt_topics.specs.Properties.{is_cached}
use Rattle.nt_client.specs.Kept.{at_index, outline}
use Rattle.nt_client.proofs.Keeping.{at-outline, props-cached, props-dropped, props-empty, same-length}
use Rattle.nt_client.proofs.undo.update_props.Goals as goal
use Rattle.nt_client.proofs.undo.update_props.Goals.{then-not-cached+then-is_some+in_ok-set_value, else-not-cached, else-not-cached-via-then-not-cached+else-is_some, else-not-cached-via-else-not-cached}

pub set_props-requires : goal.set_props-requires
set_props-requires c =
    let same : map outline c.if-not-cached.held.items ≡ map outline c.args.held.now.items =
    elim c.if-not-cached.branch [
      | then-not-cached+then-is_some+in_ok-set_value w ↦
          let items : c.if-not-cached.held.items
          ≡ at_index (λ (h : Held). record h { value = None }) c.args.at c.args.held.now.items = search rules in
          ap (map outline) items ∙ at-outline (λ h. record h { value = None }) c.args.at c.args.held.now.items
          (λ h. refl)
      | else-not-cached w ↦
          let items : c.if-not-cached.held.items ≡ c.args.held.now.items = search rules in ap (map outline) items
    ] in
    let len = same-length c.args.held.now.items c.if-not-cached.held.items same in
    let one = c.args.held.now.ok.0 in
    let two = c.if-not-cached.held.ok.0 in
    let lt = c.requires in
    omega arith

pub returns-clause-ok : goal.returns-clause-ok
returns-clause-ok c =
    let whole : at_index (λ (h : Held). record h { props = c.args.props }) c.args.at c.if-not-cached.held.items
    ≡ at_index (with_properties c.args.props) c.args.at c.args.held.now.items = elim c.if-not-cached.branch [
      | then-not-cached+then-is_some+in_ok-set_value w ↦
          let cached : is_cached c.args.props ≡ false = search rules in
          let items : c.if-not-cached.held.items
          ≡ at_index (λ (h : Held). record h { value = None }) c.args.at c.args.held.now.items = search rules in
          ap (at_index (λ (h : Held). record h { props = c.args.props }) c.args.at) items
          ∙ props-dropped c.args.props c.args.at c.args.held.now.items cached
      | else-not-cached w ↦
          let items : c.if-not-cached.held.items ≡ c.args.held.now.items = search rules in
          let rest : at_index (λ (h : Held). record h { props = c.args.props }) c.args.at c.args.held.now.items
          ≡ at_index (with_properties c.args.props) c.args.at c.args.held.now.items = elim w.else-not-cached.branch [
            | else-not-cached-via-then-not-cached+else-is_some w-2 ↦
                let cached : is_cached c.args.props ≡ false = search rules in
                let here : w-2.index.result.now ≡ get_or c.args.held.now.items c.args.at w-2.index.result.now =
                search rules in
                let none : w-2.index.result.now.value ≡ None = search rules in
                props-empty c.args.props c.args.at c.args.held.now.items w-2.index.result.now cached here none
            | else-not-cached-via-else-not-cached w-2 ↦
                let cached : is_cached c.args.props ≡ true = search rules in
                props-cached c.args.props c.args.at c.args.held.now.items cached
          ] in
          ap (at_index (λ (h : Held). record h { props = c.args.props }) c.args.at) items ∙ rest
    ] in
    on_ok_weaker c.set_props.result (λ e. e ∙ whole) c.set_props.ensures.ok

pub returns-clause-same : goal.returns-clause-same
returns-clause-same c =
    let same : map outline c.if-not-cached.held.items ≡ map outline c.args.held.now.items =
    elim c.if-not-cached.branch [
      | then-not-cached+then-is_some+in_ok-set_value w ↦
          let items : c.if-not-cached.held.items
          ≡ at_index (λ (h : Held). record h { value = None }) c.args.at c.args.held.now.items = search rules in
          ap (map outline) items ∙ at-outline (λ h. record h { value = None }) c.args.at c.args.held.now.items
          (λ h. refl)
      | else-not-cached w ↦
          let items : c.if-not-cached.held.items ≡ c.args.held.now.items = search rules in ap (map outline) items
    ] in
    on_err_weaker c.set_props.result (λ e. ap (map outline) e ∙ same) c.set_props.ensures.same
