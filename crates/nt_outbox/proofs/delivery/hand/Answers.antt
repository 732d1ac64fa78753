use Rattle.std.proofs.Common.{◌≡◌, ◌∙◌, ◌||◌, ℕ, List, not, max, nat_le, filter, ap, rules, tests}
use Rattle.std.specs.List.{list_any}
use Rattle.std.proofs.lemmas.Fn.{filter_same}
use Rattle.nt_rules.specs.declared.waiting.Placed.{Placed}
use Rattle.nt_rules.specs.declared.waiting.Setting.{Setting}
use Rattle.nt_rules.specs.declared.waiting.Publish.{Publish}
use Rattle.nt_rules.specs.outbox.Keys.{announces, is_in, publish_key, setting_key}
use Rattle.nt_rules.specs.outbox.Marks.{handed, place_from}
use Rattle.nt_outbox.specs.Steps.{next_of}
use Rattle.nt_outbox.specs.contracts.mark.Mark.{the_view}
use Rattle.nt_outbox.proofs.Handed.{handed-parts}
use Rattle.nt_outbox.proofs.delivery.hand.Goals as goal
use Rattle.nt_outbox.proofs.delivery.hand.Goals.{then-mark, else-mark}

pub returns : goal.returns
returns c =
    let announced : c.if-mark.mark
    ≡ (c.mark.inside.is_announced || list_any (announces c.mark.inside.id) c.args.keys.now) =
    elim c.if-mark.branch [
      | then-mark w ↦ search (rules, tests)
      | else-mark w ↦ search (rules, tests)
    ] in
    let publishes =
    filter_same _ (λ (x : Publish). not (is_in c.args.keys.now (publish_key c.mark.inside.id x.place))) _
    (λ x b f h. search (rules, tests)) _ _ c.retain.ensures.filtered in
    let settings =
    filter_same _ (λ (x : Setting). not (is_in c.args.keys.now (setting_key c.mark.inside.id x.place))) _
    (λ x b f h. search (rules, tests)) _ _ c.retain-2.ensures.filtered in
    let values =
    filter_same _ (λ (x : Placed). nat_le (next_of c.last_value-last.result) x.place) _
    (λ x b f h. search (rules, tests)) _ _ c.retain-3.ensures.filtered in
    handed-parts c.args.keys.now (the_view c.mark.inside) _ _ _ _ _ _ _ announced c.without-mark-inside.ensures
    (c.of_vec.ensures ∙ publishes
    ∙ ap (λ (xs : List Publish). filter (λ x. not (is_in c.args.keys.now (publish_key c.mark.inside.id x.place))) xs)
    (c.into_vec-publishes.ensures ∙ c.replace.ensures.value))
    (c.of_vec-2.ensures ∙ settings
    ∙ ap (λ (xs : List Setting). filter (λ x. not (is_in c.args.keys.now (setting_key c.mark.inside.id x.place))) xs)
    (c.into_vec-settings.ensures ∙ c.replace-2.ensures.value))
    (c.later-mark-inside.ensures ∙ ap (λ (n : ℕ). max (next_of c.mark.inside.last) n) c.last_value-last.ensures)
    (c.of_vec-3.ensures ∙ values
    ∙ ap (λ (xs : List Placed). filter (λ x. nat_le (next_of c.last_value-last.result) x.place) xs)
    (c.into_vec-values.ensures ∙ c.replace-3.ensures.value)
    ∙ ap (λ (n : ℕ). filter (λ x. nat_le n x.place) c.mark.inside.values) c.last_value-last.ensures)
    (c.place_after-mark-inside.ensures ∙ ap (λ (n : ℕ). place_from n c.mark.inside.newest) c.last_value-last.ensures)
    ∙ ap (handed c.args.keys.now) c.mark.view_is
