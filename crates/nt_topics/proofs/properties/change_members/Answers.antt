use Rattle.std.proofs.Common.{◌≡◌, ◌∷◌, string_bytes, string_cmp, sym, ap, subst, ◌∙◌}
use Rattle.std.specs.List.Sorted.{IsStrictlySortedBy}
use Rattle.std.specs.Map.{keys_of}
use Rattle.serde_json.proofs.Views.{Entry}
use Rattle.serde_json.specs.Find.{get_member}
use Rattle.serde_json.specs.View.{view, members_view}
use Rattle.nt_topics.specs.Properties.{changed, changed_by, decided, decided_by}
use Rattle.nt_topics.proofs.Keys.{decided-step, sorted-tail}
use Rattle.nt_topics.proofs.properties.change_members.Goals as goal

pub loop-key-preserved : goal.loop-key-preserved
loop-key-preserved c =
    let l = c.loop-key in
    let e : Entry = (c.in-Some.key.now, c.in-Some.value.now) in
    let d = view e.1 in
    let left = c.next.new.self in
    let ms = members_view l.members.entries in
    let done = c.in_ok-change_member.ensures in
    let named : c.as_str.result.now ≡ string_bytes e.0 = c.as_str.ensures.value in
    let steps : l.key-iterator ≡ e ∷ left = c.in-Some.ensures.steps in
    let sorted = subst (λ es. IsStrictlySortedBy string_cmp (keys_of es)) steps l.invariant.2 in (
      ap (λ ns. changed_by ns (members_view left)) (done.ok ∙ ap (λ k. changed k d ms) named)
          ∙ sym (ap (λ es. changed_by ms (members_view es)) steps)
          ∙ l.invariant.0,
      (λ k.
          ap (decided (get_member k (members_view left)))
          (done.keys k ∙ ap (λ q. decided_by q d k (get_member k ms)) named)
          ∙ decided-step e left k (get_member k ms) sorted
          ∙ sym (ap (λ es. decided (get_member k (members_view es)) (get_member k ms)) steps)
          ∙ l.invariant.1 k),
      sorted-tail e left sorted,
    )
