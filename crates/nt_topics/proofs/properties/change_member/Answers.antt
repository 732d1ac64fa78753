use Rattle.std.proofs.Common.{◌≡◌, true, false, ap, sym, ◌∙◌}
use Rattle.serde_json.specs.Data.{put}
use Rattle.serde_json.specs.Find.{get_member}
use Rattle.serde_json.specs.View.{view, members_view}
use Rattle.nt_topics.specs.Properties.{is_null}
use Rattle.nt_topics.proofs.Kept.{members_view-remove_entry}
use Rattle.nt_topics.proofs.Keys.{get_member-removed, get_member-put_at, decided-null, decided-put}
use Rattle.nt_topics.proofs.properties.change_member.Goals as goal

pub returns-then-is_null : goal.returns-then-is_null
returns-then-is_null c =
    let is : is_null (view c.args.value.now) ≡ true = sym c.is_null.ensures ∙ c.if-is_null.true in
    let key = c.args.key.now in
    let old = c.args.members.now in
    record {
      ok = ap members_view c.remove.ensures.entries ∙ members_view-remove_entry key old.entries ∙ rw is;
      keys = λ k. get_member-removed key k old c.remove.new.self c.remove.ensures.updates
          ∙ decided-null key k _ _ is;
    }

pub returns-clause-keys : goal.returns-clause-keys
returns-clause-keys c =
    let other : is_null (view c.args.value.now) ≡ false = sym c.is_null.ensures ∙ c.if-is_null.false in
    let key = c.args.key.now in
    let d = view c.args.value.now in
    let old = members_view c.args.members.now.entries in
    let is : members_view c.put.new.map.entries ≡ put key d old =
    c.in_ok-put.ensures.ok ∙ ap (λ e. put key e old) c.in_ok-clone.ensures.cases in
    λ k. ap (get_member k) is ∙ get_member-put_at key k d old ∙ decided-put key k d _ other
