use Rattle.std.proofs.Common.{◌≡◌, ℤ, true, Some, None, refl, sym, ◌∙◌, ap, w64, to_z, of_z, arith}
use Rattle.std.specs.Ordering.{int_cmp}
use Rattle.std.specs.BTreeMap.{insert_entry, is_at}
use Rattle.std.specs.Map.{lookup}
use Rattle.std.proofs.lemmas.Int.{to_z-of_z}
use Rattle.nt_subs.specs.declared.sub.Sub.{Sub}
use Rattle.nt_subs.specs.Subscriptions.{Subs, with_sub, without_sub}
use Rattle.nt_client.proofs.Saying.{state-of, state-is}
use Rattle.nt_client.proofs.Undoing.{ok-only, on-err, put-found}
use Rattle.nt_client.proofs.Writing.{put-back, taken-back}
use Rattle.nt_client.proofs.client.Client.subscribe.Goals as goal
use Rattle.nt_client.proofs.client.Client.subscribe.Goals.{in-Ok+in-Some-1, in-Ok+in-None-1, in-Err-2, in-Some-1, in-None-1}

-- the earlier one is put back, at a key that is there
pub returns-in-Some-clause-err : goal.returns-in-Some-clause-err
returns-in-Some-clause-err c =
    let key : to_z w64 (of_z w64 c.args.uid) ≡ c.args.uid = to_z-of_z w64 c.args.uid c.ranges.uid in
    let ss : Subs = c.self.inside.subscriptions.entries in
    let earlier : Sub = c.in-Some.sub in
    let put : c.insert.new.self.entries ≡ with_sub c.args.uid c.args.sub ss =
    c.in-Ok.ensures.entries ∙ ap (λ (k : ℤ). with_sub k c.args.sub ss) key in
    let found : lookup (is_at (int_cmp c.args.uid)) ss ≡ Some earlier =
    ap (λ (k : ℤ). lookup (is_at (int_cmp k)) ss) (sym key) ∙ sym c.in-Ok.ensures.old ∙ c.in-Some.is in
    let there : lookup (is_at (int_cmp c.args.uid)) c.insert.new.self.entries ≡ Some c.args.sub =
    ap (lookup (is_at (int_cmp c.args.uid))) put ∙ put-found c.args.uid c.args.sub ss in
    let again : c.insert-put_back.new.self.entries ≡ insert_entry int_cmp c.insert.new.self.entries (to_z w64 (of_z w64 c.args.uid)) earlier =
    ok-only c.insert-put_back.result c.insert-put_back.ensures.entries c.insert-put_back.ensures.absent
    (λ none. absurd (cc (sym there ∙ ap (λ (k : ℤ). lookup (is_at (int_cmp k)) c.insert.new.self.entries) (sym key) ∙ none))) in
    let back : c.insert-put_back.new.self.entries ≡ ss =
    again ∙ ap (λ (k : ℤ). insert_entry int_cmp c.insert.new.self.entries k earlier) key
    ∙ ap (λ (es : Subs). insert_entry int_cmp es c.args.uid earlier) put
    ∙ put-back c.args.uid c.args.sub earlier ss c.insert.ensures.was_ordered found in
    let bad : c.is_err.result ≡ true = grind arith in
    let said : c.say.new.self ≡ c.self.inside.queue =
    on-err c.say.result (sym c.is_err.ensures.value ∙ bad) c.say.ensures.err in
    let main : state-of c.self.inside.topics.held.items c.self.inside.publishers.entries c.insert-put_back.new.self.entries c.say.new.self
    ≡ c.args.self.now =
    state-is c.self.inside.topics.held.items c.self.inside.topics.held.items c.self.inside.publishers.entries
    c.self.inside.publishers.entries c.insert-put_back.new.self.entries ss c.say.new.self c.self.inside.queue
    refl refl back said
    ∙ c.self.view_is in
    elim c.match-put_back.branch [
      | in-Ok+in-Some-1 w ↦ w.self-is ∙ main
      | in-Ok+in-None-1 w ↦ w.self-is ∙ main
      | in-Err-2 w ↦ w.self-is ∙ main
    ]

-- it is taken out again
pub returns-in-None-clause-err : goal.returns-in-None-clause-err
returns-in-None-clause-err c =
    let key : to_z w64 (of_z w64 c.args.uid) ≡ c.args.uid = to_z-of_z w64 c.args.uid c.ranges.uid in
    let ss : Subs = c.self.inside.subscriptions.entries in
    let put : c.insert.new.self.entries ≡ with_sub c.args.uid c.args.sub ss =
    c.in-Ok.ensures.entries ∙ ap (λ (k : ℤ). with_sub k c.args.sub ss) key in
    let none : lookup (is_at (int_cmp c.args.uid)) ss ≡ None =
    ap (λ (k : ℤ). lookup (is_at (int_cmp k)) ss) (sym key) ∙ sym c.in-Ok.ensures.old ∙ c.in-None.is in
    let back : c.remove.new.self.entries ≡ ss =
    c.remove.ensures.entries ∙ ap (λ (k : ℤ). without_sub k c.insert.new.self.entries) key
    ∙ ap (without_sub c.args.uid) put ∙ taken-back c.args.uid c.args.sub ss none in
    let bad : c.is_err.result ≡ true = grind arith in
    let said : c.say.new.self ≡ c.self.inside.queue =
    on-err c.say.result (sym c.is_err.ensures.value ∙ bad) c.say.ensures.err in
    let main : state-of c.self.inside.topics.held.items c.self.inside.publishers.entries c.remove.new.self.entries c.say.new.self
    ≡ c.args.self.now =
    state-is c.self.inside.topics.held.items c.self.inside.topics.held.items c.self.inside.publishers.entries
    c.self.inside.publishers.entries c.remove.new.self.entries ss c.say.new.self c.self.inside.queue refl refl back said
    ∙ c.self.view_is in
    elim c.match-remove.branch [
      | in-Some-1 w ↦ w.self-is ∙ main
      | in-None-1 w ↦ w.self-is ∙ main
    ]
