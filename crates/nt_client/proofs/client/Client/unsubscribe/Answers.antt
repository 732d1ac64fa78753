use Rattle.std.proofs.Common.{◌≡◌, ℤ, true, false, refl, sym, ◌∙◌, ap, w64, to_z, of_z, arith}
use Rattle.std.proofs.lemmas.Int.{to_z-of_z}
use Rattle.nt_subs.specs.Subscriptions.{Subs, has_uid, without_sub}
use Rattle.nt_client.proofs.Faults.{none-used, one-free}
use Rattle.nt_client.specs.declared.fault.ClientFault.TheVariants.{NoSuchUid}
use Rattle.nt_client.specs.Calls.{State, queued, unsubscribed}
use Rattle.nt_control.specs.declared.message.ClientMsg.TheVariants.{Unsubscribe}
use Rattle.nt_rules.specs.declared.act.Msg.TheVariants.{Control}
use Rattle.nt_client.proofs.Saying.{state-is}
use Rattle.nt_client.proofs.client.Client.unsubscribe.Goals as goal

pub returns-then-not-contains_key-clause-memory : goal.returns-then-not-contains_key-clause-memory
returns-then-not-contains_key-clause-memory c is =
    let same : c.self.inside.subscriptions.entries ≡ c.args.self.now.subscriptions = ap (λ (s : State). s.subscriptions) c.self.view_is in
    let key : to_z w64 (of_z w64 c.args.uid) ≡ c.args.uid = to_z-of_z w64 c.args.uid c.ranges.uid in
    let has : c.contains_key.result ≡ false = grind arith in
    let inside : has_uid c.args.uid c.self.inside.subscriptions.entries ≡ false =
    ap (λ (k : ℤ). has_uid k c.self.inside.subscriptions.entries) (sym key) ∙ sym c.contains_key.ensures ∙ has in
    let found : has_uid c.args.uid c.args.self.now.subscriptions ≡ false = ap (λ (ss : Subs). has_uid c.args.uid ss) (sym same) ∙ inside in
    one-free (has_uid c.args.uid c.args.self.now.subscriptions) NoSuchUid found is

pub returns-in_err-say-clause-refused : goal.returns-in_err-say-clause-refused
returns-in_err-say-clause-refused c fault is =
    let same : c.self.inside.subscriptions.entries ≡ c.args.self.now.subscriptions = ap (λ (s : State). s.subscriptions) c.self.view_is in
    let key : to_z w64 (of_z w64 c.args.uid) ≡ c.args.uid = to_z-of_z w64 c.args.uid c.ranges.uid in
    let has : c.contains_key.result ≡ true = grind arith in
    let inside : has_uid c.args.uid c.self.inside.subscriptions.entries ≡ true =
    ap (λ (k : ℤ). has_uid k c.self.inside.subscriptions.entries) (sym key) ∙ sym c.contains_key.ensures ∙ has in
    let found : has_uid c.args.uid c.args.self.now.subscriptions ≡ true = ap (λ (ss : Subs). has_uid c.args.uid ss) (sym same) ∙ inside in
    none-used (has_uid c.args.uid c.args.self.now.subscriptions) NoSuchUid fault found is

pub returns-clause-refused : goal.returns-clause-refused
returns-clause-refused c fault is =
    let same : c.self.inside.subscriptions.entries ≡ c.args.self.now.subscriptions = ap (λ (s : State). s.subscriptions) c.self.view_is in
    let key : to_z w64 (of_z w64 c.args.uid) ≡ c.args.uid = to_z-of_z w64 c.args.uid c.ranges.uid in
    let has : c.contains_key.result ≡ true = grind arith in
    let inside : has_uid c.args.uid c.self.inside.subscriptions.entries ≡ true =
    ap (λ (k : ℤ). has_uid k c.self.inside.subscriptions.entries) (sym key) ∙ sym c.contains_key.ensures ∙ has in
    let found : has_uid c.args.uid c.args.self.now.subscriptions ≡ true = ap (λ (ss : Subs). has_uid c.args.uid ss) (sym same) ∙ inside in
    none-used (has_uid c.args.uid c.args.self.now.subscriptions) NoSuchUid fault found is

pub returns-clause-ok : goal.returns-clause-ok
returns-clause-ok c =
    let key : to_z w64 (of_z w64 c.args.uid) ≡ c.args.uid = to_z-of_z w64 c.args.uid c.ranges.uid in
    let left : c.remove.new.self.entries ≡ without_sub c.args.uid c.self.inside.subscriptions.entries =
    c.remove.ensures.entries ∙ ap (λ (k : ℤ). without_sub k c.self.inside.subscriptions.entries) key in
    let said : c.say.new.self ≡ queued (Control (Unsubscribe c.args.uid)) c.self.inside.queue =
    cc (key, c.in_ok-say.ensures.ok) in
    state-is c.self.inside.topics.held.items c.self.inside.topics.held.items c.self.inside.publishers.entries
    c.self.inside.publishers.entries c.remove.new.self.entries
    (without_sub c.args.uid c.self.inside.subscriptions.entries) c.say.new.self
    (queued (Control (Unsubscribe c.args.uid)) c.self.inside.queue) refl refl left said
    ∙ ap (unsubscribed c.args.uid) c.self.view_is
