use Rattle.std.proofs.Common.{◌≡◌, ℤ, true, false, refl, sym, ◌∙◌, ap, w64, to_z, of_z, arith}
use Rattle.std.specs.Prelude.{is_some}
use Rattle.std.proofs.lemmas.Int.{to_z-of_z}
use Rattle.nt_client.proofs.Faults.{none-used, one-free}
use Rattle.nt_client.specs.declared.fault.ClientFault.TheVariants.{NoSuchUid}
use Rattle.nt_client.specs.Calls.{Publishers, State, publisher_of, queued, unpublished, without_publisher}
use Rattle.nt_control.specs.declared.message.ClientMsg.TheVariants.{Unpublish}
use Rattle.nt_rules.specs.declared.act.Msg.TheVariants.{Control}
use Rattle.nt_client.proofs.Saying.{state-is}
use Rattle.nt_client.proofs.client.Client.unpublish.Goals as goal

pub returns-then-not-contains_key-clause-memory : goal.returns-then-not-contains_key-clause-memory
returns-then-not-contains_key-clause-memory c is =
    let same : c.self.inside.publishers.entries ≡ c.args.self.now.publishers = ap (λ (s : State). s.publishers) c.self.view_is in
    let key : to_z w64 (of_z w64 c.args.uid) ≡ c.args.uid = to_z-of_z w64 c.args.uid c.ranges.uid in
    let has : c.contains_key.result ≡ false = grind arith in
    let inside : is_some (publisher_of c.args.uid c.self.inside.publishers.entries) ≡ false =
    ap (λ (k : ℤ). is_some (publisher_of k c.self.inside.publishers.entries)) (sym key) ∙ sym c.contains_key.ensures ∙ has in
    let found : is_some (publisher_of c.args.uid c.args.self.now.publishers) ≡ false = ap (λ (ps : Publishers). is_some (publisher_of c.args.uid ps)) (sym same) ∙ inside in
    one-free (is_some (publisher_of c.args.uid c.args.self.now.publishers)) NoSuchUid found is

pub returns-in_err-say-clause-refused : goal.returns-in_err-say-clause-refused
returns-in_err-say-clause-refused c fault is =
    let same : c.self.inside.publishers.entries ≡ c.args.self.now.publishers = ap (λ (s : State). s.publishers) c.self.view_is in
    let key : to_z w64 (of_z w64 c.args.uid) ≡ c.args.uid = to_z-of_z w64 c.args.uid c.ranges.uid in
    let has : c.contains_key.result ≡ true = grind arith in
    let inside : is_some (publisher_of c.args.uid c.self.inside.publishers.entries) ≡ true =
    ap (λ (k : ℤ). is_some (publisher_of k c.self.inside.publishers.entries)) (sym key) ∙ sym c.contains_key.ensures ∙ has in
    let found : is_some (publisher_of c.args.uid c.args.self.now.publishers) ≡ true = ap (λ (ps : Publishers). is_some (publisher_of c.args.uid ps)) (sym same) ∙ inside in
    none-used (is_some (publisher_of c.args.uid c.args.self.now.publishers)) NoSuchUid fault found is

pub returns-clause-refused : goal.returns-clause-refused
returns-clause-refused c fault is =
    let same : c.self.inside.publishers.entries ≡ c.args.self.now.publishers = ap (λ (s : State). s.publishers) c.self.view_is in
    let key : to_z w64 (of_z w64 c.args.uid) ≡ c.args.uid = to_z-of_z w64 c.args.uid c.ranges.uid in
    let has : c.contains_key.result ≡ true = grind arith in
    let inside : is_some (publisher_of c.args.uid c.self.inside.publishers.entries) ≡ true =
    ap (λ (k : ℤ). is_some (publisher_of k c.self.inside.publishers.entries)) (sym key) ∙ sym c.contains_key.ensures ∙ has in
    let found : is_some (publisher_of c.args.uid c.args.self.now.publishers) ≡ true = ap (λ (ps : Publishers). is_some (publisher_of c.args.uid ps)) (sym same) ∙ inside in
    none-used (is_some (publisher_of c.args.uid c.args.self.now.publishers)) NoSuchUid fault found is

pub returns-clause-ok : goal.returns-clause-ok
returns-clause-ok c =
    let key : to_z w64 (of_z w64 c.args.uid) ≡ c.args.uid = to_z-of_z w64 c.args.uid c.ranges.uid in
    let left : c.remove.new.self.entries ≡ without_publisher c.args.uid c.self.inside.publishers.entries =
    c.remove.ensures.entries ∙ ap (λ (k : ℤ). without_publisher k c.self.inside.publishers.entries) key in
    let said : c.say.new.self ≡ queued (Control (Unpublish c.args.uid)) c.self.inside.queue =
    cc (key, c.in_ok-say.ensures.ok) in
    state-is c.self.inside.topics.held.items c.self.inside.topics.held.items c.remove.new.self.entries
    (without_publisher c.args.uid c.self.inside.publishers.entries) c.self.inside.subscriptions.entries
    c.self.inside.subscriptions.entries c.say.new.self
    (queued (Control (Unpublish c.args.uid)) c.self.inside.queue) refl left refl said
    ∙ ap (unpublished c.args.uid) c.self.view_is
