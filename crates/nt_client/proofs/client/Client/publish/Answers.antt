use Rattle.std.proofs.Common.{◌≡◌, ℤ, true, false, None, refl, sym, ◌∙◌, ap, w64, to_z, of_z, arith}
use Rattle.std.specs.Prelude.{is_some}
use Rattle.std.proofs.lemmas.Int.{to_z-of_z}
use Rattle.nt_client.proofs.Faults.{none-free, one-used}
use Rattle.nt_client.proofs.Undoing.{none-of, on-err, on-ok}
use Rattle.nt_client.proofs.Writing.{taken-back}
use Rattle.nt_client.specs.declared.fault.ClientFault.TheVariants.{UidInUse}
use Rattle.nt_control.specs.declared.message.ClientMsg.TheVariants.{Publish}
use Rattle.nt_rules.specs.declared.act.Msg.TheVariants.{Control}
use Rattle.nt_client.specs.declared.publisher.Publisher.{Publisher}
use Rattle.nt_client.specs.Calls.{Publishers, State, publisher_of, published, queued, with_publisher, without_publisher}
use Rattle.nt_client.proofs.Saying.{state-is}
use Rattle.nt_client.proofs.client.Client.publish.Goals as goal

pub returns-then-contains_key-clause-memory : goal.returns-then-contains_key-clause-memory
returns-then-contains_key-clause-memory c is =
    let same : c.self.inside.publishers.entries ≡ c.args.self.now.publishers =
    ap (λ (s : State). s.publishers) c.self.view_is in
    let key : to_z w64 (of_z w64 c.args.uid) ≡ c.args.uid = to_z-of_z w64 c.args.uid c.ranges.uid in
    let has : c.contains_key.result ≡ true = grind arith in
    let inside : is_some (publisher_of c.args.uid c.self.inside.publishers.entries) ≡ true =
    ap (λ (k : ℤ). is_some (publisher_of k c.self.inside.publishers.entries)) (sym key)
    ∙ sym c.contains_key.ensures ∙ has in
    let found : is_some (publisher_of c.args.uid c.args.self.now.publishers) ≡ true =
    ap (λ (ps : Publishers). is_some (publisher_of c.args.uid ps)) (sym same) ∙ inside in
    one-used (is_some (publisher_of c.args.uid c.args.self.now.publishers)) UidInUse found is

pub returns-in_err-copy-clause-refused : goal.returns-in_err-copy-clause-refused
returns-in_err-copy-clause-refused c fault is =
    let same : c.self.inside.publishers.entries ≡ c.args.self.now.publishers =
    ap (λ (s : State). s.publishers) c.self.view_is in
    let key : to_z w64 (of_z w64 c.args.uid) ≡ c.args.uid = to_z-of_z w64 c.args.uid c.ranges.uid in
    let has : c.contains_key.result ≡ false = grind arith in
    let inside : is_some (publisher_of c.args.uid c.self.inside.publishers.entries) ≡ false =
    ap (λ (k : ℤ). is_some (publisher_of k c.self.inside.publishers.entries)) (sym key)
    ∙ sym c.contains_key.ensures ∙ has in
    let found : is_some (publisher_of c.args.uid c.args.self.now.publishers) ≡ false =
    ap (λ (ps : Publishers). is_some (publisher_of c.args.uid ps)) (sym same) ∙ inside in
    none-free (is_some (publisher_of c.args.uid c.args.self.now.publishers)) UidInUse fault found is

pub returns-in_err-copy-2-clause-refused : goal.returns-in_err-copy-2-clause-refused
returns-in_err-copy-2-clause-refused c fault is =
    let same : c.self.inside.publishers.entries ≡ c.args.self.now.publishers =
    ap (λ (s : State). s.publishers) c.self.view_is in
    let key : to_z w64 (of_z w64 c.args.uid) ≡ c.args.uid = to_z-of_z w64 c.args.uid c.ranges.uid in
    let has : c.contains_key.result ≡ false = grind arith in
    let inside : is_some (publisher_of c.args.uid c.self.inside.publishers.entries) ≡ false =
    ap (λ (k : ℤ). is_some (publisher_of k c.self.inside.publishers.entries)) (sym key)
    ∙ sym c.contains_key.ensures ∙ has in
    let found : is_some (publisher_of c.args.uid c.args.self.now.publishers) ≡ false =
    ap (λ (ps : Publishers). is_some (publisher_of c.args.uid ps)) (sym same) ∙ inside in
    none-free (is_some (publisher_of c.args.uid c.args.self.now.publishers)) UidInUse fault found is

pub returns-in_err-copy-3-clause-refused : goal.returns-in_err-copy-3-clause-refused
returns-in_err-copy-3-clause-refused c fault is =
    let same : c.self.inside.publishers.entries ≡ c.args.self.now.publishers =
    ap (λ (s : State). s.publishers) c.self.view_is in
    let key : to_z w64 (of_z w64 c.args.uid) ≡ c.args.uid = to_z-of_z w64 c.args.uid c.ranges.uid in
    let has : c.contains_key.result ≡ false = grind arith in
    let inside : is_some (publisher_of c.args.uid c.self.inside.publishers.entries) ≡ false =
    ap (λ (k : ℤ). is_some (publisher_of k c.self.inside.publishers.entries)) (sym key)
    ∙ sym c.contains_key.ensures ∙ has in
    let found : is_some (publisher_of c.args.uid c.args.self.now.publishers) ≡ false =
    ap (λ (ps : Publishers). is_some (publisher_of c.args.uid ps)) (sym same) ∙ inside in
    none-free (is_some (publisher_of c.args.uid c.args.self.now.publishers)) UidInUse fault found is

pub returns-then-is_err-clause-refused : goal.returns-then-is_err-clause-refused
returns-then-is_err-clause-refused c fault is =
    let same : c.self.inside.publishers.entries ≡ c.args.self.now.publishers =
    ap (λ (s : State). s.publishers) c.self.view_is in
    let key : to_z w64 (of_z w64 c.args.uid) ≡ c.args.uid = to_z-of_z w64 c.args.uid c.ranges.uid in
    let has : c.contains_key.result ≡ false = grind arith in
    let inside : is_some (publisher_of c.args.uid c.self.inside.publishers.entries) ≡ false =
    ap (λ (k : ℤ). is_some (publisher_of k c.self.inside.publishers.entries)) (sym key)
    ∙ sym c.contains_key.ensures ∙ has in
    let found : is_some (publisher_of c.args.uid c.args.self.now.publishers) ≡ false =
    ap (λ (ps : Publishers). is_some (publisher_of c.args.uid ps)) (sym same) ∙ inside in
    none-free (is_some (publisher_of c.args.uid c.args.self.now.publishers)) UidInUse fault found is

pub returns-then-is_err-clause-err : goal.returns-then-is_err-clause-err
returns-then-is_err-clause-err c =
    let bad : c.is_err.result ≡ true = grind arith in
    let same : c.insert.new.self.entries ≡ c.self.inside.publishers.entries =
    on-err c.insert.result (sym c.is_err.ensures.value ∙ bad) c.insert.ensures.err in
    state-is c.self.inside.topics.held.items c.self.inside.topics.held.items c.insert.new.self.entries
    c.self.inside.publishers.entries c.self.inside.subscriptions.entries c.self.inside.subscriptions.entries
    c.self.inside.queue c.self.inside.queue refl same refl refl
    ∙ c.self.view_is

pub returns-then-is_err-2-clause-refused : goal.returns-then-is_err-2-clause-refused
returns-then-is_err-2-clause-refused c fault is =
    let same : c.self.inside.publishers.entries ≡ c.args.self.now.publishers =
    ap (λ (s : State). s.publishers) c.self.view_is in
    let key : to_z w64 (of_z w64 c.args.uid) ≡ c.args.uid = to_z-of_z w64 c.args.uid c.ranges.uid in
    let has : c.contains_key.result ≡ false = grind arith in
    let inside : is_some (publisher_of c.args.uid c.self.inside.publishers.entries) ≡ false =
    ap (λ (k : ℤ). is_some (publisher_of k c.self.inside.publishers.entries)) (sym key)
    ∙ sym c.contains_key.ensures ∙ has in
    let found : is_some (publisher_of c.args.uid c.args.self.now.publishers) ≡ false =
    ap (λ (ps : Publishers). is_some (publisher_of c.args.uid ps)) (sym same) ∙ inside in
    none-free (is_some (publisher_of c.args.uid c.args.self.now.publishers)) UidInUse fault found is

-- what was put is taken back
pub returns-then-is_err-2-clause-err : goal.returns-then-is_err-2-clause-err
returns-then-is_err-2-clause-err c =
    let key : to_z w64 (of_z w64 c.args.uid) ≡ c.args.uid = to_z-of_z w64 c.args.uid c.ranges.uid in
    let p : Publisher = record { name = c.args.name; typ = c.args.typ; props = c.args.props; last = None } in
    let ps : Publishers = c.self.inside.publishers.entries in
    let good : c.is_err.result ≡ false = grind arith in
    let put : c.insert.new.self.entries ≡ with_publisher c.args.uid p ps =
    on-ok c.insert.result (sym c.is_err.ensures.value ∙ good) c.insert.ensures.entries
    ∙ ap (λ (k : ℤ). with_publisher k p ps) key in
    let has : c.contains_key.result ≡ false = grind arith in
    let none : publisher_of c.args.uid ps ≡ None =
    none-of (publisher_of c.args.uid ps)
    (ap (λ (k : ℤ). is_some (publisher_of k ps)) (sym key) ∙ sym c.contains_key.ensures ∙ has) in
    let back : c.remove.new.self.entries ≡ ps =
    c.remove.ensures.entries ∙ ap (λ (k : ℤ). without_publisher k c.insert.new.self.entries) key
    ∙ ap (without_publisher c.args.uid) put ∙ taken-back c.args.uid p ps none in
    let bad : c.is_err-2.result ≡ true = grind arith in
    let said : c.say.new.self ≡ c.self.inside.queue =
    on-err c.say.result (sym c.is_err-2.ensures.value ∙ bad) c.say.ensures.err in
    state-is c.self.inside.topics.held.items c.self.inside.topics.held.items c.remove.new.self.entries ps
    c.self.inside.subscriptions.entries c.self.inside.subscriptions.entries c.say.new.self c.self.inside.queue
    refl back refl said
    ∙ c.self.view_is

pub returns-clause-refused : goal.returns-clause-refused
returns-clause-refused c fault is =
    let same : c.self.inside.publishers.entries ≡ c.args.self.now.publishers =
    ap (λ (s : State). s.publishers) c.self.view_is in
    let key : to_z w64 (of_z w64 c.args.uid) ≡ c.args.uid = to_z-of_z w64 c.args.uid c.ranges.uid in
    let has : c.contains_key.result ≡ false = grind arith in
    let inside : is_some (publisher_of c.args.uid c.self.inside.publishers.entries) ≡ false =
    ap (λ (k : ℤ). is_some (publisher_of k c.self.inside.publishers.entries)) (sym key)
    ∙ sym c.contains_key.ensures ∙ has in
    let found : is_some (publisher_of c.args.uid c.args.self.now.publishers) ≡ false =
    ap (λ (ps : Publishers). is_some (publisher_of c.args.uid ps)) (sym same) ∙ inside in
    none-free (is_some (publisher_of c.args.uid c.args.self.now.publishers)) UidInUse fault found is

pub returns-clause-ok : goal.returns-clause-ok
returns-clause-ok c =
    let key : to_z w64 (of_z w64 c.args.uid) ≡ c.args.uid = to_z-of_z w64 c.args.uid c.ranges.uid in
    let p : Publisher = record { name = c.args.name; typ = c.args.typ; props = c.args.props; last = None } in
    let ps : Publishers = c.self.inside.publishers.entries in
    let good : c.is_err.result ≡ false = grind arith in
    let put : c.insert.new.self.entries ≡ with_publisher c.args.uid p ps =
    on-ok c.insert.result (sym c.is_err.ensures.value ∙ good) c.insert.ensures.entries
    ∙ ap (λ (k : ℤ). with_publisher k p ps) key in
    let fine : c.is_err-2.result ≡ false = grind arith in
    let told = on-ok c.say.result (sym c.is_err-2.ensures.value ∙ fine) c.say.ensures.ok in
    let said : c.say.new.self ≡ queued (Control (Publish c.args.name c.args.uid c.args.typ c.args.props)) c.self.inside.queue =
    cc (key, told, c.in_ok-copy.ensures, c.in_ok-copy-2.ensures, c.in_ok-copy-3.ensures) in
    state-is c.self.inside.topics.held.items c.self.inside.topics.held.items c.insert.new.self.entries
    (with_publisher c.args.uid p ps) c.self.inside.subscriptions.entries c.self.inside.subscriptions.entries
    c.say.new.self (queued (Control (Publish c.args.name c.args.uid c.args.typ c.args.props)) c.self.inside.queue)
    refl put refl said
    ∙ ap (published c.args.uid c.args.name c.args.typ c.args.props) c.self.view_is
