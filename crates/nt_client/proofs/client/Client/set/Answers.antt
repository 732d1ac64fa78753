use Rattle.std.proofs.Common.{w64, to_z, of_z, ◌≡◌, ℤ, false, Some, None, refl, sym, ◌∙◌, ap, arith, rules}
use Rattle.std.specs.Ordering.{int_cmp}
use Rattle.std.specs.BTreeMap.{is_at}
use Rattle.std.proofs.lemmas.Bool.Decides.{nat_tests}
use Rattle.std.proofs.lemmas.Int.{to_z-of_z}
use Rattle.std.specs.Map.{set_value}
use Rattle.std.proofs.lemmas.Map.Steps.{set_value_same}
use Rattle.nt_rules.specs.declared.topic.Timed.{Timed}
use Rattle.nt_rules.specs.topics.Topics.{is_value_of}
use Rattle.nt_client.specs.declared.fault.ClientFault.TheVariants.{NoSuchUid, WrongType}
use Rattle.nt_client.specs.declared.publisher.Publisher.{Publisher}
use Rattle.nt_client.specs.Calls.{Publishers, State, message_of, publisher_of, queued, set_fault, valued, with_last}
use Rattle.nt_client.proofs.Faults.{set-nowhere, set-unfit}
use Rattle.nt_client.proofs.Saying.{at-err, state-is}
use Rattle.nt_client.proofs.Writing.{wrote-last}
use Rattle.nt_client.proofs.client.Client.set.Goals as goal

pub returns-in_default-clause-memory : goal.returns-in_default-clause-memory
returns-in_default-clause-memory c is =
    let key : to_z w64 (of_z w64 c.args.uid) ≡ c.args.uid = to_z-of_z w64 c.args.uid c.ranges.uid in
    let nothing : publisher_of (to_z w64 (of_z w64 c.args.uid)) c.self.inside.publishers.entries ≡ None = search rules in
    let none : publisher_of c.args.uid c.self.inside.publishers.entries ≡ None =
    ap (λ (k : ℤ). publisher_of k c.self.inside.publishers.entries) (sym key) ∙ nothing in
    let nowhere : set_fault c.args.uid c.args.value c.args.self.now ≡ Some NoSuchUid =
    set-nowhere c.args.uid c.args.value c.args.self.now
    (sym (ap (λ (s : State). publisher_of c.args.uid s.publishers) c.self.view_is) ∙ none) in
    absurd (cc (sym is ∙ nowhere))

pub returns-then-not-fits-clause-refused : goal.returns-then-not-fits-clause-refused
returns-then-not-fits-clause-refused c fault is =
    let key : to_z w64 (of_z w64 c.args.uid) ≡ c.args.uid = to_z-of_z w64 c.args.uid c.ranges.uid in
    let p : Publisher = c.in-Some.publisher.now in
    let found : publisher_of c.args.uid c.self.inside.publishers.entries ≡ Some p =
    ap (λ (k : ℤ). publisher_of k c.self.inside.publishers.entries) (sym key) ∙ sym c.in-Some.ensures.value in
    let no : is_value_of p.typ c.args.value ≡ false = grind (arith, nat_tests) in
    let unfit : set_fault c.args.uid c.args.value c.args.self.now ≡ Some WrongType =
    set-unfit c.args.uid c.args.value c.args.self.now p
    (sym (ap (λ (s : State). publisher_of c.args.uid s.publishers) c.self.view_is) ∙ found) no in
    cc (sym unfit ∙ is)

pub returns-then-not-fits-clause-memory : goal.returns-then-not-fits-clause-memory
returns-then-not-fits-clause-memory c is =
    let key : to_z w64 (of_z w64 c.args.uid) ≡ c.args.uid = to_z-of_z w64 c.args.uid c.ranges.uid in
    let p : Publisher = c.in-Some.publisher.now in
    let found : publisher_of c.args.uid c.self.inside.publishers.entries ≡ Some p =
    ap (λ (k : ℤ). publisher_of k c.self.inside.publishers.entries) (sym key) ∙ sym c.in-Some.ensures.value in
    let no : is_value_of p.typ c.args.value ≡ false = grind (arith, nat_tests) in
    let unfit : set_fault c.args.uid c.args.value c.args.self.now ≡ Some WrongType =
    set-unfit c.args.uid c.args.value c.args.self.now p
    (sym (ap (λ (s : State). publisher_of c.args.uid s.publishers) c.self.view_is) ∙ found) no in
    absurd (cc (sym is ∙ unfit))

-- the publisher is let go unwritten
pub returns-then-not-fits-clause-err : goal.returns-then-not-fits-clause-err
returns-then-not-fits-clause-err c =
    let key : to_z w64 (of_z w64 c.args.uid) ≡ c.args.uid = to_z-of_z w64 c.args.uid c.ranges.uid in
    let p : Publisher = c.in-Some.publisher.now in
    let ps : Publishers = c.self.inside.publishers.entries in
    let found : publisher_of c.args.uid ps ≡ Some p =
    ap (λ (k : ℤ). publisher_of k ps) (sym key) ∙ sym c.in-Some.ensures.value in
    let back : (c.get_mut.follows.lender p).entries ≡ ps =
    (c.get_mut.follows.holds p).0 ∙ ap (λ (k : ℤ). set_value (is_at (int_cmp k)) ps p) key
    ∙ set_value_same (is_at (int_cmp c.args.uid)) ps p found in
    state-is c.self.inside.topics.held.items c.self.inside.topics.held.items (c.get_mut.follows.lender p).entries ps
    c.self.inside.subscriptions.entries c.self.inside.subscriptions.entries c.self.inside.queue c.self.inside.queue refl back refl refl
    ∙ c.self.view_is

pub returns-in_err-copy-clause-err : goal.returns-in_err-copy-clause-err
returns-in_err-copy-clause-err c =
    let key : to_z w64 (of_z w64 c.args.uid) ≡ c.args.uid = to_z-of_z w64 c.args.uid c.ranges.uid in
    let p : Publisher = c.in-Some.publisher.now in
    let ps : Publishers = c.self.inside.publishers.entries in
    let found : publisher_of c.args.uid ps ≡ Some p =
    ap (λ (k : ℤ). publisher_of k ps) (sym key) ∙ sym c.in-Some.ensures.value in
    let back : (c.get_mut.follows.lender p).entries ≡ ps =
    (c.get_mut.follows.holds p).0 ∙ ap (λ (k : ℤ). set_value (is_at (int_cmp k)) ps p) key
    ∙ set_value_same (is_at (int_cmp c.args.uid)) ps p found in
    at-err c.from_residual.result
    (state-is c.self.inside.topics.held.items c.self.inside.topics.held.items (c.get_mut.follows.lender p).entries ps
    c.self.inside.subscriptions.entries c.self.inside.subscriptions.entries c.self.inside.queue c.self.inside.queue refl back refl refl
    ∙ c.self.view_is)

pub returns-in_err-put-clause-err : goal.returns-in_err-put-clause-err
returns-in_err-put-clause-err c =
    let key : to_z w64 (of_z w64 c.args.uid) ≡ c.args.uid = to_z-of_z w64 c.args.uid c.ranges.uid in
    let p : Publisher = c.in-Some.publisher.now in
    let ps : Publishers = c.self.inside.publishers.entries in
    let found : publisher_of c.args.uid ps ≡ Some p =
    ap (λ (k : ℤ). publisher_of k ps) (sym key) ∙ sym c.in-Some.ensures.value in
    let back : (c.get_mut.follows.lender p).entries ≡ ps =
    (c.get_mut.follows.holds p).0 ∙ ap (λ (k : ℤ). set_value (is_at (int_cmp k)) ps p) key
    ∙ set_value_same (is_at (int_cmp c.args.uid)) ps p found in
    let said : c.put.new.self ≡ c.self.inside.queue = search rules in
    at-err c.from_residual-in_err-put.result
    (state-is c.self.inside.topics.held.items c.self.inside.topics.held.items (c.get_mut.follows.lender p).entries ps
    c.self.inside.subscriptions.entries c.self.inside.subscriptions.entries c.put.new.self c.self.inside.queue refl back refl said
    ∙ c.self.view_is)

pub returns-clause-ok : goal.returns-clause-ok
returns-clause-ok c =
    let key : to_z w64 (of_z w64 c.args.uid) ≡ c.args.uid = to_z-of_z w64 c.args.uid c.ranges.uid in
    let timed : Timed = record { time = c.args.time; value = c.args.value } in
    let p : Publisher = c.in-Some.publisher.now in
    let written : Publisher = record p { last = Some timed } in
    let ps : Publishers = c.self.inside.publishers.entries in
    let found : publisher_of c.args.uid ps ≡ Some p =
    ap (λ (k : ℤ). publisher_of k ps) (sym key) ∙ sym c.in-Some.ensures.value in
    let last : (c.get_mut.follows.lender written).entries ≡ with_last c.args.uid timed ps (publisher_of c.args.uid ps) =
    wrote-last c.args.uid timed p written ps (c.get_mut.follows.lender written).entries c.get_mut.ensures.ordered found refl
    ((c.get_mut.follows.holds written).0 ∙ ap (λ (k : ℤ). set_value (is_at (int_cmp k)) ps written) key) in
    let said : c.put.new.self ≡ queued (message_of c.args.uid timed) c.self.inside.queue = search rules in
    state-is c.self.inside.topics.held.items c.self.inside.topics.held.items (c.get_mut.follows.lender written).entries
    (with_last c.args.uid timed ps (publisher_of c.args.uid ps)) c.self.inside.subscriptions.entries c.self.inside.subscriptions.entries
    c.put.new.self (queued (message_of c.args.uid timed) c.self.inside.queue) refl last refl said
    ∙ ap (valued c.args.uid timed) c.self.view_is
