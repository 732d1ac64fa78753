use Rattle.std.proofs.Common.{◌≡◌, ◌∙◌, ℕ, ℤ, List, [], refl, sym, subst, to_z, of_z, w64, rules}
use Rattle.nt_values.specs.declared.value.Value.{Value}
use Rattle.nt_topics.specs.declared.properties.Props.{Props}
use Rattle.nt_topics.specs.declared.properties.Update.{Update}
use Rattle.nt_control.specs.declared.message.ClientMsg.TheVariants.{Publish, Unpublish, SetProps}
use Rattle.nt_rules.specs.declared.topic.Outcome.{Outcome}
use Rattle.nt_rules.specs.declared.act.Msg.TheVariants.{Control, Put}
use Rattle.nt_rules.specs.topics.Topics.{TableState, if_counts, publish_cause, published, next_after, unpublish_cause, unpublished, update_cause, with_props, put_cause, with_put}
use Rattle.nt_rules.specs.topics.Changes.{outcome_of, publish_changes, unpublish_changes, update_changes, put_changes}
use Rattle.nt_rules.specs.history.State.{open_metas}
use Rattle.nt_server.specs.View.{state_of}
use Rattle.nt_server.proofs.Counts.{counts-same, kept-control, kept-put, said-settled}
use Rattle.nt_server.proofs.inner.Inner.hear.Goals as goal

-- what a table answers to a publish, and leaves
record IsPublished (t new : TableState) (o : Outcome) (conn : ℕ) (uid : ℤ) (name typ : List ℕ) (props : Props) : Type 0
  where
    answer : o ≡ outcome_of (publish_cause t.topics t.next conn uid name props)
        (publish_changes t.topics t.next name typ props)
    topics : new.topics ≡ if_counts (publish_cause t.topics t.next conn uid name props)
        (published t.topics t.next name typ props (record { conn = conn; uid = uid; typ = typ })) t.topics
    next : new.next ≡ if_counts (publish_cause t.topics t.next conn uid name props) (next_after t.topics t.next name)
        t.next

-- and to a put
record IsTaken (t new : TableState) (o : Outcome) (conn : ℕ) (uid : ℤ) (time : ℕ) (value : Value) : Type 0 where
  answer : o ≡ outcome_of (put_cause t.topics conn uid time value) (put_changes t.topics conn uid time value)
  topics : new.topics ≡ if_counts (put_cause t.topics conn uid time value) (with_put t.topics conn uid time value)
      t.topics
  next : new.next ≡ t.next

-- to an unpublish
record IsUnpublished (t new : TableState) (o : Outcome) (conn : ℕ) (uid : ℤ) : Type 0 where
  answer : o ≡ outcome_of (unpublish_cause t.topics conn uid) (unpublish_changes t.topics conn uid)
  topics : new.topics ≡ if_counts (unpublish_cause t.topics conn uid) (unpublished t.topics conn uid) t.topics
  next : new.next ≡ t.next

-- and to a change of properties
record AreSet (t new : TableState) (o : Outcome) (name : List ℕ) (update : Update) : Type 0 where
  answer : o ≡ outcome_of (update_cause t.topics name update) (update_changes t.topics name update)
  topics : new.topics ≡ if_counts (update_cause t.topics name update) (with_props t.topics name update) t.topics
  next : new.next ≡ t.next

pub settle-requires : goal.settle-requires
settle-requires c =
    let uid = c.in-Control-Publish.uid in
    let name = c.in-Control-Publish.name in
    let typ = c.in-Control-Publish.typ in
    let props = c.in-Control-Publish.props in
    let t = c.args.self.now.table in
    let new : TableState = c.publish.new.self in
    let o = c.in_ok-outcome-in-Control-Publish.outcome in
    let conn = c.args.conn in
    let is : c.args.msg.now ≡ Control (Publish name uid typ props) = search rules in
    let same : to_z w64 (of_z w64 uid) ≡ uid = search rules in
    let told : IsPublished t new o conn (to_z w64 (of_z w64 uid)) c.in_ok-name-in-Control-Publish.name
    c.in_ok-typ-in-Control-Publish.typ c.in_ok-copy-in-Control-Publish.field-0 =
    record {
      answer = c.in_ok-outcome-in-Control-Publish.ensures.answer;
      topics = c.in_ok-outcome-in-Control-Publish.ensures.topics;
      next = c.in_ok-outcome-in-Control-Publish.ensures.next;
    } in
    let all : IsPublished t new o conn uid name typ props =
    subst (λ u. IsPublished t new o conn u name typ props) same (
    subst (λ n. IsPublished t new o conn (to_z w64 (of_z w64 uid)) n typ props) c.in_ok-name-in-Control-Publish.ensures
    (
    subst (λ k. IsPublished t new o conn (to_z w64 (of_z w64 uid)) c.in_ok-name-in-Control-Publish.name k props)
    c.in_ok-typ-in-Control-Publish.ensures (
    subst (λ p. IsPublished t new o conn (to_z w64 (of_z w64 uid)) c.in_ok-name-in-Control-Publish.name
    c.in_ok-typ-in-Control-Publish.typ p) c.in_ok-copy-in-Control-Publish.ensures told))) in
    rw is (kept-control [] conn (publish_cause t.topics t.next conn uid name props) (Publish name uid typ props) o
    c.args.self.now new c.requires.kept refl all.answer all.topics all.next)

pub settle-requires-in-Put : goal.settle-requires-in-Put
settle-requires-in-Put c =
    let v = c.in-Put.v in
    let t = c.args.self.now.table in
    let new : TableState = c.put.new.self in
    let o = c.in_ok-outcome-in-Put.outcome in
    let conn = c.args.conn in
    let is : c.args.msg.now ≡ Put v = c.in-Put.is in
    let same : to_z w64 (of_z w64 v.id) ≡ v.id = search rules in
    let told : IsTaken t new o conn (to_z w64 (of_z w64 v.id)) v.time c.in_ok-copy-in-Put.field-0 =
    record {
      answer = c.in_ok-outcome-in-Put.ensures.answer;
      topics = c.in_ok-outcome-in-Put.ensures.topics;
      next = c.in_ok-outcome-in-Put.ensures.next;
    } in
    let all : IsTaken t new o conn v.id v.time v.value =
    subst (λ u. IsTaken t new o conn u v.time v.value) same (
    subst (λ w. IsTaken t new o conn (to_z w64 (of_z w64 v.id)) v.time w) c.in_ok-copy-in-Put.ensures told) in
    rw is (kept-put [] conn (put_cause t.topics conn v.id v.time v.value) v o c.args.self.now new c.requires.kept refl
    all.answer all.topics all.next)

pub settle-requires-in-Control-Unpublish : goal.settle-requires-in-Control-Unpublish
settle-requires-in-Control-Unpublish c =
    let uid = c.in-Control-Unpublish.uid in
    let t = c.args.self.now.table in
    let new : TableState = c.unpublish.new.self in
    let o = c.in_ok-outcome-in-Control-Unpublish.outcome in
    let conn = c.args.conn in
    let is : c.args.msg.now ≡ Control (Unpublish uid) = search rules in
    let same : to_z w64 (of_z w64 uid) ≡ uid = search rules in
    let told : IsUnpublished t new o conn (to_z w64 (of_z w64 uid)) =
    record {
      answer = c.in_ok-outcome-in-Control-Unpublish.ensures.answer;
      topics = c.in_ok-outcome-in-Control-Unpublish.ensures.topics;
      next = c.in_ok-outcome-in-Control-Unpublish.ensures.next;
    } in
    let all : IsUnpublished t new o conn uid = subst (λ u. IsUnpublished t new o conn u) same told in
    let cause = unpublish_cause t.topics conn uid in
    rw is (kept-control [] conn cause (Unpublish uid) o c.args.self.now new c.requires.kept refl all.answer all.topics
    (all.next ∙ sym (counts-same cause t.next)))

pub settle-requires-in-Control-SetProps : goal.settle-requires-in-Control-SetProps
settle-requires-in-Control-SetProps c =
    let name = c.in-Control-SetProps.name in
    let update = c.in-Control-SetProps.update in
    let t = c.args.self.now.table in
    let new : TableState = c.set_props.new.self in
    let o = c.in_ok-outcome-in-Control-SetProps.outcome in
    let is : c.args.msg.now ≡ Control (SetProps name update) = search rules in
    let told : AreSet t new o name c.in_ok-copy-in-Control-SetProps.field-0 =
    record {
      answer = c.in_ok-outcome-in-Control-SetProps.ensures.answer;
      topics = c.in_ok-outcome-in-Control-SetProps.ensures.topics;
      next = c.in_ok-outcome-in-Control-SetProps.ensures.next;
    } in
    let all : AreSet t new o name update =
    subst (λ u. AreSet t new o name u) c.in_ok-copy-in-Control-SetProps.ensures told in
    let cause = update_cause t.topics name update in
    rw is (kept-control [] c.args.conn cause (SetProps name update) o c.args.self.now new c.requires.kept refl all.answer
    all.topics (all.next ∙ sym (counts-same cause t.next)))

pub returns-in_ok-outcome-in-Control-Publish-clause-state : goal.returns-in_ok-outcome-in-Control-Publish-clause-state
returns-in_ok-outcome-in-Control-Publish-clause-state c =
    let uid = c.in-Control-Publish.uid in
    let name = c.in-Control-Publish.name in
    let typ = c.in-Control-Publish.typ in
    let props = c.in-Control-Publish.props in
    let t = c.args.self.now.table in
    let new : TableState = c.publish.new.self in
    let o = c.in_ok-outcome-in-Control-Publish.outcome in
    let conn = c.args.conn in
    let is : c.args.msg.now ≡ Control (Publish name uid typ props) = search rules in
    let same : to_z w64 (of_z w64 uid) ≡ uid = search rules in
    let told : IsPublished t new o conn (to_z w64 (of_z w64 uid)) c.in_ok-name-in-Control-Publish.name
    c.in_ok-typ-in-Control-Publish.typ c.in_ok-copy-in-Control-Publish.field-0 =
    record {
      answer = c.in_ok-outcome-in-Control-Publish.ensures.answer;
      topics = c.in_ok-outcome-in-Control-Publish.ensures.topics;
      next = c.in_ok-outcome-in-Control-Publish.ensures.next;
    } in
    let all : IsPublished t new o conn uid name typ props =
    subst (λ u. IsPublished t new o conn u name typ props) same (
    subst (λ n. IsPublished t new o conn (to_z w64 (of_z w64 uid)) n typ props) c.in_ok-name-in-Control-Publish.ensures
    (
    subst (λ k. IsPublished t new o conn (to_z w64 (of_z w64 uid)) c.in_ok-name-in-Control-Publish.name k props)
    c.in_ok-typ-in-Control-Publish.ensures (
    subst (λ p. IsPublished t new o conn (to_z w64 (of_z w64 uid)) c.in_ok-name-in-Control-Publish.name
    c.in_ok-typ-in-Control-Publish.typ p) c.in_ok-copy-in-Control-Publish.ensures told))) in
    said-settled c.settle.result (publish_cause t.topics t.next conn uid name props) (state_of c.args.self.now)
    (state_of c.settle.new.self) new (open_metas c.args.self.now.connections.opens t.topics) c.cached_of-was_cached.result c.args.worker c.args.place conn
    c.args.msg.now o
    c.in-Some.ensures.served (rw is refl) (rw is refl) refl c.cached_of-was_cached.ensures
    (rw is all.answer) (rw is all.topics)
    (rw is all.next) (c.settle.ensures.state c.args.self.now.connections.opens t.topics c.requires.kept.metas)

pub returns-in_ok-outcome-in-Put-clause-state : goal.returns-in_ok-outcome-in-Put-clause-state
returns-in_ok-outcome-in-Put-clause-state c =
    let v = c.in-Put.v in
    let t = c.args.self.now.table in
    let new : TableState = c.put.new.self in
    let o = c.in_ok-outcome-in-Put.outcome in
    let conn = c.args.conn in
    let is : c.args.msg.now ≡ Put v = c.in-Put.is in
    let same : to_z w64 (of_z w64 v.id) ≡ v.id = search rules in
    let told : IsTaken t new o conn (to_z w64 (of_z w64 v.id)) v.time c.in_ok-copy-in-Put.field-0 =
    record {
      answer = c.in_ok-outcome-in-Put.ensures.answer;
      topics = c.in_ok-outcome-in-Put.ensures.topics;
      next = c.in_ok-outcome-in-Put.ensures.next;
    } in
    let all : IsTaken t new o conn v.id v.time v.value =
    subst (λ u. IsTaken t new o conn u v.time v.value) same (
    subst (λ w. IsTaken t new o conn (to_z w64 (of_z w64 v.id)) v.time w) c.in_ok-copy-in-Put.ensures told) in
    let cause = put_cause t.topics conn v.id v.time v.value in
    said-settled c.settle-in-Put.result cause (state_of c.args.self.now) (state_of c.settle-in-Put.new.self) new
    (open_metas c.args.self.now.connections.opens t.topics) c.cached_of-was_cached.result c.args.worker c.args.place conn c.args.msg.now o
    c.in-Some.ensures.served
    (rw is refl) (rw is refl) refl c.cached_of-was_cached.ensures (rw is all.answer)
    (rw is all.topics)
    (rw is (all.next ∙ sym (counts-same cause t.next))) (c.settle-in-Put.ensures.state c.args.self.now.connections.opens t.topics c.requires.kept.metas)

pub returns-in_ok-outcome-in-Control-Unpublish-clause-state :
    goal.returns-in_ok-outcome-in-Control-Unpublish-clause-state
returns-in_ok-outcome-in-Control-Unpublish-clause-state c =
    let uid = c.in-Control-Unpublish.uid in
    let t = c.args.self.now.table in
    let new : TableState = c.unpublish.new.self in
    let o = c.in_ok-outcome-in-Control-Unpublish.outcome in
    let conn = c.args.conn in
    let is : c.args.msg.now ≡ Control (Unpublish uid) = search rules in
    let same : to_z w64 (of_z w64 uid) ≡ uid = search rules in
    let told : IsUnpublished t new o conn (to_z w64 (of_z w64 uid)) =
    record {
      answer = c.in_ok-outcome-in-Control-Unpublish.ensures.answer;
      topics = c.in_ok-outcome-in-Control-Unpublish.ensures.topics;
      next = c.in_ok-outcome-in-Control-Unpublish.ensures.next;
    } in
    let all : IsUnpublished t new o conn uid = subst (λ u. IsUnpublished t new o conn u) same told in
    let cause = unpublish_cause t.topics conn uid in
    said-settled c.settle-in-Control-Unpublish.result cause (state_of c.args.self.now)
    (state_of c.settle-in-Control-Unpublish.new.self) new (open_metas c.args.self.now.connections.opens t.topics) c.cached_of-was_cached.result
    c.args.worker c.args.place conn c.args.msg.now o c.in-Some.ensures.served (rw is refl) (rw is refl)
    refl c.cached_of-was_cached.ensures (rw is all.answer) (rw is all.topics)
    (rw is (all.next ∙ sym (counts-same cause t.next))) (c.settle-in-Control-Unpublish.ensures.state c.args.self.now.connections.opens t.topics c.requires.kept.metas)

pub returns-in_ok-outcome-in-Control-SetProps-clause-state :
    goal.returns-in_ok-outcome-in-Control-SetProps-clause-state
returns-in_ok-outcome-in-Control-SetProps-clause-state c =
    let name = c.in-Control-SetProps.name in
    let update = c.in-Control-SetProps.update in
    let t = c.args.self.now.table in
    let new : TableState = c.set_props.new.self in
    let o = c.in_ok-outcome-in-Control-SetProps.outcome in
    let is : c.args.msg.now ≡ Control (SetProps name update) = search rules in
    let told : AreSet t new o name c.in_ok-copy-in-Control-SetProps.field-0 =
    record {
      answer = c.in_ok-outcome-in-Control-SetProps.ensures.answer;
      topics = c.in_ok-outcome-in-Control-SetProps.ensures.topics;
      next = c.in_ok-outcome-in-Control-SetProps.ensures.next;
    } in
    let all : AreSet t new o name update =
    subst (λ u. AreSet t new o name u) c.in_ok-copy-in-Control-SetProps.ensures told in
    let cause = update_cause t.topics name update in
    said-settled c.settle-in-Control-SetProps.result cause (state_of c.args.self.now)
    (state_of c.settle-in-Control-SetProps.new.self) new (open_metas c.args.self.now.connections.opens t.topics) c.cached_of-was_cached.result
    c.args.worker c.args.place c.args.conn c.args.msg.now o c.in-Some.ensures.served (rw is refl) (rw is refl)
    refl c.cached_of-was_cached.ensures (rw is all.answer) (rw is all.topics)
    (rw is (all.next ∙ sym (counts-same cause t.next))) (c.settle-in-Control-SetProps.ensures.state c.args.self.now.connections.opens t.topics c.requires.kept.metas)
