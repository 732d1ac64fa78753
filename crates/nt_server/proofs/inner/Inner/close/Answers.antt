use Rattle.std.proofs.Common.{◌≡◌, ◌∙◌, cond, List, map, filter, not, sym, ap, subst}
use Rattle.nt_rules.specs.declared.topic.Change.{Change}
use Rattle.nt_rules.specs.declared.topic.Topic.{Topic}
use Rattle.nt_rules.specs.topics.Topics.{dropped}
use Rattle.nt_rules.specs.topics.Changes.{drop_changes}
use Rattle.nt_rules.specs.history.State.{Open, is_number, changes_noted, open_metas, taken_after}
use Rattle.nt_laws.proofs.outboxes.LowIds.{low-drop}
use Rattle.nt_laws.proofs.topics.LowTopics.{low-dropped}
use Rattle.nt_server.specs.Connections.{Connections}
use Rattle.nt_server.specs.MetaWishes.{WereKept}
use Rattle.nt_server.specs.View.{state_of}
use Rattle.nt_server.proofs.Closing.{others_told, closed-state}
use Rattle.nt_server.proofs.MetaWishes.{were-told, none-ended, none-without}
use Rattle.nt_server.proofs.inner.Inner.close.Goals as goal

pub returns-clause-state : goal.returns-clause-state
returns-clause-state c =
    let i = c.args.self.now in
    let ts = i.table.topics in
    let place = c.args.place in
    let conn = c.args.conn in
    let opens : List Open = i.connections.opens in
    let topics_are : c.drop_conn.new.self.topics ≡ dropped ts conn = c.in_ok-changes.ensures.topics in
    let changes_are : c.as_slice-told.result.now ≡ drop_changes ts conn =
    c.as_slice-told.ensures ∙ c.in_ok-changes.ensures.changes in
    let left : c.close.new.self ≡ record i.connections { opens = filter (λ o. not (is_number conn o)) opens } =
    c.if-not-close.ensures.rest
    ∙ sym (ap (λ b. cond b (record i.connections { opens = filter (λ o. not (is_number conn o)) opens }) i.connections)
    c.if-not-close.ensures.served) in
    let told_is : c.tell.new.self ≡ record i.connections { opens = others_told place conn ts opens } =
    c.in_ok-tell.ensures
    ∙ ap (λ (us : List Topic). record c.close.new.self {
      opens = map (changes_noted place us c.as_slice-told.result.now) c.close.new.self.opens;
    }) topics_are
    ∙ ap (λ (ks : List Change). record c.close.new.self {
      opens = map (changes_noted place (dropped ts conn) ks) c.close.new.self.opens;
    }) changes_are
    ∙ ap (λ (k : Connections). record k {
      opens = map (changes_noted place (dropped ts conn) (drop_changes ts conn)) k.opens;
    }) left in
    let kept : WereKept i.metas (open_metas opens ts) c.tell.new.self.opens =
    subst (λ (k : Connections). WereKept i.metas (open_metas opens ts) k.opens) (sym told_is)
    (were-told i.metas (open_metas opens ts) opens (others_told place conn ts opens)
    (λ h. none-ended place (dropped ts conn) (drop_changes ts conn) (low-drop ts conn c.requires.ids.topics)
    (filter (λ o. not (is_number conn o)) opens) (none-without (λ o. not (is_number conn o)) opens h))
    c.requires.metas) in
    closed-state (state_of i) place c.args.worker conn c.drop_conn.new.self c.tell.new.self c.refresh.new.self
    c.take_changes.new.self c.if-not-close.ensures.served told_is
    (c.in_ok-refresh.ensures.connections opens ts kept) topics_are c.in_ok-changes.ensures.next
    (c.in_ok-take_changes.ensures
    ∙ ap (λ (us : List Topic). taken_after place us c.as_slice-told.result.now i.taken) topics_are
    ∙ ap (λ (ks : List Change). taken_after place (dropped ts conn) ks i.taken) changes_are)

pub returns-clause-kept : goal.returns-clause-kept
returns-clause-kept c =
    let i = c.args.self.now in
    let ts = i.table.topics in
    let place = c.args.place in
    let conn = c.args.conn in
    let opens : List Open = i.connections.opens in
    let topics_are : c.drop_conn.new.self.topics ≡ dropped ts conn = c.in_ok-changes.ensures.topics in
    let changes_are : c.as_slice-told.result.now ≡ drop_changes ts conn =
    c.as_slice-told.ensures ∙ c.in_ok-changes.ensures.changes in
    let left : c.close.new.self ≡ record i.connections { opens = filter (λ o. not (is_number conn o)) opens } =
    c.if-not-close.ensures.rest
    ∙ sym (ap (λ b. cond b (record i.connections { opens = filter (λ o. not (is_number conn o)) opens }) i.connections)
    c.if-not-close.ensures.served) in
    let told_is : c.tell.new.self ≡ record i.connections { opens = others_told place conn ts opens } =
    c.in_ok-tell.ensures
    ∙ ap (λ (us : List Topic). record c.close.new.self {
      opens = map (changes_noted place us c.as_slice-told.result.now) c.close.new.self.opens;
    }) topics_are
    ∙ ap (λ (ks : List Change). record c.close.new.self {
      opens = map (changes_noted place (dropped ts conn) ks) c.close.new.self.opens;
    }) changes_are
    ∙ ap (λ (k : Connections). record k {
      opens = map (changes_noted place (dropped ts conn) (drop_changes ts conn)) k.opens;
    }) left in
    let kept : WereKept i.metas (open_metas opens ts) c.tell.new.self.opens =
    subst (λ (k : Connections). WereKept i.metas (open_metas opens ts) k.opens) (sym told_is)
    (were-told i.metas (open_metas opens ts) opens (others_told place conn ts opens)
    (λ h. none-ended place (dropped ts conn) (drop_changes ts conn) (low-drop ts conn c.requires.ids.topics)
    (filter (λ o. not (is_number conn o)) opens) (none-without (λ o. not (is_number conn o)) opens h))
    c.requires.metas) in
    record {
      ids =
          rw (topics_are, c.in_ok-changes.ensures.next)
          (low-dropped ts i.table.next conn c.requires.ids);
      metas = c.in_ok-refresh.ensures.metas (open_metas opens ts) kept;
    }
