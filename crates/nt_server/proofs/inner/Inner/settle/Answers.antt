use Rattle.std.proofs.Common.{◌≡◌, ℕ, List, Option, map, sym, ◌∙◌, subst, rules}
use Rattle.nt_rules.specs.declared.meta.MetaNow.{MetaNow}
use Rattle.nt_rules.specs.declared.topic.Topic.{Topic}
use Rattle.nt_rules.specs.declared.topic.Change.{Change}
use Rattle.nt_rules.specs.declared.topic.Outcome.{Outcome}
use Rattle.nt_rules.specs.declared.topic.Outcome.TheVariants.{Done}
use Rattle.nt_rules.specs.declared.act.Msg.{Msg}
use Rattle.nt_rules.specs.declared.act.Msg.TheVariants.{Control, Put}
use Rattle.nt_rules.specs.history.State.{Open, open_metas, message_noted, turn_noted}
use Rattle.nt_server.specs.Connections.{Connections}
use Rattle.nt_server.specs.MetaWishes.{WereKept, AreKept}
use Rattle.nt_server.specs.View.{state_of, IsKeptAfter}
use Rattle.nt_server.proofs.Counts.{settled-done}
use Rattle.nt_server.proofs.MetaWishes.{were-told, before-told, none-told, low-since, kept-said}
use Rattle.nt_server.proofs.inner.Inner.settle.Goals as goal

-- what the connections are after they were told of a message
abbrev told_of : ℕ → List Topic → ℕ → Msg → List Change → Option ℕ → List Open → List Open
told_of place ts conn m changes turned opens =
    map (λ o. message_noted place ts conn m changes (turn_noted place turned o)) opens

pub returns-in-Put-clause-kept : goal.returns-in-Put-clause-kept
returns-in-Put-clause-kept c =
    let i = c.args.self.now in
    let ts = i.table.topics in
    let changes : List Change = c.as_slice-changes.result.now in
    let done : c.args.outcome ≡ Done changes = search rules in
    let k : IsKeptAfter (Put c.in-Put.field-0) (Done changes) i =
    subst (λ (o : Outcome). IsKeptAfter (Put c.in-Put.field-0) o i) done
    (subst (λ (m : Msg). IsKeptAfter m c.args.outcome i) c.in-Put.is c.requires) in
    record {
      ids = k.ids;
      metas =
          subst (λ (k : Connections). AreKept i.metas k.opens ts) (sym c.in_ok-tell_message.ensures)
          (kept-said i.metas i.connections.opens c.args.place ts c.args.conn c.args.msg.now changes
          c.turned-turned.result k.ids.topics k.changes
          (λ id e. low-since c.args.was_cached ts c.args.msg.now id k.ids.topics (sym c.turned-turned.ensures ∙ e))
          k.metas);
    }

pub returns-clause-state : goal.returns-clause-state
returns-clause-state c =
    let i = c.args.self.now in
    let ts = i.table.topics in
    let changes : List Change = c.as_slice-changes.result.now in
    let done : c.args.outcome ≡ Done changes = search rules in
    let k : IsKeptAfter c.args.msg.now (Done changes) i =
    subst (λ (o : Outcome). IsKeptAfter c.args.msg.now o i) done c.requires in
    λ os us kept.
    settled-done (open_metas os us) c.args.was_cached c.args.place c.args.conn c.args.msg.now c.in_default-msg.field-0
    c.args.outcome
    changes (state_of i) c.turned-turned.result c.tell_message.new.self c.refresh.new.self c.take_changes.new.self
    c.in_default-msg.is done c.turned-turned.ensures c.in_ok-tell_message.ensures
    (c.in_ok-refresh.ensures.connections os us
    (subst (λ (k : Connections). WereKept i.metas (open_metas os us) k.opens) (sym c.in_ok-tell_message.ensures)
    (were-told i.metas (open_metas os us) i.connections.opens
    (told_of c.args.place ts c.args.conn c.args.msg.now changes c.turned-turned.result i.connections.opens)
    (none-told c.args.place ts c.args.conn c.args.msg.now changes c.turned-turned.result k.ids.topics k.changes
    (λ id e. low-since c.args.was_cached ts c.args.msg.now id k.ids.topics (sym c.turned-turned.ensures ∙ e))
    i.connections.opens) kept)))
    c.in_ok-take_changes.ensures

pub returns-clause-kept : goal.returns-clause-kept
returns-clause-kept c =
    let i = c.args.self.now in
    let ts = i.table.topics in
    let changes : List Change = c.as_slice-changes.result.now in
    let done : c.args.outcome ≡ Done changes = search rules in
    let k : IsKeptAfter (Control c.in_default-msg.field-0) (Done changes) i =
    subst (λ (o : Outcome). IsKeptAfter (Control c.in_default-msg.field-0) o i) done
    (subst (λ (m : Msg). IsKeptAfter m c.args.outcome i) c.in_default-msg.is c.requires) in
    let before : (before : List MetaNow) × WereKept i.metas before
    (told_of c.args.place ts c.args.conn c.args.msg.now changes c.turned-turned.result i.connections.opens) =
    before-told i.metas i.connections.opens
    (told_of c.args.place ts c.args.conn c.args.msg.now changes c.turned-turned.result i.connections.opens)
    (none-told c.args.place ts c.args.conn c.args.msg.now changes c.turned-turned.result k.ids.topics k.changes
    (λ id e. low-since c.args.was_cached ts c.args.msg.now id k.ids.topics (sym c.turned-turned.ensures ∙ e))
    i.connections.opens) k.metas in
    record {
      ids = k.ids;
      metas =
          c.in_ok-refresh.ensures.metas before.0
          (subst (λ (k : Connections). WereKept i.metas before.0 k.opens) (sym c.in_ok-tell_message.ensures) before.1);
    }
