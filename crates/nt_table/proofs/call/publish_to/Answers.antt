use Rattle.std.proofs.Common.{refl, sym, ◌≡◌, ◌≤◌, Some, None, ◌∙◌, rules}
use Rattle.std.specs.List.{position}
use Rattle.nt_rules.specs.Limits.{last_id}
use Rattle.nt_rules.specs.topics.Topics.{is_named}
use Rattle.nt_rules.proofs.Positions.{first-position, position-None, any-first}
use Rattle.nt_rules.proofs.Calls.{next-within, joined-changes, joined-topics, joined-next, begun-changes, begun-topics, begun-next}
use Rattle.nt_table.proofs.call.publish_to.Goals as goal

pub overflow_add-next : goal.overflow_add-next
overflow_add-next c =
    let at : None ≡ position (is_named c.args.name) c.args.topics.now.items = sym c.in-None.is ∙ c.requires.found in
    let none = position-None (is_named c.args.name) c.args.topics.now.items c.args.topics.now.items refl at in
    let within : c.args.next.now ≤ last_id =
    next-within c.args.topics.now.items c.args.next.now c.args.publisher.conn c.args.publisher.uid c.args.name
    c.args.props
    c.requires.counts none in
    search rules

pub returns-in_ok-add_publisher-in-Some : goal.returns-in_ok-add_publisher-in-Some
returns-in_ok-add_publisher-in-Some c =
    let at : Some c.in-Some.i ≡ position (is_named c.args.name) c.args.topics.now.items =
    sym c.in-Some.is ∙ c.requires.found in
    let first =
    first-position (is_named c.args.name) c.args.topics.now.items c.args.topics.now.items c.in-Some.i
    c.index_mut.result.now
    refl at c.index_mut.ensures.value in
    let any = any-first (is_named c.args.name) c.args.topics.now.items c.in-Some.i c.index_mut.result.now first in
    record {
      changes =
          c.empty.ensures
          ∙ joined-changes c.args.topics.now.items c.args.next.now c.args.name c.args.publisher.typ c.args.props
          c.args.publisher any;
      topics =
          joined-topics c.args.topics.now.items c.args.next.now c.args.name c.args.publisher.typ c.args.props
          c.args.publisher
          c.in-Some.i c.index_mut.result.now c.add_publisher.new.topic first c.in_ok-add_publisher-in-Some.ensures;
      next =
          joined-next c.args.topics.now.items c.args.next.now c.args.name c.args.publisher.typ c.args.props
          c.args.publisher any;
    }

pub returns-in_ok-changes-in-None : goal.returns-in_ok-changes-in-None
returns-in_ok-changes-in-None c =
    let at : None ≡ position (is_named c.args.name) c.args.topics.now.items = sym c.in-None.is ∙ c.requires.found in
    let none = position-None (is_named c.args.name) c.args.topics.now.items c.args.topics.now.items refl at in
    record {
      changes =
          c.in_ok-changes-in-None.ensures.changes
          ∙ begun-changes c.args.topics.now.items c.args.next.now c.args.name c.args.publisher.typ c.args.props
          c.args.publisher none;
      topics =
          c.in_ok-changes-in-None.ensures.topics
          ∙ begun-topics c.args.topics.now.items c.args.next.now c.args.name c.args.publisher.typ c.args.props
          c.args.publisher none;
      next =
          begun-next c.args.topics.now.items c.args.next.now c.args.name c.args.publisher.typ c.args.props
          c.args.publisher none;
    }
