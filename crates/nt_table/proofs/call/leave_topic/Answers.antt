use Rattle.std.proofs.Common.{◌≡◌, ◌++◌, false, Some, [], ◌∷◌, sym, ◌∙◌, ap, rules}
use Rattle.std.specs.List.{list_any}
use Rattle.nt_rules.specs.topics.Changes.{if_found, drop_changes}
use Rattle.nt_table.specs.Index.{is_at, left_by}
use Rattle.nt_rules.proofs.Positions.{IsFirst, first-position, position-None, find-first, find-none, change-first, change-none}
use Rattle.nt_table.proofs.call.leave_topic.Goals as goal

pub returns-in_ok-tell_end-in-Some-clause-changes : goal.returns-in_ok-tell_end-in-Some-clause-changes
returns-in_ok-tell_end-in-Some-clause-changes c =
    let at = is_at (Some c.args.id) in
    let first : IsFirst (is_at (Some c.args.id)) c.args.topics.now.items c.in-Some.i c.index.result.now =
    first-position at c.deref.result.now c.args.topics.now.items c.in-Some.i c.index.result.now
    c.deref.ensures.value (sym c.in-Some.is ∙ c.position_at.ensures) c.index.ensures in
    c.in_ok-tell_end-in-Some.ensures
    ∙ sym (ap (λ o. c.args.changes.now ++ if_found (λ t. drop_changes (t ∷ []) c.args.conn) o)
    (find-first at c.args.topics.now.items c.in-Some.i c.index.result.now first))

pub returns-in_ok-tell_end-in-Some-clause-topics : goal.returns-in_ok-tell_end-in-Some-clause-topics
returns-in_ok-tell_end-in-Some-clause-topics c =
    let at = is_at (Some c.args.id) in
    let first : IsFirst (is_at (Some c.args.id)) c.args.topics.now.items c.in-Some.i c.index.result.now =
    first-position at c.deref.result.now c.args.topics.now.items c.in-Some.i c.index.result.now
    c.deref.ensures.value (sym c.in-Some.is ∙ c.position_at.ensures) c.index.ensures in
    c.leave.ensures
    ∙ change-first at (left_by c.args.conn) c.args.topics.now.items c.in-Some.i c.index.result.now first

pub returns-in-None-clause-changes : goal.returns-in-None-clause-changes
returns-in-None-clause-changes c =
    let none : list_any (is_at (Some c.args.id)) c.args.topics.now.items ≡ false =
    position-None (is_at (Some c.args.id)) c.deref.result.now c.args.topics.now.items c.deref.ensures.value
    (sym c.in-None.is ∙ c.position_at.ensures) in
    let nil : c.args.changes.now ≡ c.args.changes.now ++ [] = search rules in
    nil
    ∙ sym (ap (λ o. c.args.changes.now ++ if_found (λ t. drop_changes (t ∷ []) c.args.conn) o)
    (find-none (is_at (Some c.args.id)) c.args.topics.now.items none))

pub returns-in-None-clause-topics : goal.returns-in-None-clause-topics
returns-in-None-clause-topics c =
    let none : list_any (is_at (Some c.args.id)) c.args.topics.now.items ≡ false =
    position-None (is_at (Some c.args.id)) c.deref.result.now c.args.topics.now.items c.deref.ensures.value
    (sym c.in-None.is ∙ c.position_at.ensures) in
    sym (change-none (is_at (Some c.args.id)) (left_by c.args.conn) c.args.topics.now.items none)
