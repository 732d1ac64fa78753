use Rattle.std.proofs.Common.{◌≡◌, false, true, List, ◌∷◌, map, refl, sym, ◌∙◌, subst, rules}
use Rattle.std.specs.Vec.Iter.{into_iter_items}
use Rattle.nt_control.specs.declared.message.ServerMsg.{ServerMsg}
use Rattle.nt_rules.specs.telling.Told.{Text}
use Rattle.nt_client.proofs.Takes.{TakesOn, goes-twice, takes-step}
use Rattle.nt_client.proofs.take.texts.Goals as goal

pub returns-in_err-text-clause-goes_on : goal.returns-in_err-text-clause-goes_on
returns-in_err-text-clause-goes_on c =
    goes-twice c.args.topics.now c.loop-msg.topics _ c.args.log.now.items c.loop-msg.log.items _
    c.loop-msg.invariant.goes_on c.text.ensures.goes_on

pub loop-msg-preserved-then-not-branch : goal.loop-msg-preserved-then-not-branch
loop-msg-preserved-then-not-branch c =
    let at = c.loop-msg in
    let steps : into_iter_items at.msg-iterator ≡ c.in-Some.msg ∷ into_iter_items c.next.new.self =
    c.in-Some.ensures.steps.0 in
    let takes = subst (λ (ms : List ServerMsg). TakesOn c.args.topics.now c.args.log.now.items c.args.changes.now
    c.args.ignored (map Text c.args.msgs.items) at.topics at.log.items at.changes at.ignored (map Text ms)) steps
    at.invariant in
    takes-step _ _ _ _ _ at.topics at.log.items at.changes at.ignored (Text c.in-Some.msg)
    (map Text (into_iter_items c.next.new.self)) _ _ _ _ false takes c.text.ensures.goes_on c.in_ok-text.ensures.held
    c.in_ok-text.ensures.changes (sym c.if-not-branch.true ∙ c.in_ok-text.ensures.known)
    c.saturating_add-ignored.ensures

pub loop-msg-preserved : goal.loop-msg-preserved
loop-msg-preserved c =
    let at = c.loop-msg in
    let steps : into_iter_items at.msg-iterator ≡ c.in-Some.msg ∷ into_iter_items c.next.new.self =
    c.in-Some.ensures.steps.0 in
    let takes = subst (λ (ms : List ServerMsg). TakesOn c.args.topics.now c.args.log.now.items c.args.changes.now
    c.args.ignored (map Text c.args.msgs.items) at.topics at.log.items at.changes at.ignored (map Text ms)) steps
    at.invariant in
    let known : c.in_ok-text.field-0 ≡ true = search rules in
    takes-step _ _ _ _ _ at.topics at.log.items at.changes at.ignored (Text c.in-Some.msg)
    (map Text (into_iter_items c.next.new.self)) _ _ _ _ true takes c.text.ensures.goes_on c.in_ok-text.ensures.held
    c.in_ok-text.ensures.changes (sym known ∙ c.in_ok-text.ensures.known) refl
