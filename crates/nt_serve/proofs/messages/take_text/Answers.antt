use Rattle.std.proofs.Common.{◌≡◌, ℕ, ◌+◌, ◌-◌, ◌^◌, min, map, refl, ◌∙◌, arith, rules}
use Rattle.std.specs.Vec.Iter.{into_iter_items}
use Rattle.nt_link.specs.declared.frame.Frame.TheVariants.{Text}
use Rattle.nt_control.specs.Frame.{said_in, ignored_in}
use Rattle.nt_rules.specs.declared.act.Msg.TheVariants.{Control}
use Rattle.nt_serve.proofs.Taking.{cut-unread, cut-loop, partly-begun, partly-next, text-says}
use Rattle.nt_serve.proofs.messages.take_text.Goals as goal

pub returns-in_err-read-clause-cut : goal.returns-in_err-read-clause-cut
returns-in_err-read-clause-cut g c =
    let text = c.args.text.now in
    cut-unread c.from_residual.result _ c.args.conn (Text text) _ _ (text-says text (said_in text) refl)
    c.from_residual.ensures.1

pub loop-msg-init : goal.loop-msg-init
loop-msg-init g c =
    let text = c.args.text.now in
    let items : into_iter_items c.into_iter-msg-iterator.result ≡ said_in text = search rules in
    let count : c.saturating_add.result ≡ min (c.args.ignored.now + ignored_in text) (2 ^ 64 - 1) = search rules in
    record {
      lock = refl;
      partly = partly-begun _ _ _ _ _ _ _ c.args.conn (Text text) _ (text-says text _ items) count;
      later = omega arith;
    }

pub loop-msg-preserved : goal.loop-msg-preserved
loop-msg-preserved g c =
    record {
      lock = c.in_ok-take_message.ensures.own ∙ c.loop-msg.invariant.lock;
      partly = partly-next _ _ _ c.args.conn (Text c.args.text.now) (λ m. Control m)
          (into_iter_items c.loop-msg.msg-iterator) (into_iter_items c.next.new.self) c.in-Some.msg
          c.in-Some.ensures.steps.0 c.loop-msg.invariant.partly c.in_ok-take_message.ensures.taken;
      later = omega (arith, c.loop-msg.invariant.later, c.in_ok-take_message.ensures.later);
    }

pub returns-in_err-take_message-clause-cut : goal.returns-in_err-take_message-clause-cut
returns-in_err-take_message-clause-cut g c =
    cut-loop c.from_residual-in_err-take_message.result c.in_err-take_message.field-0.0 _ _ _ c.args.conn
    (Text c.args.text.now) _ c.from_residual-in_err-take_message.ensures.1 c.loop-msg.invariant.partly
    c.in_err-take_message.ensures.cut
