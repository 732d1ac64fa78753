use Rattle.std.proofs.Common.{◌≡◌, ℕ, ◌+◌, ◌-◌, ◌^◌, min, map, refl, ◌∙◌, arith, rules}
use Rattle.std.specs.Vec.Iter.{into_iter_items}
use Rattle.nt_link.specs.declared.frame.Frame.TheVariants.{Binary}
use Rattle.nt_rules.specs.Limits.{most_value}
use Rattle.nt_rules.specs.declared.act.Msg.TheVariants.{Put}
use Rattle.nt_serve.proofs.Taking.{cut-unread, cut-loop, partly-begun, partly-next, binary-says, binary-puts, first-put, rest-put}
use Rattle.nt_serve.proofs.messages.take_binary.Goals as goal

pub returns-in_err-read-clause-cut : goal.returns-in_err-read-clause-cut
returns-in_err-read-clause-cut g c =
    let bytes = c.args.bytes.now in
    let h = c.frames_have_a_meaning.ensures most_value bytes in
    cut-unread c.from_residual.result _ c.args.conn (Binary bytes) _ _ (binary-says bytes h.0 h.0 h.1 h.2 refl)
    c.from_residual.ensures.1

pub loop-msg-init : goal.loop-msg-init
loop-msg-init g c =
    let bytes = c.args.bytes.now in
    let read = c.in_ok-read.read in
    let means = c.in_ok-read.ensures.means in
    let items : into_iter_items c.into_iter-msg-iterator.result ≡ c.in_ok-read.read.messages.items = search rules in
    record {
      lock = refl;
      puts = binary-puts bytes _ read.messages.items read.fault means items;
      partly = partly-begun _ _ _ _ _ _ _ c.args.conn (Binary bytes) _
          (binary-says bytes _ read.messages.items read.fault means items) c.with_fault.ensures;
      later = omega arith;
    }

pub take_message-requires-clause-put : goal.take_message-requires-clause-put
take_message-requires-clause-put g c =
    first-put (into_iter_items c.loop-msg.msg-iterator) (into_iter_items c.next.new.self) c.in-Some.msg
    c.in-Some.ensures.steps.0 c.loop-msg.invariant.puts

pub loop-msg-preserved : goal.loop-msg-preserved
loop-msg-preserved g c =
    record {
      lock = c.in_ok-take_message.ensures.own ∙ c.loop-msg.invariant.lock;
      puts = rest-put (into_iter_items c.loop-msg.msg-iterator) (into_iter_items c.next.new.self) c.in-Some.msg
          c.in-Some.ensures.steps.0 c.loop-msg.invariant.puts;
      partly = partly-next _ _ _ c.args.conn (Binary c.args.bytes.now) (λ m. Put m)
          (into_iter_items c.loop-msg.msg-iterator) (into_iter_items c.next.new.self) c.in-Some.msg
          c.in-Some.ensures.steps.0 c.loop-msg.invariant.partly c.in_ok-take_message.ensures.taken;
      later = omega (arith, c.loop-msg.invariant.later, c.in_ok-take_message.ensures.later);
    }

pub returns-in_err-take_message-clause-cut : goal.returns-in_err-take_message-clause-cut
returns-in_err-take_message-clause-cut g c =
    cut-loop c.from_residual-in_err-take_message.result c.in_err-take_message.field-0.0 _ _ _ c.args.conn
    (Binary c.args.bytes.now) _ c.from_residual-in_err-take_message.ensures.1 c.loop-msg.invariant.partly
    c.in_err-take_message.ensures.cut
