use Rattle.std.proofs.Common.{List, sym, ◌∙◌, ap, subst, ◌++◌, [], ◌∷◌}
use Rattle.nt_link.specs.declared.frame.Frame.{Frame}
use Rattle.nt_rules.specs.declared.act.Entry.{Entry}
use Rattle.nt_cli.specs.Desk.{answers_to}
use Rattle.nt_cli.specs.DeskRun.{IsConnected}
use Rattle.nt_cli.proofs.DeskSteps.{with_messages-none, with_messages-push, answers-push}
use Rattle.nt_cli.proofs.turn.say_all.Goals as goal

pub loop-msg-init : goal.loop-msg-init
loop-msg-init c = record {
  connected = λ past connected. subst (λ (p : List Entry). IsConnected c.args.server.now p)
      (sym (with_messages-none past c.args.moment)) connected;
  answers = c.new-answers.ensures.items;
}

pub loop-msg-preserved : goal.loop-msg-preserved
loop-msg-preserved c = record {
  connected = λ past connected.
      subst (λ (p : List Entry). IsConnected c.say.new.server p)
      (sym (with_messages-push past c.args.moment c.loop-msg.yielded c.in-Some.msg))
      (c.in_ok-say.ensures.connected _ (c.loop-msg.invariant.connected past connected));
  answers =
      c.in_ok-say.ensures.answers ∙ ap (λ (fs : List Frame). fs ++ answers_to c.args.moment (c.in-Some.msg ∷ []))
      c.loop-msg.invariant.answers ∙ sym (answers-push c.args.moment c.loop-msg.yielded c.in-Some.msg);
}
