use Rattle.std.proofs.Common.{◌≡◌, List}
use Rattle.nt_rules.specs.declared.act.Entry.{Entry}
use Rattle.nt_cli.specs.Desk.{with_messages, answers_to}
use Rattle.nt_cli.specs.DeskRun.{IsConnected}
use Rattle.nt_cli.proofs.turn.say_all.Given as goal

abbrev pub invariant-loop-msg : goal.invariant-loop-msg
invariant-loop-msg l = record {
  connected : (past : List Entry) → IsConnected l.fn.server past
      → IsConnected l.server (with_messages past l.moment l.yielded);
  answers : l.answers.items ≡ answers_to l.moment l.yielded;
}
