use Rattle.std.proofs.Common.{drop}
use Rattle.nt_client.proofs.ValueSteps.{TellsOn}
use Rattle.nt_client.proofs.values.tell_all.Given as goal

abbrev pub invariant-loop-msg : goal.invariant-loop-msg
invariant-loop-msg l =
    TellsOn l.held l.fn.changes l.fn.ignored l.fn.clock.items l.msgs l.changes l.ignored l.clock.items
    (drop l.msg-index l.msgs)
