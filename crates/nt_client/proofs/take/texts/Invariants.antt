use Rattle.std.proofs.Common.{map}
use Rattle.std.specs.Vec.Iter.{into_iter_items}
use Rattle.nt_rules.specs.telling.Told.{Text}
use Rattle.nt_client.proofs.Takes.{TakesOn}
use Rattle.nt_client.proofs.take.texts.Given as goal

abbrev pub invariant-loop-msg : goal.invariant-loop-msg
invariant-loop-msg l =
    TakesOn l.fn.topics l.fn.log.items l.fn.changes l.fn.ignored (map Text l.fn.msgs.items) l.topics l.log.items
    l.changes
    l.ignored (map Text (into_iter_items l.msg-iterator))
