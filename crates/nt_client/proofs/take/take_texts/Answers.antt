use Rattle.std.proofs.Common.{[], List, subst}
use Rattle.nt_client.specs.declared.undo.Undo.{Undo}
use Rattle.nt_client.specs.Kept.{GoesOn}
use Rattle.nt_client.proofs.Takes.{rising-back}
use Rattle.nt_client.proofs.take.take_texts.Goals as goal

pub refuse-requires-clause-rising : goal.refuse-requires-clause-rising
refuse-requires-clause-rising c =
    let on : GoesOn c.args.topics.now [] c.texts.new.topics c.texts.new.log.items =
    subst (λ (l : List Undo). GoesOn c.args.topics.now l c.texts.new.topics c.texts.new.log.items)
    c.new-log.ensures.items
    c.texts.ensures.goes_on in
    rising-back c.args.topics.now c.texts.new.topics c.texts.new.log.items c.requires on
