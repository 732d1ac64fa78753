use Rattle.nt_client.specs.Kept.{IsKept}
use Rattle.nt_client.proofs.Keeping.{kept-outline}
use Rattle.nt_client.proofs.take.take_values.Goals as goal

pub returns-clause-stored : goal.returns-clause-stored
returns-clause-stored c =
    let kept : IsKept c.args.topics.now.names c.keep_all.new.held.items =
    kept-outline c.args.topics.now.names c.args.topics.now.held.items c.keep_all.new.held.items
    c.keep_all.ensures.outlines c.requires in
    record { rising = kept.rising; noted = λ is. kept.noted; in_order = kept.in_order }
