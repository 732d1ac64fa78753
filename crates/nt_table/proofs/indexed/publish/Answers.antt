use Rattle.std.proofs.Common.{◌≡◌, sym, subst}
use Rattle.std.specs.List.{position}
use Rattle.nt_table.specs.Index.{id_named, is_at}
use Rattle.nt_rules.specs.topics.Topics.{is_named}
use Rattle.nt_table.proofs.Steps.{position-named}
use Rattle.nt_table.proofs.indexed.publish.Goals as goal

pub position_of_name-at-requires-clause-indexed : goal.position_of_name-at-requires-clause-indexed
position_of_name-at-requires-clause-indexed c =
    subst
    (λ ts. position (is_at (id_named c.args.index.now c.as_str.result.now)) ts
    ≡ position (is_named c.as_str.result.now) ts)
    (sym c.deref.ensures.value)
    (position-named c.args.index.now c.args.topics.now.items c.args.next.now c.requires c.as_str.result.now)
