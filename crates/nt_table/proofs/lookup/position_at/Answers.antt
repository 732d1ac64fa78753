use Rattle.std.proofs.Common.{sym, ◌∙◌, ap}
use Rattle.std.specs.List.{position}
use Rattle.nt_table.specs.Index.{is_at}
use Rattle.nt_table.proofs.Search.{nowhere}
use Rattle.nt_table.proofs.lookup.position_at.Goals as goal

pub returns-in-None : goal.returns-in-None
returns-in-None c =
    nowhere c.args.topics.now ∙ ap (λ o. position (is_at o) c.args.topics.now) (sym c.in-None.is)
