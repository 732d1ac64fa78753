use Rattle.std.proofs.Common.{rules}
use Rattle.std.proofs.lemmas.List.Sorted.{answers_always}
use Rattle.nt_rules.specs.outbox.Marks.{Mark}
use Rattle.nt_outbox.proofs.Places.{searched}
use Rattle.nt_outbox.proofs.marks.position.Goals as goal

pub returns-clause-position : goal.returns-clause-position
returns-clause-position c =
    searched c.args.id c.args.marks.now c.binary_search_by_key.result c.requires
    c.binary_search_by_key.ensures.bound
    (c.binary_search_by_key.ensures.position (λ (m : Mark). m.id) (answers_always _ _ _
    (λ f a r g h. search rules)))
