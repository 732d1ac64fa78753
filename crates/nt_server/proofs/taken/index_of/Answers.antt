use Rattle.std.proofs.Common.{rules}
use Rattle.std.proofs.lemmas.List.Sorted.{answers_always}
use Rattle.nt_rules.specs.declared.taken.Taken.{Taken}
use Rattle.nt_server.proofs.Searching.{searched-places}
use Rattle.nt_server.proofs.taken.index_of.Goals as goal

pub returns : goal.returns
returns c =
    searched-places c.args.topic c.args.taken.now c.binary_search_by_key.result c.requires
    c.binary_search_by_key.ensures.bound
    (c.binary_search_by_key.ensures.position (λ (t : Taken). t.topic) (answers_always _ _ _
    (λ f a r g h. search rules)))
