use Rattle.std.proofs.Common.{rules}
use Rattle.std.proofs.lemmas.List.Sorted.{answers_always}
use Rattle.nt_rules.specs.history.State.{Open}
use Rattle.nt_server.proofs.Numbers.{searched-opens}
use Rattle.nt_server.proofs.connections.index_of.Goals as goal

pub returns : goal.returns
returns c =
    searched-opens c.args.conn c.args.list.now c.binary_search_by_key.result c.requires
    c.binary_search_by_key.ensures.bound
    (c.binary_search_by_key.ensures.position (λ (o : Open). o.conn) (answers_always _ _ _
    (λ f a r g h. search rules)))
