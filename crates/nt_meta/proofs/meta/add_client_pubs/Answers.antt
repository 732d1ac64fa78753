use Rattle.std.proofs.Common.{◌≡◌, ◌++◌, ◌∷◌, [], rules}
use Rattle.nt_rules.specs.meta.Meta.{client_pub}
use Rattle.nt_meta.proofs.Metas.{added-next}
use Rattle.nt_meta.proofs.meta.add_client_pubs.Goals as goal

pub loop-conn-preserved : goal.loop-conn-preserved
loop-conn-preserved c =
    let more : c.push.new.self ≡ c.loop-conn.all ++ client_pub c.conn-item.result ∷ [] = search rules in
    added-next client_pub c.args.roster.now.conns c.as_slice-conn-items.result.now c.loop-conn.conn-index
    c.conn-item.result
    c.loop-conn.all c.push.new.self _ c.as_slice-conn-items.ensures c.loop-conn-test.true c.conn-item.is
    c.loop-conn.invariant more
