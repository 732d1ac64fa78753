use Rattle.std.proofs.Common.{◌≤◌, length, arith, rules}
use Rattle.std.proofs.lemmas.Result.{on_ok_weaker}
use Rattle.nt_world.proofs.Clients.{made}
use Rattle.nt_world.proofs.world.make.Goals as goal

pub returns-clause-runs : goal.returns-clause-runs
returns-clause-runs c =
    let some : 1 ≤ c.client-client.result = omega arith in
    let few : c.client-client.result ≤ length c.args.peers.now.items = search rules in
    on_ok_weaker c.turn.result
    (λ turned. λ decode is_decoding scene h.
    made decode c.args.step.now scene c.client-client.result c.index_mut.result.now c.turn.new.peer
    c.args.peers.now.items _ _ _ _ c.client-client.ensures some few c.index_mut.ensures.value h
    (turned decode is_decoding scene.past h.hosts)) c.turn.ensures
