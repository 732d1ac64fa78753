use Rattle.std.proofs.Common.{◌≡◌, ◌++◌, drop, take, map}
use Rattle.nt_rules.specs.outbox.Calls.{reached}
use Rattle.nt_rules.specs.history.State.{with_outbox}
use Rattle.nt_server.proofs.connections.OpenConnections.reach.Given as goal

-- the connections passed came to the place, and the others are to come
abbrev pub invariant-loop-client : goal.invariant-loop-client
invariant-loop-client l =
    take l.client-index l.client-items ++ map (λ o. with_outbox (reached l.place o.outbox) o)
    (drop l.client-index l.client-items)
    ≡ map (λ o. with_outbox (reached l.place o.outbox) o) l.fn.self.opens
