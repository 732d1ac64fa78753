use Rattle.std.proofs.Common.{◌≡◌, ◌++◌, drop, take, map}
use Rattle.nt_subs.specs.Wishes.{wanted}
use Rattle.nt_rules.specs.outbox.Calls.{reached}
use Rattle.nt_rules.specs.history.State.{with_outbox, noted_differences}
use Rattle.nt_server.proofs.connections.OpenConnections.tell_metas.Given as goal

-- the connections passed were told, and the others are to be
abbrev pub invariant-loop-client : goal.invariant-loop-client
invariant-loop-client l =
    take l.client-index l.client-items
    ++ map (λ o. with_outbox (noted_differences l.place (wanted o.subs) l.found.items (reached l.place o.outbox)) o)
    (drop l.client-index l.client-items)
    ≡ map (λ o. with_outbox (noted_differences l.place (wanted o.subs) l.found.items (reached l.place o.outbox)) o)
    l.fn.self.opens
