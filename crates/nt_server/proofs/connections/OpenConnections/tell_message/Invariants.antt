use Rattle.std.proofs.Common.{◌≡◌, ◌++◌, drop, take, map}
use Rattle.nt_rules.specs.history.State.{message_noted, turn_noted}
use Rattle.nt_server.proofs.connections.OpenConnections.tell_message.Given as goal

-- the connections passed were told, and the others are to be
abbrev pub invariant-loop-client : goal.invariant-loop-client
invariant-loop-client l =
    take l.client-index l.client-items
    ++ map (λ o. message_noted l.place l.table.topics l.conn l.msg l.changes (turn_noted l.place l.turned o))
    (drop l.client-index l.client-items)
    ≡ map (λ o. message_noted l.place l.table.topics l.conn l.msg l.changes (turn_noted l.place l.turned o))
    l.fn.self.opens
