use Rattle.std.proofs.Common.{◌≡◌, ◌++◌, drop, take, map}
use Rattle.nt_rules.specs.history.State.{changes_noted}
use Rattle.nt_server.proofs.connections.OpenConnections.tell.Given as goal

-- the connections passed were told, and the others are to be
abbrev pub invariant-loop-client : goal.invariant-loop-client
invariant-loop-client l =
    take l.client-index l.client-items ++ map (changes_noted l.place l.table.topics l.changes)
    (drop l.client-index l.client-items)
    ≡ map (changes_noted l.place l.table.topics l.changes) l.fn.self.opens
