-- A server may go to another thread.
use denote.Param.Send.{IsSend, sendable}
use Rattle.std.proofs.Crossing as heap
use Rattle.std.proofs.MapsCrossing.{crosses}
use Rattle.nt_values.proofs.Sendable.{list_send}
use Rattle.nt_topics.proofs.Sendable.{name_send}
use Rattle.nt_subs.proofs.Sendable.{subs_send}
use Rattle.nt_rules.proofs.Sendable.{meta_send}
use Rattle.nt_table.proofs.Sendable.{table_send}
use Rattle.nt_outbox.proofs.Sendable.{outbox_send}
use Rattle.nt_server.specs.contracts.open.Open as client
use Rattle.nt_server.specs.contracts.connections.OpenConnections as connections
use Rattle.nt_server.specs.contracts.taken.TakenPlaces as places
use Rattle.nt_server.specs.contracts.inner.Inner as inner
use Rattle.nt_server.specs.contracts.server.Server as server

pub client_send : IsSend client.the_row
client_send = search (name_send, subs_send, outbox_send, heap.crosses, sendable) depth 60 fits 20000

pub connections_send : IsSend connections.the_row
connections_send = search (client_send, heap.crosses, sendable) depth 60 fits 20000

pub places_send : IsSend places.the_row
places_send = search (heap.crosses, sendable) depth 60 fits 20000

pub inner_send : IsSend inner.the_row
inner_send =
    search (table_send, connections_send, places_send, meta_send, list_send, heap.crosses, sendable) depth 60 fits 20000

pub server_send : IsSend server.the_row
server_send =
    search (
      inner_send,
      table_send,
      connections_send,
      places_send,
      meta_send,
      list_send,
      heap.crosses,
      crosses,
      sendable,
    )
    depth 60 fits 20000
