-- Control messages may go to another thread.
use denote.Param.Send.{IsSend, sendable}
use Rattle.std.proofs.Crossing as heap
use Rattle.std.proofs.MapsCrossing.{crosses}
use Rattle.nt_topics.proofs.Sendable.{name_send, limited_send, props_send, update_send}
use Rattle.nt_control.specs.contracts.message.ClientMsg as client
use Rattle.nt_control.specs.contracts.message.ServerMsg as server

pub client_send : IsSend client.the_row
client_send = search (limited_send, props_send, update_send, heap.crosses, crosses, sendable) depth 60 fits 20000

pub server_send : IsSend server.the_row
server_send = search (name_send, limited_send, props_send, update_send, heap.crosses, crosses, sendable) depth 60 fits
    20000
