-- A table may go to another thread.
use denote.Param.Send.{IsSend, sendable}
use Rattle.std.proofs.Crossing as heap
use Rattle.std.proofs.MapsCrossing.{crosses}
use Rattle.nt_rules.proofs.Sendable.{topic_send}
use Rattle.nt_table.specs.contracts.index.Index as index
use Rattle.nt_table.specs.contracts.table.Table as table

pub index_send : IsSend index.the_row
index_send = search (heap.crosses, crosses, sendable) depth 60 fits 20000

pub table_send : IsSend table.the_row
table_send = search (topic_send, index_send, heap.crosses, crosses, sendable) depth 60 fits 20000
