-- Subscriptions may go to another thread.
use denote.Param.Send.{IsSend, sendable}
use Rattle.std.proofs.Crossing as heap
use Rattle.std.proofs.MapsCrossing.{crosses}
use Rattle.nt_values.proofs.Sendable.{list_send}
use Rattle.nt_topics.proofs.Sendable.{name_send}
use Rattle.nt_subs.specs.contracts.sub.Sub as sub
use Rattle.nt_subs.specs.contracts.set.SubSet as subs

pub sub_send : IsSend sub.the_row
sub_send = search (list_send, name_send, heap.crosses, sendable) depth 60 fits 20000

pub subs_send : IsSend subs.the_row
subs_send = search (sub_send, heap.crosses, crosses, sendable) depth 60 fits 20000
