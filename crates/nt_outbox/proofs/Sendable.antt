-- An outbox may go to another thread.
use denote.Param.Send.{IsSend, sendable}
use Rattle.std.proofs.Crossing as heap
use Rattle.nt_values.proofs.Sendable.{list_send}
use Rattle.nt_topics.proofs.Sendable.{name_send}
use Rattle.nt_rules.proofs.Sendable.{publish_send, setting_send, placed_send}
use Rattle.nt_outbox.specs.contracts.mark.Mark as mark
use Rattle.nt_outbox.specs.contracts.kept.Kept as kept
use Rattle.nt_outbox.specs.contracts.outbox.Outbox as outbox

pub mark_send : IsSend mark.the_row
mark_send =
    search (name_send, list_send, publish_send, setting_send, placed_send, heap.crosses, sendable) depth 60 fits 20000

kept_send : IsSend kept.the_row
kept_send = search (mark_send, heap.crosses, sendable) depth 60 fits 20000

pub outbox_send : IsSend outbox.the_row
outbox_send = search (kept_send, heap.crosses, sendable) depth 60 fits 20000
