-- Topics, changes, causes, acts, answers and entries may go to another thread.
use denote.Param.Send.{IsSend, sendable}
use Rattle.std.proofs.Crossing as heap
use Rattle.std.proofs.MapsCrossing.{crosses}
use Rattle.nt_values.proofs.Sendable.{bytes_send, list_send, value_send}
use Rattle.nt_topics.proofs.Sendable.{name_send, limited_send, props_send, update_send}
use Rattle.nt_subs.proofs.Sendable.{sub_send}
use Rattle.nt_frames.proofs.Sendable.{message_send}
use Rattle.nt_control.proofs.Sendable.{client_send, server_send}
use Rattle.nt_rules.specs.contracts.topic.Pub as publisher
use Rattle.nt_rules.specs.contracts.topic.Timed as timed
use Rattle.nt_rules.specs.contracts.topic.Topic as topic
use Rattle.nt_rules.specs.contracts.topic.Saved as saved
use Rattle.nt_rules.specs.contracts.topic.Change as change
use Rattle.nt_rules.specs.contracts.topic.Outcome as outcome
use Rattle.nt_rules.specs.contracts.batch.Batch as batch
use Rattle.nt_rules.specs.contracts.held.Held as held
use Rattle.nt_rules.specs.contracts.meta.MetaNow as meta
use Rattle.nt_rules.specs.contracts.roster.Roster as roster
use Rattle.nt_rules.specs.contracts.roster.PubRow as pub_row
use Rattle.nt_rules.specs.contracts.roster.SubRow as sub_row
use Rattle.nt_rules.specs.contracts.roster.ConnRow as conn_row
use Rattle.nt_rules.specs.contracts.roster.LifeRow as life_row
use Rattle.nt_rules.specs.contracts.waiting.Publish as publish
use Rattle.nt_rules.specs.contracts.waiting.Setting as setting
use Rattle.nt_rules.specs.contracts.waiting.Placed as placed
use Rattle.nt_rules.specs.contracts.act.Msg as msg
use Rattle.nt_rules.specs.contracts.act.Act as act
use Rattle.nt_rules.specs.contracts.act.StepOut as answer
use Rattle.nt_rules.specs.contracts.act.Deed as deed
use Rattle.nt_rules.specs.contracts.act.Entry as entry
use Rattle.nt_rules.specs.contracts.start.Start as start

pub publisher_send : IsSend publisher.the_row
publisher_send = search (limited_send, heap.crosses, sendable) depth 60 fits 20000

pub timed_send : IsSend timed.the_row
timed_send = search (value_send, heap.crosses, sendable) depth 60 fits 20000

pub topic_send : IsSend topic.the_row
topic_send =
    search (limited_send, props_send, timed_send, list_send, publisher_send, heap.crosses, crosses, sendable)
    depth 60 fits 20000

pub saved_send : IsSend saved.the_row
saved_send = search (limited_send, props_send, value_send, heap.crosses, crosses, sendable) depth 60 fits 20000

pub held_send : IsSend held.the_row
held_send =
    search (name_send, limited_send, props_send, timed_send, heap.crosses, crosses, sendable) depth 60 fits 20000

pub change_send : IsSend change.the_row
change_send =
    search (name_send, limited_send, props_send, update_send, value_send, heap.crosses, crosses, sendable)
    depth 60 fits 20000

pub outcome_send : IsSend outcome.the_row
outcome_send = search (change_send, list_send, heap.crosses, sendable) depth 60 fits 20000

pub batch_send : IsSend batch.the_row
batch_send = search (server_send, message_send, list_send, heap.crosses, sendable) depth 60 fits 20000

pub meta_send : IsSend meta.the_row
meta_send = search (name_send, bytes_send, heap.crosses, sendable) depth 60 fits 20000

-- ---- what the meta topics tell of

pub pub_row_send : IsSend pub_row.the_row
pub_row_send = search (limited_send, heap.crosses, sendable) depth 60 fits 20000

pub sub_row_send : IsSend sub_row.the_row
sub_row_send = search (sub_send, heap.crosses, sendable) depth 60 fits 20000

pub conn_row_send : IsSend conn_row.the_row
conn_row_send = search (name_send, list_send, pub_row_send, sub_row_send, heap.crosses, sendable) depth 60 fits 20000

pub life_row_send : IsSend life_row.the_row
life_row_send = search (limited_send, heap.crosses, sendable) depth 60 fits 20000

pub roster_send : IsSend roster.the_row
roster_send = search (list_send, conn_row_send, life_row_send, heap.crosses, sendable) depth 60 fits 20000

-- ---- what waits for a connection

pub publish_send : IsSend publish.the_row
publish_send = search (heap.crosses, sendable) depth 60 fits 20000

pub setting_send : IsSend setting.the_row
setting_send = search (update_send, heap.crosses, crosses, sendable) depth 60 fits 20000

pub placed_send : IsSend placed.the_row
placed_send = search (value_send, heap.crosses, sendable) depth 60 fits 20000

-- ---- acts

pub msg_send : IsSend msg.the_row
msg_send =
    search (
      client_send,
      message_send,
      list_send,
      limited_send,
      props_send,
      update_send,
      heap.crosses,
      crosses,
      sendable,
    )
    depth 60 fits 20000

pub act_send : IsSend act.the_row
act_send =
    search (
      msg_send,
      client_send,
      message_send,
      list_send,
      limited_send,
      props_send,
      update_send,
      heap.crosses,
      crosses,
      sendable,
    )
    depth 60 fits 20000

pub answer_send : IsSend answer.the_row
answer_send =
    search (name_send, batch_send, server_send, message_send, list_send, heap.crosses, crosses, sendable)
    depth 60 fits 20000

pub deed_send : IsSend deed.the_row
deed_send =
    search (
      name_send,
      msg_send,
      batch_send,
      client_send,
      server_send,
      message_send,
      list_send,
      limited_send,
      props_send,
      update_send,
      heap.crosses,
      crosses,
      sendable,
    )
    depth 60 fits 20000

pub entry_send : IsSend entry.the_row
entry_send =
    search (
      deed_send,
      name_send,
      msg_send,
      batch_send,
      client_send,
      server_send,
      message_send,
      list_send,
      limited_send,
      props_send,
      update_send,
      heap.crosses,
      crosses,
      sendable,
    )
    depth 60 fits 20000

pub start_send : IsSend start.the_row
start_send = search (list_send, saved_send, heap.crosses, sendable) depth 60 fits 20000
