-- Names and properties may go to another thread.
use denote.RattleType.{RattleType}
use denote.Param.Send.{IsSend, sendable}
use Rattle.std.proofs.Crossing as heap
use Rattle.std.proofs.MapsCrossing.{crosses}
use Rattle.serde_json.proofs.value.Value.TheLaws.TheKnot as json
use Rattle.nt_values.proofs.Sendable.{text_send}
use Rattle.nt_topics.proofs.name.Limited.TheSendSync as limited_crosses
use Rattle.nt_topics.specs.contracts.name.Name as name
use Rattle.nt_topics.specs.contracts.name.Limited as limited
use Rattle.nt_topics.specs.contracts.properties.Props as props
use Rattle.nt_topics.specs.contracts.properties.Update as update

pub name_send : IsSend name.the_row
name_send = search (text_send, heap.crosses, sendable) depth 60 fits 20000

-- a topic's name, a type string and a client's name
pub limited_send : (kind most : RattleType) → IsSend (limited.the_row kind most)
limited_send = limited_crosses.the_send

pub props_send : IsSend props.the_row
props_send = search (json.crosses, heap.crosses, crosses, sendable) depth 60 fits 20000

pub update_send : IsSend update.the_row
update_send = search (json.crosses, heap.crosses, crosses, sendable) depth 60 fits 20000
