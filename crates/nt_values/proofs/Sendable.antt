-- Values, and what they hold, may go to another thread.
use denote.RattleType.{RattleType}
use denote.Param.Send.{IsSend, sendable}
use Rattle.std.proofs.Crossing as heap
use Rattle.nt_values.proofs.list.ListOf.TheSendSync as list_crosses
use Rattle.nt_values.specs.contracts.text.Text as text
use Rattle.nt_values.specs.contracts.bytes.Bytes as bytes
use Rattle.nt_values.specs.contracts.list.ListOf as list
use Rattle.nt_values.specs.contracts.value.Value as value

pub text_send : IsSend text.the_row
text_send = search (heap.crosses, sendable) depth 60 fits 20000

pub bytes_send : IsSend bytes.the_row
bytes_send = search (heap.crosses, sendable) depth 60 fits 20000

pub list_send : (T : RattleType) → IsSend T → IsSend (list.the_row T)
list_send = list_crosses.the_send

pub value_send : IsSend value.the_row
value_send = search (text_send, bytes_send, list_send, heap.crosses, sendable) depth 60 fits 20000
