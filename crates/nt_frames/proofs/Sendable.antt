-- The messages of frames may go to another thread.
use denote.Param.Send.{IsSend, sendable}
use Rattle.std.proofs.Crossing as heap
use Rattle.nt_frames.specs.contracts.message.ValueMsg as message
use Rattle.nt_frames.specs.contracts.message.FrameRead as read

pub message_send : IsSend message.the_row
message_send = search (heap.crosses, sendable) depth 60 fits 20000

pub read_send : IsSend read.the_row
read_send = search (message_send, heap.crosses, sendable) depth 60 fits 20000
