use Rattle.std.proofs.Common.{◌≡◌, take}
use Rattle.std.specs.List.{AllByRecursion}
use Rattle.nt_frames.specs.Frames.{HasSpelling, frame_of}
use Rattle.nt_frames.proofs.write.write_frame.Given as goal

-- the messages so far were written
abbrev pub invariant-loop-message : goal.invariant-loop-message
invariant-loop-message l = record {
  written : l.out.items ≡ frame_of (take l.message-index l.messages);
  spelled : AllByRecursion HasSpelling (take l.message-index l.messages);
}
