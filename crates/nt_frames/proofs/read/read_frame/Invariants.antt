use Rattle.std.proofs.Common.{◌≡◌, ℕ, ◌++◌, List, length}
use Rattle.nt_frames.specs.Frames.{IsFrame}
use Rattle.nt_frames.proofs.read.read_frame.Given as goal

-- a prefix of the bytes is a frame of the messages so far
abbrev pub invariant-loop-rest : goal.invariant-loop-rest
invariant-loop-rest l = record {
  prefix : List ℕ;
  whole : l.bytes ≡ prefix ++ l.rest;
  frame : IsFrame l.most l.messages.items prefix;
}

abbrev pub decreases-loop-rest : goal.decreases-loop-rest
decreases-loop-rest l = length l.rest
