use Rattle.std.proofs.Common.{◌≡◌, ◌++◌, drop, map}
use Rattle.nt_client.specs.Outgoing.{laid}
use Rattle.nt_client.proofs.queue.Queue.frames.Given as goal

-- the frames that were made, and those of the runs that are left
abbrev pub invariant-loop-run : goal.invariant-loop-run
invariant-loop-run l = l.frames.items ++ map laid (drop l.run-index l.run-items) ≡ map laid l.run-items
