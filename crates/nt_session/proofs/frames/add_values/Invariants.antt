use Rattle.std.proofs.Common.{◌≡◌, ◌++◌, [], drop}
use Rattle.nt_session.specs.Laid.{frames_behind}
use Rattle.nt_session.proofs.frames.add_values.Given as goal

-- the frames so far and those of what was begun and of the values that are left are all
abbrev pub invariant-loop-value : goal.invariant-loop-value
invariant-loop-value l =
    l.frames.items ++ frames_behind l.begun.items (drop l.value-index l.values)
    ≡ l.fn.frames.items ++ frames_behind [] l.values
