use Rattle.std.proofs.Common.{◌≡◌, ◌^◌, ◌-◌, min, take}
use Rattle.nt_values.specs.Types.{texts_len}
use Rattle.nt_values.proofs.value.texts_size.Given as goal

-- the size of the texts so far
abbrev pub invariant-loop-text : goal.invariant-loop-text
invariant-loop-text l = l.size ≡ min (texts_len (take l.text-index l.texts)) (2 ^ 64 - 1)
