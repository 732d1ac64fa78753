use Rattle.std.proofs.Common.{◌≡◌, ◌-◌}
use Rattle.wpilog_read.specs.Reading.{strings_at}
use Rattle.wpilog_read.proofs.Loops.{with_texts}
use Rattle.wpilog_read.proofs.value.strings_from.Given as goal

abbrev pub invariant-loop : goal.invariant-loop
invariant-loop l =
    strings_at l.count l.initial.rest ≡ with_texts l.texts.items (strings_at (l.count - l.counter) l.rest)
