use Rattle.std.proofs.Common.{◌<◌, ◌++◌, List, ℕ, length, ap, ◌∙◌, get_or, rules}
use Rattle.std.specs.Prelude.{ℤ, pos}
use Rattle.std.specs.Int.{w64}
use Rattle.std.proofs.lemmas.Int.{to_z-of_z}
use mir.Val.{SFits}
use Rattle.wpilog_write.specs.Written.{int64}
use Rattle.wpilog_write.proofs.Numbers.{row-more}
use Rattle.wpilog_write.proofs.record.put_value.Goals as goal

pub loop-number-preserved : goal.loop-number-preserved
loop-number-preserved c =
    let xs = c.as_slice-number-items.result.now in
    let i = c.loop-number.number-index in
    let fits : SFits w64 (get_or xs i (pos 0)) = search rules in
    let within : i < length xs = search rules in
    let wrote = rw (to_z-of_z w64 (get_or xs i (pos 0)) fits) at c.in_ok-put_int64-in-Int64s.ensures in
    wrote ∙ ap (λ (w : List ℕ). w ++ int64 (get_or xs i (pos 0))) c.loop-number.invariant
    ∙ row-more ℤ int64 xs i (pos 0) c.args.out.now.items within
