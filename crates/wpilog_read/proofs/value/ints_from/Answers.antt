use Rattle.std.proofs.Common.{◌≡◌, ◌∙◌, ◌/◌, ◌++◌, ◌∷◌, [], suc, length, drop, ap, arith, rules}
use Rattle.std.specs.Int.{w64, cast_signed}
use Rattle.std.proofs.lemmas.List.{length-drop}
use Rattle.wpilog_write.specs.Log.{number}
use Rattle.wpilog_read.proofs.Loops.{ints-more}
use Rattle.wpilog_read.proofs.value.ints_from.Goals as goal

pub loop-rest-preserved : goal.loop-rest-preserved
loop-rest-preserved c =
    let pushed : c.push.new.self.items ≡ c.loop-rest.all.items ++ c.cast_signed.result ∷ [] = search rules in
    let left : length c.loop-rest.rest.now / 8 ≡ suc (length (drop 8 c.loop-rest.rest.now) / 8) =
    omega (arith, length-drop 8 c.loop-rest.rest.now, c.loop-rest-test.true) in
    rw c.split_at.ensures.back (ints-more _ _ c.loop-rest.all.items _ c.loop-rest.rest.now _ c.cast_signed.result left
    c.loop-rest.invariant pushed
    (c.cast_signed.ensures ∙ ap (cast_signed w64) (c.number_of.ensures ∙ ap number c.split_at.ensures.front)))
