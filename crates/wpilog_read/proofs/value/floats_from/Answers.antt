use Rattle.std.proofs.Common.{◌≡◌, ◌∙◌, ◌/◌, ◌++◌, ◌∷◌, [], suc, length, drop, ap, arith, rules}
use Rattle.std.proofs.lemmas.List.{length-drop}
use Rattle.wpilog_write.specs.Log.{number}
use Rattle.wpilog_read.proofs.Loops.{numbers-more}
use Rattle.wpilog_read.proofs.value.floats_from.Goals as goal

pub loop-rest-preserved : goal.loop-rest-preserved
loop-rest-preserved c =
    let pushed : c.push.new.self.items ≡ c.loop-rest.all.items ++ c.short_number_of.result ∷ [] = search rules in
    let left : length c.loop-rest.rest.now / 4 ≡ suc (length (drop 4 c.loop-rest.rest.now) / 4) =
    omega (arith, length-drop 4 c.loop-rest.rest.now, c.loop-rest-test.true) in
    rw c.split_at.ensures.back (numbers-more 4 _ _ c.loop-rest.all.items _ c.loop-rest.rest.now _ c.short_number_of.result left
    c.loop-rest.invariant pushed (c.short_number_of.ensures.value ∙ ap number c.split_at.ensures.front))
