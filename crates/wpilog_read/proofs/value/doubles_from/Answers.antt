use Rattle.std.proofs.Common.{◌≡◌, ◌∙◌, ◌/◌, ◌++◌, ◌∷◌, [], suc, length, drop, ap, arith, rules}
use Rattle.std.proofs.lemmas.List.{length-drop}
use Rattle.wpilog_write.specs.Log.{number}
use Rattle.wpilog_read.proofs.Loops.{numbers-more}
use Rattle.wpilog_read.proofs.value.doubles_from.Goals as goal

pub loop-rest-preserved : goal.loop-rest-preserved
loop-rest-preserved c =
    let pushed : c.push.new.self.items ≡ c.loop-rest.all.items ++ c.number_of.result ∷ [] = search rules in
    let left : length c.loop-rest.rest.now / 8 ≡ suc (length (drop 8 c.loop-rest.rest.now) / 8) =
    omega (arith, length-drop 8 c.loop-rest.rest.now, c.loop-rest-test.true) in
    rw c.split_at.ensures.back (numbers-more 8 _ _ c.loop-rest.all.items _ c.loop-rest.rest.now _ c.number_of.result left
    c.loop-rest.invariant pushed (c.number_of.ensures ∙ ap number c.split_at.ensures.front))
