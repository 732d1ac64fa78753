use Rattle.std.proofs.Common.{◌≡◌, ◌∙◌, arith, rules}
use Rattle.std.specs.Prelude.{pos}
use Rattle.std.specs.Int.{w64}
use Rattle.std.proofs.lemmas.Int.{to_z-of_z}
use mir.Val.{SFits, to_z, of_z}
use Rattle.nt_gen.specs.Parts.{value_record}
use Rattle.nt_gen.proofs.Items.{item-short, value-short}
use Rattle.nt_gen.proofs.log.put_value.Goals as goal

pub put-requires : goal.put-requires
put-requires c = omega (
  arith,
  c.requires,
  item-short c.args.time (to_z w64 (of_z w64 c.from.result)) c.ranges.time.fits,
)

pub returns-clause-bytes : goal.returns-clause-bytes
unfolding value_record
returns-clause-bytes c =
    let fits : SFits w64 c.from.result = search rules in
    let word : to_z w64 (of_z w64 c.from.result) ≡ pos c.args.word = to_z-of_z w64 c.from.result fits
    ∙ c.from.ensures in
    rw word at c.put.ensures.bytes

pub returns-clause-len : goal.returns-clause-len
unfolding value_record
returns-clause-len c =
    let fits : SFits w64 c.from.result = search rules in
    let word : to_z w64 (of_z w64 c.from.result) ≡ pos c.args.word = to_z-of_z w64 c.from.result fits
    ∙ c.from.ensures in
    rw word at c.put.ensures.len

pub returns-clause-short : goal.returns-clause-short
returns-clause-short c = value-short c.args.time c.args.word c.ranges.time.fits
