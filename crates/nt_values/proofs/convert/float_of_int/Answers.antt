use Rattle.std.proofs.Common.{arith}
use Rattle.std.specs.Int.{w128, cast_signed, cast_unsigned}
use Rattle.std.proofs.lemmas.Int.{to_z-of_z}
use Rattle.nt_values.specs.Bits.{float_format}
use Rattle.nt_values.proofs.OneAnswer.{nearest-to_int}
use Rattle.nt_values.proofs.convert.float_of_int.Goals as goal

pub returns : goal.returns
returns c =
    nearest-to_int float_format c.args.n (cast_signed w128 (cast_unsigned w128 c.args.n))
    c.unsigned_abs.result c.float_of_whole.result c.signed_float.result
    (omega arith) (to_z-of_z w128 c.args.n c.ranges.n) c.unsigned_abs.ensures.value c.float_of_whole.ensures
    c.signed_float.ensures.sign c.signed_float.ensures.magnitude
