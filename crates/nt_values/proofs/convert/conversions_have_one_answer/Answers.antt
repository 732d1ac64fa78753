use Rattle.std.proofs.Common.{arith}
use Rattle.nt_values.specs.Bits.{float_format, double_format}
use Rattle.nt_values.proofs.Patterns.{worth-less}
use Rattle.nt_values.proofs.Nearest.{nearest-some, nearest-one}
use Rattle.nt_values.proofs.OneAnswer.{nearest_to_int-one, double_of_float-one, float_of_double-one}
use Rattle.nt_values.proofs.convert.conversions_have_one_answer.Goals as goal

pub returns-clause-order : goal.returns-clause-order
returns-clause-order c = worth-less

pub returns-clause-nearest_some : goal.returns-clause-nearest_some
returns-clause-nearest_some c = nearest-some

pub returns-clause-nearest_one : goal.returns-clause-nearest_one
returns-clause-nearest_one c = nearest-one

pub returns-clause-double_of_int : goal.returns-clause-double_of_int
returns-clause-double_of_int c = λ n a b. nearest_to_int-one double_format n a b (omega arith)

pub returns-clause-float_of_int : goal.returns-clause-float_of_int
returns-clause-float_of_int c = λ n a b. nearest_to_int-one float_format n a b (omega arith)

pub returns-clause-double_of_float : goal.returns-clause-double_of_float
returns-clause-double_of_float c = double_of_float-one

pub returns-clause-float_of_double : goal.returns-clause-float_of_double
returns-clause-float_of_double c = float_of_double-one
