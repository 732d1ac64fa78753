use Rattle.std.proofs.Common.{arith}
use Rattle.std.proofs.lemmas.Grind.{common_steps}
use Rattle.nt_msgpack.specs.Atoms.{format_of}
use Rattle.nt_msgpack.proofs.read.atom_after.Goals as goal

pub returns-in_ok-u8_at-in-196 : goal.returns-in_ok-u8_at-in-196
unfolding format_of
returns-in_ok-u8_at-in-196 c = grind (arith, common_steps, c.binary_at.ensures c.args.first)

pub returns-in_ok-u16_at-in-197 : goal.returns-in_ok-u16_at-in-197
unfolding format_of
returns-in_ok-u16_at-in-197 c = grind (arith, common_steps, c.binary_at-in-197.ensures c.args.first)

pub returns-in_ok-u32_at-in-198 : goal.returns-in_ok-u32_at-in-198
unfolding format_of
returns-in_ok-u32_at-in-198 c = grind (arith, common_steps, c.binary_at-in-198.ensures c.args.first)
