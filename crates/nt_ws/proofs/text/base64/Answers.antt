use Rattle.std.proofs.Common.{rules}
use Rattle.nt_ws.specs.Written.{base64}
use Rattle.nt_ws.proofs.text.base64.Goals as goal

pub returns : goal.returns
unfolding base64
returns c = search rules
