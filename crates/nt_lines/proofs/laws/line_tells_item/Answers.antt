use Rattle.nt_lines.proofs.TellLines.{line-one}
use Rattle.nt_lines.proofs.laws.line_tells_item.Goals as goal

pub returns : goal.returns
returns c = line-one
