use Rattle.nt_log_tools.proofs.TellLines.{placed-one}
use Rattle.nt_log_tools.proofs.laws.line_tells_item.Goals as goal

pub returns : goal.returns
returns c = record { placed = placed-one }
