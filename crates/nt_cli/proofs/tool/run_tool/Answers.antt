use Rattle.nt_tools.specs.Printing.{number_of}
use Rattle.nt_tools.proofs.Printing.{prefix-given}
use Rattle.nt_cli.proofs.tool.run_tool.Goals as goal

pub returns-in-Ok-clause-prefix : goal.returns-in-Ok-clause-prefix
returns-in-Ok-clause-prefix g c = λ bytes reply left replies.
    prefix-given reply (number_of c.in-Ok.status) _ _ (c.in-Ok.ensures.exact bytes reply left replies)
