use Rattle.nt_cli.proofs.LineMessages.{messages-binary, messages-text}
use Rattle.nt_cli.proofs.messages.messages_in.Goals as goal

pub returns-in-Some-clause-messages : goal.returns-in-Some-clause-messages
returns-in-Some-clause-messages c = λ decode is_decoding. messages-binary _ c.values_of.result decode c.args.line.now _
    c.in-Some.ensures.0 c.in-Some.ensures.1 (c.values_of.ensures.messages decode is_decoding)

pub returns-in-None-clause-messages : goal.returns-in-None-clause-messages
returns-in-None-clause-messages c = λ decode is_decoding. messages-text _ c.controls_of.result decode c.args.line.now
    c.in-None.ensures c.controls_of.ensures.messages
