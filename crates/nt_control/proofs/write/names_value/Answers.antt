use Rattle.nt_control.proofs.Subscriptions.{texts_again, texts_whole}
use Rattle.nt_control.proofs.write.names_value.Goals as goal

pub returns-clause-whole : goal.returns-clause-whole
returns-clause-whole c = texts_whole c.args.names.now

pub returns-clause-again : goal.returns-clause-again
returns-clause-again c = texts_again c.args.names.now
