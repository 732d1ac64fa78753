use Rattle.nt_control.proofs.Subscriptions.{options_again, options_whole}
use Rattle.nt_control.proofs.write.options_value.Goals as goal

pub returns-clause-whole : goal.returns-clause-whole
returns-clause-whole c = let o = c.args.options in options_whole o.all o.prefix o.topicsonly

pub returns-clause-again : goal.returns-clause-again
returns-clause-again c = let o = c.args.options in options_again o.all o.prefix o.topicsonly
