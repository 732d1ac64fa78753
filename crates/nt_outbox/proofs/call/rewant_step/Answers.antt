use Rattle.std.proofs.Common.{option_map, rules}
use Rattle.nt_topics.specs.Properties.{is_cached}
use Rattle.nt_rules.specs.outbox.Marks.{placed}
use Rattle.nt_outbox.specs.Steps.{after}
use Rattle.nt_outbox.proofs.Noted.{rewanted-passing}
use Rattle.nt_outbox.proofs.call.rewant_step.Goals as goal

pub returns-then-not-cached : goal.returns-then-not-cached
returns-then-not-cached c =
    rewanted-passing (is_cached c.args.topic.now.props) (option_map (placed c.args.taken) c.args.topic.now.value)
    c.args.old c.args.new (after c.passing_step.result) (search rules) (search rules) c.passing_step.ensures
