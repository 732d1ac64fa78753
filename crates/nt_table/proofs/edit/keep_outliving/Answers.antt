use Rattle.std.proofs.Common.{rules, tests}
use Rattle.std.proofs.lemmas.Fn.{filter_same}
use Rattle.nt_rules.specs.topics.Topics.{outlives}
use Rattle.nt_table.proofs.edit.keep_outliving.Goals as goal

pub returns : goal.returns
returns c = filter_same _ (outlives c.args.conn) _ (λ x b f h. search (rules, tests)) _ _ c.retain.ensures.filtered
