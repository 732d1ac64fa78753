use Rattle.std.proofs.Common.{◌∙◌, sym, ap}
use Rattle.nt_rules.specs.outbox.Marks.{Mark}
use Rattle.nt_outbox.specs.Steps.{count}
use Rattle.nt_outbox.proofs.Counts.{length-keys}
use Rattle.nt_outbox.proofs.kept.Kept.count.Goals as goal

pub returns : goal.returns
returns c = c.self.invariant.counted ∙ ap count c.self.view_is ∙ sym (length-keys c.args.self.now)
