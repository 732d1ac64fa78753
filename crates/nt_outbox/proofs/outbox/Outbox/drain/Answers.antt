use Rattle.std.proofs.Common.{take}
use Rattle.nt_rules.specs.outbox.Marks.{keys}
use Rattle.nt_outbox.proofs.Blanks.{no-blank-handed}
use Rattle.nt_outbox.proofs.outbox.Outbox.drain.Goals as goal

pub invariant_of-self : goal.invariant_of-self
invariant_of-self c =
    no-blank-handed (take c.args.budget (keys c.replace-kept.result)) c.replace-kept.result c.in-Ok.kept
    c.in-Ok.ensures.kept
