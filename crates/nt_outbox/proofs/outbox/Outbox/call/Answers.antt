use Rattle.std.proofs.Common.{sym, subst}
use Rattle.nt_outbox.specs.Steps.{after, HasNoBlank}
use Rattle.nt_outbox.proofs.Blanks.{no-blank-changed}
use Rattle.nt_outbox.proofs.outbox.Outbox.call.Goals as goal

pub invariant_of-self : goal.invariant_of-self
invariant_of-self c =
    no-blank-changed c.in-Some.id c.args.name.now (after c.args.step) c.replace-kept.result c.in-Ok.kept c.in-Ok.ensures
    (subst HasNoBlank (sym c.replace-kept.ensures.value) c.self-2.invariant)
