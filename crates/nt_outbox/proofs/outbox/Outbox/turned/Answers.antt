use Rattle.std.proofs.Common.{[]}
use Rattle.nt_rules.specs.outbox.Marks.{turned}
use Rattle.nt_outbox.proofs.Blanks.{no-blank-changed}
use Rattle.nt_outbox.proofs.outbox.Outbox.turned.Goals as goal

pub invariant_of-self : goal.invariant_of-self
invariant_of-self c = no-blank-changed c.args.id [] turned _ c.turn.new.self c.turn.ensures c.self.invariant
