use Rattle.std.proofs.Common.{◌∙◌, rules}
use Rattle.nt_rules.proofs.Calls.{on-ok}
use Rattle.nt_outbox.proofs.Noted.{noted-value}
use Rattle.nt_outbox.proofs.outbox.Outbox.note.Goals as goal

pub returns-in-Ok-clause-owed : goal.returns-in-Ok-clause-owed
returns-in-Ok-clause-owed c =
    rw c.in-Changed.is
    (on-ok c.call-in-Changed.result
    (λ e. e
    ∙ noted-value c.args.place c.in-Changed.id c.in-Changed.name c.in-Changed.time c.in-Changed.value c.args.cached
    c.args.wanted c.args.self.now c.id_of-in-Changed.result c.as_str-in-Changed.result.now c.in-Ok.step (search rules)
    (search rules) (search rules))
    c.call-in-Changed.ensures.owed)
