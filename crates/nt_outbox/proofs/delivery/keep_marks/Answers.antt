use Rattle.std.proofs.Common.{not, rules, tests}
use Rattle.std.proofs.lemmas.Fn.{filter_same}
use Rattle.nt_rules.specs.outbox.Marks.{Mark}
use Rattle.nt_rules.specs.outbox.Marks.{is_blank}
use Rattle.nt_outbox.proofs.delivery.keep_marks.Goals as goal

pub returns : goal.returns
returns c =
    filter_same _ (λ (x : Mark). not (is_blank x)) _ (λ x b f h. search (rules, tests)) _ _
    c.retain.ensures.filtered
