use Rattle.std.proofs.Common.{ap}
use Rattle.nt_rules.specs.outbox.Marks.{Mark}
use Rattle.nt_outbox.proofs.message.text_by.Goals as goal

pub returns-in-Publish : goal.returns-in-Publish
returns-in-Publish c =
    let same = ap (λ (m : Mark). m.publishes) c.mark.view_is in
    rw c.in-Publish.is (rw (c.uid_at-pubuid.ensures, c.as_slice.ensures, same) at c.announced.ensures)

pub returns-in-Topic : goal.returns-in-Topic
returns-in-Topic c = rw c.in-Topic.is c.announced-in-Topic.ensures
