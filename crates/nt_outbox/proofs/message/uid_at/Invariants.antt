use Rattle.std.proofs.Common.{◌≡◌, drop}
use Rattle.nt_rules.specs.outbox.Messages.{uid_at}
use Rattle.nt_outbox.proofs.message.uid_at.Given as goal

-- what is found is found among those that follow
abbrev pub invariant-loop-publish : goal.invariant-loop-publish
invariant-loop-publish l = uid_at l.place (drop l.publish-index l.publishes) ≡ uid_at l.place l.publishes
