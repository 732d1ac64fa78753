use Rattle.std.proofs.Common.{◌≡◌, ◌==◌, drop}
use Rattle.std.specs.List.{find}
use Rattle.nt_outbox.proofs.message.meta_at.Given as goal

-- what is found is found among those that follow
abbrev pub invariant-loop-meta : goal.invariant-loop-meta
invariant-loop-meta l =
    find (λ x. x.id == l.id) (drop l.meta-index l.metas) ≡ find (λ x. x.id == l.id) l.metas
