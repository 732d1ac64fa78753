use Rattle.std.proofs.Common.{◌≡◌, ◌==◌, drop}
use Rattle.std.specs.List.{find}
use Rattle.nt_outbox.proofs.message.setting_at.Given as goal

-- what is found is found among those that follow
abbrev pub invariant-loop-setting : goal.invariant-loop-setting
invariant-loop-setting l =
    find (λ x. x.place == l.place) (drop l.setting-index l.settings)
    ≡ find (λ x. x.place == l.place) l.settings
