use Rattle.std.proofs.Common.{◌≡◌, ◌+◌, drop}
use Rattle.nt_rules.specs.outbox.Marks.{settings_weight}
use Rattle.nt_outbox.proofs.weight.settings_weight.Given as goal

-- the weight so far, and that of those that follow
abbrev pub invariant-loop-setting : goal.invariant-loop-setting
invariant-loop-setting l =
    l.weight + settings_weight (drop l.setting-index l.settings) ≡ settings_weight l.settings
