use Rattle.std.proofs.Common.{◌≡◌, drop}
use Rattle.std.specs.List.{list_any}
use Rattle.nt_subs.specs.Wishes.{is_meant, is_matched}
use Rattle.nt_subs.proofs.sub.Sub.is_matched.Given as goal

-- one of the names that are left means the topic exactly where one of all does
abbrev pub invariant-loop-given : goal.invariant-loop-given
invariant-loop-given l =
    list_any (λ given. is_meant l.self.options.prefix given l.name) (drop l.given-index l.self.names)
    ≡ is_matched l.self l.name
