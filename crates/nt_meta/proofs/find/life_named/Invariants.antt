use Rattle.std.proofs.Common.{◌≡◌, ◌++◌, drop, bytes_eq}
use Rattle.std.specs.List.{find}
use Rattle.nt_meta.proofs.find.life_named.Given as goal

-- the first among those that are left is the first of all
abbrev pub invariant-loop-life : goal.invariant-loop-life
invariant-loop-life l =
    find (λ t. bytes_eq (l.prefix ++ t.name) l.name) (drop l.life-index l.lives)
    ≡ find (λ t. bytes_eq (l.prefix ++ t.name) l.name) l.lives
