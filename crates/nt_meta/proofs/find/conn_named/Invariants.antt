use Rattle.std.proofs.Common.{◌≡◌, ◌++◌, drop, bytes_eq}
use Rattle.std.specs.List.{find}
use Rattle.nt_meta.proofs.find.conn_named.Given as goal

-- the first among those that are left is the first of all
abbrev pub invariant-loop-conn : goal.invariant-loop-conn
invariant-loop-conn l =
    find (λ c. bytes_eq (l.prefix ++ c.name) l.name) (drop l.conn-index l.conns)
    ≡ find (λ c. bytes_eq (l.prefix ++ c.name) l.name) l.conns
