use Rattle.std.proofs.Common.{◌≡◌, ◌++◌, map, drop}
use Rattle.nt_rules.specs.meta.Meta.{client_pub}
use Rattle.nt_meta.proofs.meta.add_client_pubs.Given as goal

-- those that were added and those that follow are all
abbrev pub invariant-loop-conn : goal.invariant-loop-conn
invariant-loop-conn l =
    l.all ++ map client_pub (drop l.conn-index l.roster.conns) ≡ l.fn.all ++ map client_pub l.roster.conns
