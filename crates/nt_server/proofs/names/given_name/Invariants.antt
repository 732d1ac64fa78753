use Rattle.std.proofs.Common.{◌≡◌, drop}
use Rattle.nt_rules.specs.history.Answer.{free_name, given_name}
use Rattle.nt_rules.specs.history.State.{given_names}
use Rattle.nt_server.proofs.names.given_name.Given as goal

-- none of the names before this one is free
abbrev pub invariant-loop-number : goal.invariant-loop-number
invariant-loop-number l =
    free_name (given_names l.opens) (given_names (drop l.number l.opens)) l.number l.name
    ≡ given_name (given_names l.opens) l.name
