use Rattle.std.proofs.Common.{◌≡◌, drop}
use Rattle.nt_rules.specs.history.Answer.{is_used}
use Rattle.nt_rules.specs.history.State.{given_names}
use Rattle.nt_server.proofs.names.is_used.Given as goal

-- none of those passed has it
abbrev pub invariant-loop-client : goal.invariant-loop-client
invariant-loop-client l =
    is_used (given_names (drop l.client-index l.opens)) l.name ≡ is_used (given_names l.opens) l.name
