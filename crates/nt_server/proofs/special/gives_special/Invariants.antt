use Rattle.std.proofs.Common.{◌≡◌, drop}
use Rattle.nt_server.specs.MetaWishes.{give_special}
use Rattle.nt_server.proofs.special.gives_special.Given as goal

-- those passed give none
abbrev pub invariant-loop-i : goal.invariant-loop-i
invariant-loop-i l = give_special (drop l.i l.subs) ≡ give_special l.subs
