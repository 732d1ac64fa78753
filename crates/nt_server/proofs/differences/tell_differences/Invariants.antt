use Rattle.std.proofs.Common.{◌≡◌, drop}
use Rattle.nt_subs.specs.Wishes.{wanted}
use Rattle.nt_rules.specs.outbox.Calls.{reached}
use Rattle.nt_rules.specs.history.State.{noted_differences}
use Rattle.nt_server.proofs.differences.tell_differences.Given as goal

-- the differences that follow do to the outbox what all do to the one at the start
abbrev pub invariant-loop-difference : goal.invariant-loop-difference
invariant-loop-difference l =
    noted_differences l.place (wanted l.subs) (drop l.difference-index l.found) l.outbox
    ≡ noted_differences l.place (wanted l.subs) l.found (reached l.place l.fn.outbox)
