use Rattle.std.proofs.Common.{◌≡◌, ◌+◌, ◌-◌, ◌≤◌}
use Rattle.std.specs.Prelude.{vec_len, vec_capacity}
use Rattle.nt_lock.specs.Seats.{others}
use Rattle.nt_lock.specs.Passes.{first_pass}
use Rattle.nt_lock.proofs.lock.Lock+L.seat_all.Given as goal

abbrev pub invariant-loop-made : goal.invariant-loop-made
invariant-loop-made g l =
    let lock = l.self.table.shared.table_id in
    let o = l.fn.first.me.0.origin in
    (l.first.table_id ≡ lock) × (l.first.me ≡ first_pass o l.made) × (1 ≤ l.made) × (l.made ≤ l.workers)
    × (l.seats.items ≡ others lock o 2 (l.made - 1)) × (vec_len l.seats + 1 ≡ l.made)
    × (vec_capacity l.seats ≡ vec_capacity l.fn.seats)

abbrev pub decreases-loop-made : goal.decreases-loop-made
decreases-loop-made g l = l.workers - l.made
