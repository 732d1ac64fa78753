-- What turns leave of a seat.
use Rattle.std.specs.Prelude.{◌≡◌}
use Rattle.nt_lock.specs.Seats.{SeatView}

-- the seat is the same worker's of the same lock
pub record IsSame (s t : SeatView) : Type 0 where
  pub lock : t.lock ≡ s.lock
  pub worker : t.worker ≡ s.worker
  pub opened : t.opened ≡ s.opened
