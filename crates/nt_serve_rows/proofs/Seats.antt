-- Serving a connection leaves the seat the same worker's of the same hall.
--     goes_same       steps, one after another
--     served_same     a whole call
use Rattle.std.proofs.Common.{◌≡◌, ℕ, List, [], ◌∷◌, sym, subst, inl, inr}
use Rattle.nt_topics.specs.declared.version.Version.{Version}
use Rattle.nt_lock.specs.Seats.{SeatView}
use Rattle.nt_lock_rows.specs.Crowds.{IsSame}
use Rattle.nt_serve_rows.proofs.Turns.{same, same_then, turn_same}
use Rattle.nt_serve.specs.declared.served.Served.{Served}
use Rattle.nt_serve.specs.Steps.{Step, acts, looks, fails, receives, skips, sends, Goes, GoesOn, Standing}
use Rattle.nt_serve.specs.Sessions.{Serves}

same-as : (s t : SeatView) → t ≡ s → IsSame s t
same-as s t is = subst (IsSame s) (sym is) (same s)

step-same : (s t : SeatView) (step : Step) → Goes s step t → IsSame s t
step-same s t (acts now act out) g = turn_same s t _ g.turn
step-same s t (looks conn look) g = turn_same s t _ g.turn
step-same s t fails (inl turn) = turn_same s t _ turn
step-same s t fails (inr turn) = turn_same s t _ turn
step-same s t (receives frame) g = same-as s t g
step-same s t (skips n) g = same-as s t g
step-same s t (sends frame) g = same-as s t g

pub goes_same : (s t : SeatView) (steps : List Step) → GoesOn s steps t → IsSame s t
goes_same s t [] g = same-as s t g
goes_same s t (x ∷ steps) (u, first, rest) =
    same_then s u t (step-same s u x first) (goes_same u t steps rest)

pub served_same : (a b : Standing) (name : List ℕ) (version : Version) (served : Served)
    → Serves a b name version served → IsSame a.seat b.seat
served_same a b name version served serves = goes_same a.seat b.seat serves.steps serves.moves.goes
