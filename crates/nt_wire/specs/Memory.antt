-- What the memory forms are seen as.
use Rattle.std.specs.Prelude.{ℕ, ◌-◌, ◌^◌, min, List, [], ◌∷◌}
use Rattle.nt_link.specs.declared.frame.Frame.{Frame}

-- A link in memory: the frames that are still to come, that came and that were sent; the numbers, from 0, of the calls
-- of either kind that fail, and of those at which nothing comes; and how many calls there were of either kind, how many
-- failed, and how often nothing came.
pub record MemFrames : Type 0 where
  pub coming : List Frame
  pub received : List Frame
  pub sent : List Frame
  pub failing_recvs : List ℕ
  pub failing_sends : List ℕ
  pub quiet_recvs : List ℕ
  pub recvs : ℕ
  pub sends : ℕ
  pub faults : ℕ
  pub quiets : ℕ

-- a clock in memory: the moments that it is still to say, and the one that it said last
pub record MemMoments : Type 0 where
  pub left : List ℕ
  pub last : ℕ

-- the moment that it says: the next, up to 2^63 - 1, or the last one again
abbrev pub next_moment : List ℕ → ℕ → ℕ
next_moment [] last = last
next_moment (moment ∷ moments) last = min moment (2 ^ 63 - 1)

abbrev pub moments_left : List ℕ → List ℕ
moments_left [] = []
moments_left (moment ∷ moments) = moments
