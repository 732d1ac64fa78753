-- The server's time as a client knows it (NetworkTables 4.1, "Timestamps"): samples, what each says of the offset
-- from the client's time to the server's, and which is kept.
use Rattle.std.specs.Prelude.{◌-◌, ◌/◌, ◌^◌, ◌<◌, ◌≤◌, ℕ, ℤ, pos, ◌-ℤ◌, ◌≤ℤ◌, Bool, false, Option, Some, None, ◌==◌, ◌&&◌, nat_le, if◌then◌else◌}
use Rattle.nt_client.specs.declared.clock.Sample.{Sample}

-- the last value asked, and the sample that is kept
pub record ClockState : Type 0 where
  pub asked : Option ℕ
  pub kept : Option Sample

-- how long it took
abbrev pub took : Sample → ℕ
took s = s.came - s.sent

-- the offset, as if the server had answered halfway
abbrev pub offset_by : Sample → ℤ
offset_by s = (pos s.server -ℤ pos s.sent) -ℤ pos (took s / 2)

-- how far it may be wrong
abbrev pub bound_by : Sample → ℕ
bound_by s = took s - took s / 2

-- an offset at which the server answered no earlier than it was asked, and no later than the answer came
abbrev pub Allows : Sample → ℤ → Type 0
Allows s offset = (pos s.sent ≤ℤ (pos s.server -ℤ offset)) × ((pos s.server -ℤ offset) ≤ℤ pos s.came)

-- both offsets differ by at most the bound
abbrev pub IsWithin : ℤ → ℤ → ℕ → Type 0
IsWithin a b bound = ((a -ℤ b) ≤ℤ pos bound) × ((b -ℤ a) ≤ℤ pos bound)

-- the sample of the lesser bound, the later of two that are equal
abbrev pub better : Sample → Option Sample → Sample
better s None = s
better s (Some k) = if nat_le (bound_by s) (bound_by k) then s else k

-- an answer counts that is one to the last value asked, and comes no earlier
abbrev pub is_asked : ℕ → Option ℕ → Bool
is_asked sent None = false
is_asked sent (Some asked) = asked == sent

abbrev pub counts : Sample → ClockState → Bool
counts s clock = is_asked s.sent clock.asked && nat_le s.sent s.came

abbrev pub answered : Sample → ClockState → ClockState
answered s clock = if counts s clock then record clock { kept = Some (better s clock.kept) } else clock

-- the offset that a sample says, and how far it may be wrong
abbrev pub said_by : Sample → ℤ × ℕ
said_by s = (offset_by s, bound_by s)

-- moments of 63 bits, in order
pub record IsSound (s : Sample) : Type 0 where
  pub order : s.sent ≤ s.came
  pub came_is : s.came < 2 ^ 63
  pub server_is : s.server < 2 ^ 63
