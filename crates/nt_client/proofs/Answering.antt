-- The answers of the clock among the messages of a frame.
use Rattle.std.proofs.Common.{◌≡◌, Bool, true, false, cond, List, [], ◌∷◌, map, filter, refl, ap}
use Rattle.nt_frames.specs.declared.message.ValueMsg.{ValueMsg}
use Rattle.nt_control.specs.declared.message.ServerMsg.{ServerMsg}
use Rattle.nt_rules.specs.telling.Told.{Text, Value}
use Rattle.nt_client.specs.Taking.{clock_in, is_clock}

pub clock-texts : (ms : List ServerMsg) → clock_in (map Text ms) ≡ []
clock-texts [] = refl
clock-texts (m ∷ ms) = clock-texts ms

pub clock-values : (vs : List ValueMsg) → clock_in (map Value vs) ≡ filter is_clock vs
clock-values [] = refl
clock-values (v ∷ vs) = by (is_clock v) (clock-values vs)
  where
    by : (b : Bool) → clock_in (map Value vs) ≡ filter is_clock vs
        → cond b (v ∷ clock_in (map Value vs)) (clock_in (map Value vs)) ≡ cond b (v ∷ filter is_clock vs) (filter is_clock vs)
    by true later = ap (λ ws. v ∷ ws) later
    by false later = later
