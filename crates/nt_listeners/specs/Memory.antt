-- What the listener in memory and the printer are seen as.
use Rattle.std.specs.Prelude.{◌≡◌, ◌↔◌, ℕ, List, Result, Err, Contains, Option, None}
use Rattle.nt_rules.specs.declared.topic.Change.{Change}
use Rattle.nt_listeners.specs.declared.listener.Refused.{Refused}
use Rattle.nt_listeners.specs.declared.listener.Refused.TheVariants.{Failed}

-- a listener in memory: what it heard, the numbers of the calls that fail, and how many calls there were and how many of
-- them failed
pub record MemHeard : Type 0 where
  pub heard : List Change
  pub fails : List ℕ
  pub calls : ℕ
  pub refusals : ℕ

-- what one tells to have heard that tells nothing
abbrev pub untold : Option (List Change)
untold = None

-- a printer: where its lines go, and how many calls failed
pub record Printing (O : Type 0) : Type 0 where
  pub out : O
  pub refusals : ℕ

-- an answer that is a failure exactly where the call's number is in the list
abbrev pub fails_where_told : List ℕ → ℕ → Result (Unit {0}) Refused → Type 0
fails_where_told fails call result = (result ≡ Err Failed) ↔ Contains fails call
