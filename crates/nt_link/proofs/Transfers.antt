-- What a loop over writes has done.
use Rattle.std.proofs.Common.{◌≡◌, ℕ, ◌≤◌, List, length, take, ◌∙◌, arith}
use Rattle.std.specs.declared.option.Option.{Option}
use Rattle.std.specs.Io.KnownBytes.{Appends}
use Rattle.nt_link.specs.Causes.{Aside, StaysAtEnd}

-- a sink that had `old` and had failed `before` times took the first `at` bytes
pub record Writing (old new : Option (List ℕ)) (before now : ℕ) (aside_before aside_now : Aside) (bytes : List ℕ) (at : ℕ) : Type 0 where
  pub within : at ≤ length bytes
  pub taken : Appends old new (take at bytes)
  pub later : before ≤ now
  pub end : StaysAtEnd before now
  pub aside : aside_now ≡ aside_before

-- two steps of a count that stays at its end
pub StaysAtEnd-trans : (a b c : ℕ) → StaysAtEnd a b → StaysAtEnd b c → a ≤ b → StaysAtEnd a c
StaysAtEnd-trans a b c first second later full = second (omega arith) ∙ first full
