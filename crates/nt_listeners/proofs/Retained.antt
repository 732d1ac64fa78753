-- Rows that a closure retained, where it tells each of them the change.
use Rattle.std.proofs.Common.{◌≡◌, ℕ, Bool, List, [], ◌∷◌, Option, Result, subst}
use Rattle.std.specs.List.Retain.{RetainsInTurn}
use Rattle.nt_rules.specs.declared.topic.Change.{Change}
use Rattle.nt_listeners.specs.declared.listener.Refused.{Refused}
use Rattle.nt_listeners.specs.declared.row.Row.{Row}
use Rattle.nt_listeners.specs.Telling.{IsTold, AreTold}

module _ {L S : Type 0} (heard : L → Option (List Change)) (refusals : L → ℕ)
    (may_answer : L → Change → Result (Unit {0}) Refused → Type 0) (change : Change)
    (call : S → Row L → Bool → S → Row L → Type 0) (f : S)
    (each : (x : Row L) (b : Bool) (g : S) (y : Row L) → call f x b g y
    → IsTold heard refusals may_answer change x b y × (g ≡ f)) where
  pub told-retained : (xs ys : List (Row L)) → RetainsInTurn call f xs ys
      → AreTold heard refusals may_answer change xs ys
  told-retained [] ys h = h
  told-retained (x ∷ xs) ys h =
      let one = each x h.0 h.1 h.2 h.3 in
      (h.0, h.2, one.0, h.4, told-retained xs h.4 (subst (λ s. RetainsInTurn call s xs h.4) one.1 h.5), h.6)
