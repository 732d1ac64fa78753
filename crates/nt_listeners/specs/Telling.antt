-- What a telling makes of listeners.
use Rattle.std.specs.Prelude.{◌≡◌, ◌≤◌, ℕ, Bool, true, List, [], ◌∷◌, Option, Result, Ok, Err, MatchBool, cond}
use Rattle.nt_rules.specs.declared.topic.Change.{Change}
use Rattle.nt_link.specs.Causes.{Rose}
use Rattle.nt_listeners.specs.declared.listener.Refused.{Refused}
use Rattle.nt_listeners.specs.declared.listener.Refused.TheVariants.{Failed}
use Rattle.nt_listeners.specs.declared.row.Row.{Row}
use Rattle.nt_listeners.specs.Matching.{is_for, with_change}

-- over what a listener heard, its count of refusals and how it may answer, and the change that is told
module _ {L : Type 0} (heard : L → Option (List Change)) (refusals : L → ℕ)
    (may_answer : L → Change → Result (Unit {0}) Refused → Type 0) (change : Change) where
  -- a listener that heard the change, and is as before but for that
  pub record HasHeard (before now : Row L) : Type 0 where
    pub id : now.id ≡ before.id
    pub prefix : now.prefix ≡ before.prefix
    pub told : heard now.listener ≡ with_change change (heard before.listener)
    pub count : refusals before.listener ≤ refusals now.listener
    pub answer : may_answer before.listener change (Ok tt)

  -- a listener that refused the change, and had failed only where its count rose
  pub record HasRefused (before now : Row L) : Type 0 where
    pub error : Refused
    pub answer : may_answer before.listener change (Err error)
    pub cause : error ≡ Failed → Rose (refusals before.listener) (refusals now.listener)
    pub told : heard now.listener ≡ heard before.listener

  -- one listener: where the change is for it, it heard it and stays, or it refused it and goes; else it stays as it was
  abbrev pub IsTold : Row L → Bool → Row L → Type 0
  IsTold before stays now = MatchBool (is_for before.prefix change)
      (MatchBool stays (HasHeard before now) (HasRefused before now))
      ((stays ≡ true) × (now ≡ before))

  -- all of them, one after another, of which those are left that stay
  abbrev pub AreTold : List (Row L) → List (Row L) → Type 0
  AreTold [] left = left ≡ []
  AreTold (before ∷ rows) left = (stays : Bool) × (now : Row L) × IsTold before stays now
      × (rest : List (Row L)) × AreTold rows rest × (left ≡ cond stays (now ∷ rest) rest)
