-- What several tellings make of listeners.
use Rattle.std.specs.Prelude.{◌≡◌, ◌⊎◌, ℕ, List, [], ◌∷◌, Option, Result}
use Rattle.nt_rules.specs.declared.topic.Change.{Change}
use Rattle.nt_listeners.specs.declared.listener.Refused.{Refused}
use Rattle.nt_listeners.specs.declared.row.Row.{Row}
use Rattle.nt_listeners.specs.Matching.{matching, with_changes}
use Rattle.nt_listeners.specs.Telling.{AreTold}

-- over what a listener heard
module _ {L : Type 0} (heard : L → Option (List Change)) where
  -- a listener that heard, of these changes, those that are for it, each once and in their order
  pub record HeardMatching (changes : List Change) (before now : Row L) : Type 0 where
    pub id : now.id ≡ before.id
    pub prefix : now.prefix ≡ before.prefix
    pub told : heard now.listener ≡ with_changes (matching changes before.prefix) (heard before.listener)

  -- listeners of which some are left, in their order, and each of these heard the matching changes
  abbrev pub AreLeft : List Change → List (Row L) → List (Row L) → Type 0
  AreLeft changes [] left = left ≡ []
  AreLeft changes (before ∷ rows) left = AreLeft changes rows left
      ⊎ ((now : Row L) × HeardMatching changes before now
      × (rest : List (Row L)) × AreLeft changes rows rest × (left ≡ now ∷ rest))

-- the changes are told, one after another
abbrev pub AreToldAll : {L : Type 0} → (L → Option (List Change)) → (L → ℕ)
    → (L → Change → Result (Unit {0}) Refused → Type 0) → List Change → List (Row L) → List (Row L) → Type 0
AreToldAll heard refusals may_answer [] rows left = left ≡ rows
AreToldAll {L} heard refusals may_answer (change ∷ changes) rows left = (mid : List (Row L))
    × AreTold heard refusals may_answer change rows mid × AreToldAll heard refusals may_answer changes mid left
