-- Journals.
use Rattle.std.specs.Prelude.{◌≡◌, ℕ, List, [], ◌∷◌, ◌++◌, Option, Some, None, IfSome, if◌then◌else◌}
use Rattle.nt_rules.specs.declared.act.Entry.{Entry}
use Rattle.nt_hall.specs.Weight.{may_keep}

-- what is told goes on from what was told, with this entry last, or nothing is told
abbrev pub GoesOn : Option (List Entry) → Entry → Option (List Entry) → Type 0
GoesOn before e told = IfSome told (λ list. (first : List Entry) × (before ≡ Some first) × (list ≡ first ++ e ∷ []))

-- what contracts see of a journal that keeps its entries: how many there were, and all of them, the newest last, while
-- they are kept
pub record Keeping : Type 0 where
  pub count : ℕ
  pub told : Option (List Entry)

-- the list, where it may be kept
abbrev pub kept_list : List Entry → Option (List Entry)
kept_list list = if may_keep list then Some list else None

-- the list with one entry more. One that was dropped stays so
abbrev pub kept_with : Option (List Entry) → Entry → Option (List Entry)
kept_with None e = None
kept_with (Some list) e = kept_list (list ++ e ∷ [])
