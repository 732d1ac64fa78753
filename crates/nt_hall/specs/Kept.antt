-- What the fields of a journal say.
use Rattle.std.specs.Prelude.{◌≡◌, ℕ, ◌≤◌, List, length, Option, Some, None, Vec, IfSome, sum_by}
use Rattle.nt_rules.specs.declared.act.Entry.{Entry}
use Rattle.nt_hall.specs.Weight.{entry_weight, most_entries, most_weight}

abbrev pub items_of : {Y : Type 0} → Option (Vec Entry Y) → Option (List Entry)
items_of None = None
items_of (Some entries) = Some entries.items

-- these entries are kept, so many that weigh so much together
pub record AreKept (count weight : ℕ) (list : List Entry) : Type 0 where
  pub count_is : count ≡ length list
  pub weight_is : weight ≡ sum_by entry_weight list
  pub few : count ≤ most_entries
  pub light : weight ≤ most_weight

abbrev pub IsKept : Option (List Entry) → ℕ → ℕ → Type 0
IsKept told count weight = IfSome told (AreKept count weight)
