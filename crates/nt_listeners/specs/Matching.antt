-- Which changes a listener hears of.
use Rattle.std.specs.Prelude.{ℕ, Bool, List, [], ◌∷◌, ◌++◌, Option, option_map, filter, nat_eq}
use Rattle.std.specs.List.{starts_with}
use Rattle.nt_rules.specs.declared.topic.Change.{Change}
use Rattle.nt_rules.specs.declared.topic.Change.TheVariants.{Started, Changed, Props, Ended}

-- the name of the topic that changes
abbrev pub name_of : Change → List ℕ
name_of (Started id name typ props) = name
name_of (Changed id name time value) = name
name_of (Props id name update) = name
name_of (Ended id name) = name

-- a change whose name begins with the prefix
abbrev pub is_for : List ℕ → Change → Bool
is_for prefix change = starts_with nat_eq (name_of change) prefix

-- those of a list
abbrev pub matching : List Change → List ℕ → List Change
matching changes prefix = filter (is_for prefix) changes

-- what was heard, where that is told, with one more change
abbrev pub with_change : Change → Option (List Change) → Option (List Change)
with_change change heard = option_map (λ list. list ++ change ∷ []) heard

-- and with these
abbrev pub with_changes : List Change → Option (List Change) → Option (List Change)
with_changes changes heard = option_map (λ list. list ++ changes) heard
