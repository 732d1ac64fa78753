-- Topics that are saved: which a server may begin with, and which it saves.
use Rattle.std.specs.Prelude.{◌≡◌, ◌≤◌, Bool, true, false, List, [], ◌∷◌, option_map, map, filter, length, bytes_eq, IfSome}
use Rattle.std.specs.List.{list_any, AllByRecursion}
use Rattle.std.specs.List.Sorted.{IsPermutation, IsSortedBy}
use Rattle.std.specs.Ordering.{is_lt, nat_cmp}
use Rattle.std.specs.Cmp.Lexicographic.{slice_cmp}
use Rattle.serde_json.specs.Written.{compact_text}
use Rattle.nt_values.specs.declared.value.Value.{Value}
use Rattle.nt_values.specs.Types.{size_of}
use Rattle.nt_topics.specs.Names.{is_special}
use Rattle.nt_topics.specs.Properties.{is_persistent, is_cached}
use Rattle.nt_rules.specs.Limits.{most_topics, most_properties, most_value}
use Rattle.nt_rules.specs.declared.topic.Topic.{Topic}
use Rattle.nt_rules.specs.declared.topic.Saved.{Saved}
use Rattle.nt_rules.specs.topics.Topics.{is_saved_fit}

-- ---- which a server may begin with

-- no name stands twice
abbrev pub HasDistinctNames : List Saved → Type 0
HasDistinctNames [] = Unit {0}
HasDistinctNames (s ∷ saved) = (list_any (λ r. bytes_eq r.name s.name) saved ≡ false) × HasDistinctNames saved

-- its name isn't special, its value is of its type and has a size of at most 131,072, it has one only where it is
-- cached, and the compact text of its properties has at most 65,536 bytes
pub record IsRestorable (s : Saved) : Type 0 where
  pub plain : is_special s.name ≡ false
  pub fits : is_saved_fit s.typ s.value ≡ true
  pub small : IfSome s.value (λ (v : Value). size_of v ≤ most_value)
  pub held : IfSome s.value (λ (v : Value). is_cached s.props ≡ true)
  pub within : length (compact_text s.props) ≤ most_properties

-- at most 16,384 topics with different names, each of which can be restored
pub record IsSavedSet (saved : List Saved) : Type 0 where
  pub few : length saved ≤ most_topics
  pub names : HasDistinctNames saved
  pub each : AllByRecursion IsRestorable saved

-- ---- which it saves

abbrev pub saved_topic : Topic → Saved
saved_topic t =
    record { name = t.name; typ = t.typ; props = t.props; value = option_map (λ v. v.value) t.value }

-- the persistent topics, by rising id
abbrev pub persistent_ones : List Topic → List Saved
persistent_ones topics = map saved_topic (filter (λ t. is_persistent t.props) topics)

-- one stands before another by the bytes of its name
abbrev pub is_before : Saved → Saved → Bool
is_before a b = is_lt (slice_cmp nat_cmp a.name b.name)

-- the persistent topics, in the order of their names
pub record AreSaved (topics : List Topic) (saved : List Saved) : Type 0 where
  pub same : IsPermutation (persistent_ones topics) saved
  pub by_name : IsSortedBy is_before saved
