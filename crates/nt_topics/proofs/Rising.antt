-- The members of a map have rising keys.
use Rattle.std.proofs.Common.{◌≡◌, List, [], ◌∷◌, Less, string_bytes, string_cmp, ap}
use Rattle.std.specs.List.{AllByRecursion}
use Rattle.std.specs.List.Sorted.{IsStrictlySortedBy}
use Rattle.std.specs.Map.{keys_of}
use Rattle.std.specs.Ordering.{is_lt}
use Rattle.serde_json.proofs.Views.{Entry, view-Object}
use Rattle.serde_json.specs.View.{view, members_view}
use Rattle.serde_json.specs.declared.value.Value.{Object}
use Rattle.nt_topics.specs.Trees.{StandsBefore, Rise, IsOrdered}
use Rattle.nt_topics.proofs.Keys.{Map}

stands-before : (e : Entry) (es : List Entry)
    → AllByRecursion (λ y. string_cmp e.0 y ≡ Less) (keys_of es)
    → StandsBefore (string_bytes e.0) (members_view es)
stands-before e [] h = tt
stands-before e (x ∷ es) h = (ap is_lt h.0, stands-before e es h.1)

rise-sorted : (es : List Entry) → IsStrictlySortedBy string_cmp (keys_of es) → Rise (members_view es)
unfolding IsStrictlySortedBy
rise-sorted [] h = tt
rise-sorted (e ∷ es) h = (stands-before e es h.0, rise-sorted es h.1)

-- the tree of a map whose keys ascend
pub ordered-map : (m : Map) → IsStrictlySortedBy string_cmp (keys_of m.entries) → IsOrdered (view (Object m))
ordered-map m h = rw view-Object (rise-sorted m.entries h)
