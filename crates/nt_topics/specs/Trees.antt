-- Trees as JSON text gives them: an object has each key once, in order.
use Rattle.std.specs.Prelude.{◌≡◌, ℕ, true, List}
use Rattle.std.specs.Ordering.{nat_cmp, is_lt}
use Rattle.std.specs.Cmp.Lexicographic.{slice_cmp}
use Rattle.serde_json.specs.Data.{Data, Members, no_members, member}
use Rattle.nt_topics.specs.Properties.{members_in}

-- a key stands before each of these members
abbrev pub StandsBefore : List ℕ → Members → Type 0
StandsBefore k no_members = Unit {0}
StandsBefore k (member l d ms) = (is_lt (slice_cmp nat_cmp k l) ≡ true) × StandsBefore k ms

-- the keys rise
abbrev pub Rise : Members → Type 0
Rise no_members = Unit {0}
Rise (member k d ms) = StandsBefore k ms × Rise ms

-- the members of a tree have rising keys
abbrev pub IsOrdered : Data → Type 0
IsOrdered d = Rise (members_in d)
