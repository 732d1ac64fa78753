use Rattle.std.proofs.Common.{◌≡◌, ℕ, List, string_cmp}
use Rattle.std.specs.List.Sorted.{IsStrictlySortedBy}
use Rattle.std.specs.Map.{keys_of}
use Rattle.serde_json.specs.Find.{get_member}
use Rattle.serde_json.specs.View.{members_view}
use Rattle.nt_topics.specs.Properties.{changed_by, decided}
use Rattle.nt_topics.proofs.properties.change_members.Given as goal

-- the changes that are left give, of the members so far, what all of them give; so too at each key,
-- and each key that is left stands once
abbrev pub invariant-loop-key : goal.invariant-loop-key
invariant-loop-key l =
    (changed_by (members_view l.members.entries) (members_view l.key-iterator)
    ≡ changed_by (members_view l.fn.members.entries) (members_view l.changes.entries))
    × ((k : List ℕ) → decided (get_member k (members_view l.key-iterator))
    (get_member k (members_view l.members.entries))
    ≡ decided (get_member k (members_view l.changes.entries))
    (get_member k (members_view l.fn.members.entries)))
    × IsStrictlySortedBy string_cmp (keys_of l.key-iterator)
