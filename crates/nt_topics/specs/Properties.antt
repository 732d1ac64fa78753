-- The properties of a topic and the updates of them (NetworkTables 4.1, "Properties", "Publish
-- Request Message" and "Set Properties Message").
use Rattle.std.specs.Prelude.{ℕ, List, Bool, true, false, not, ◌&&◌, Option, Some, None, option_map, option_and_then, unwrap_or, is_some, codes, bytes_eq, if◌then◌else◌}
use Rattle.std.specs.Ordering.{nat_cmp, match_ordering}
use Rattle.std.specs.Cmp.Lexicographic.{slice_cmp}
use Rattle.serde_json.specs.Data.{Data, object, Members, no_members, member, put}
use Rattle.serde_json.specs.Find.{as_null, as_bool, as_object, get}
use Rattle.serde_json.specs.Written.{has_float}

-- ---- what of an object is taken

abbrev pub is_null : Data → Bool
is_null d = is_some (as_null d)

-- numbers in properties are whole and have 64 bits; any other stands in the tree as a float
abbrev pub is_whole : Data → Bool
is_whole d = not (has_float d)

-- a value that a property may have
abbrev pub is_property : Data → Bool
is_property d = not (is_null d) && is_whole d

-- a value that an update may give to a key: a property's, or null, which deletes
abbrev pub is_change : Data → Bool
is_change d = is_whole d

-- the members whose value passes the test
abbrev pub kept : (Data → Bool) → Members → Members
kept test no_members = no_members
kept test (member k d ms) = if test d then member k d (kept test ms) else kept test ms

-- the tree with the members that pass, where it is an object
abbrev pub kept_of : (Data → Bool) → Data → Option Data
kept_of test d = option_map (λ ms. object (kept test ms)) (as_object d)

-- the properties that a tree says
abbrev pub properties_of : Data → Option Data
properties_of d = kept_of is_property d

-- the update that a tree says
abbrev pub update_of : Data → Option Data
update_of d = kept_of is_change d

-- ---- what properties and updates are

abbrev pub all_pass : (Data → Bool) → Members → Bool
all_pass test no_members = true
all_pass test (member k d ms) = test d && all_pass test ms

-- an object whose members all pass
abbrev pub is_object_of : (Data → Bool) → Data → Bool
is_object_of test d = unwrap_or (option_map (all_pass test) (as_object d)) false

-- an object of properties
abbrev pub is_properties : Data → Bool
is_properties d = is_object_of is_property d

-- an object of changes
abbrev pub is_update : Data → Bool
is_update d = is_object_of is_change d

-- ---- an update, key by key

-- the members without the key
abbrev pub without : List ℕ → Members → Members
without k no_members = no_members
without k (member l d ms) =
    match_ordering (slice_cmp nat_cmp k l) (member l d (without k ms)) ms (member l d (without k ms))

-- the members after one change: null deletes the key, and all else is put there
abbrev pub changed : List ℕ → Data → Members → Members
changed k d ms = if is_null d then without k ms else put k d ms

-- the members after each change
abbrev pub changed_by : Members → Members → Members
changed_by ms no_members = ms
changed_by ms (member k d us) = changed_by (changed k d ms) us

abbrev pub members_in : Data → Members
members_in d = unwrap_or (as_object d) no_members

-- the properties after an update
abbrev pub updated : Data → Data → Data
updated properties update = object (changed_by (members_in properties) (members_in update))

-- what a key has after an update: what the update gives it, where null is nothing, and else what it
-- had
abbrev pub decided : Option Data → Option Data → Option Data
decided None had = had
decided (Some d) had = if is_null d then None else Some d

-- after one change: the change's key is decided, and any other key has what it had
abbrev pub decided_by : List ℕ → Data → List ℕ → Option Data → Option Data
decided_by key d k had = if bytes_eq key k then decided (Some d) had else had

-- ---- flags

-- the flag's member where it is a truth value, and all else the default
abbrev pub flag : List ℕ → Bool → Data → Bool
flag name default properties = unwrap_or (option_and_then as_bool (get name properties)) default

abbrev pub is_persistent : Data → Bool
is_persistent properties = flag (codes "persistent") false properties

abbrev pub is_retained : Data → Bool
is_retained properties = flag (codes "retained") false properties

abbrev pub is_cached : Data → Bool
is_cached properties = flag (codes "cached") true properties
