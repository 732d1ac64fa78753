-- Members that pass a test.
use Rattle.std.proofs.Common.{◌≡◌, ℕ, List, [], ◌∷◌, Bool, true, false, not, ◌&&◌, Some, filter, cond, string_bytes, Ordering, Less, Equal, Greater, nat_cmp, is_eq, refl, ap}
use Rattle.std.specs.Cmp.Lexicographic.{slice_cmp}
use Rattle.std.specs.Map.{remove_entry}
use Rattle.std.specs.BTreeMap.{is_at}
use Rattle.std.specs.Ordering.{match_ordering}
use Rattle.serde_json.proofs.Views.{Entry}
use Rattle.serde_json.specs.Data.{Data, null, boolean, number, string, array, object, Members, no_members, member, put}
use Rattle.serde_json.specs.View.{view, members_view}
use Rattle.serde_json.specs.Written.{has_float, members_have_float}
use Rattle.nt_topics.specs.Properties.{all_pass, is_object_of, kept, kept_of, members_in, without, changed, changed_by, is_null, is_whole, is_property, is_change}

-- ---- what passes

both : (a b : Bool) → a && b ≡ true → (a ≡ true) × (b ≡ true)
both true b h = (refl, h)
both false b h = absurd (cc)

-- what was kept passes
pub all_pass-kept : (test : Data → Bool) (ms : Members) → all_pass test (kept test ms) ≡ true
all_pass-kept test no_members = refl
all_pass-kept test (member k d ms) = by (test d) refl (all_pass-kept test ms)
  where
    by : (b : Bool) → test d ≡ b → all_pass test (kept test ms) ≡ true
        → all_pass test (cond b (member k d (kept test ms)) (kept test ms)) ≡ true
    by true e rest = rw (e, rest)
    by false e rest = rest

-- where all pass, all are kept
pub kept-all_pass : (test : Data → Bool) (ms : Members) → all_pass test ms ≡ true → kept test ms ≡ ms
kept-all_pass test no_members h = refl
kept-all_pass test (member k d ms) h =
    let parts = both (test d) (all_pass test ms) h in rw (parts.0, kept-all_pass test ms parts.1)

-- where all values are whole, no member holds a float
pub whole : (test : Data → Bool) (says : (d : Data) → test d ≡ true → has_float d ≡ false) (ms : Members)
    → all_pass test ms ≡ true → members_have_float ms ≡ false
whole test says no_members h = refl
whole test says (member k d ms) h =
    let parts = both (test d) (all_pass test ms) h in rw (says d parts.0, whole test says ms parts.1)

not_true : (b : Bool) → not b ≡ true → b ≡ false
not_true true h = absurd (cc)
not_true false h = refl

pub change_is_whole : (d : Data) → is_change d ≡ true → has_float d ≡ false
change_is_whole d h = not_true (has_float d) h

pub property_is_whole : (d : Data) → is_property d ≡ true → has_float d ≡ false
property_is_whole d h = not_true (has_float d) (both (not (is_null d)) (is_whole d) h).1

-- ---- the tree

-- a tree whose members pass says itself again
pub kept_of-is_object_of : (test : Data → Bool) (d : Data) → is_object_of test d ≡ true
    → kept_of test d ≡ Some d
kept_of-is_object_of test null h = absurd (cc)
kept_of-is_object_of test (boolean b) h = absurd (cc)
kept_of-is_object_of test (number n) h = absurd (cc)
kept_of-is_object_of test (string s) h = absurd (cc)
kept_of-is_object_of test (array ds) h = absurd (cc)
kept_of-is_object_of test (object ms) h = ap (λ ks. Some (object ks)) (kept-all_pass test ms h)

-- and holds no float
pub whole_tree : (test : Data → Bool) (says : (d : Data) → test d ≡ true → has_float d ≡ false) (d : Data)
    → is_object_of test d ≡ true → has_float d ≡ false
whole_tree test says null h = absurd (cc)
whole_tree test says (boolean b) h = absurd (cc)
whole_tree test says (number n) h = absurd (cc)
whole_tree test says (string s) h = absurd (cc)
whole_tree test says (array ds) h = absurd (cc)
whole_tree test says (object ms) h = whole test says ms h

-- its members pass
pub all_pass-members_in : (test : Data → Bool) (d : Data) → is_object_of test d ≡ true
    → all_pass test (members_in d) ≡ true
all_pass-members_in test null h = absurd (cc)
all_pass-members_in test (boolean b) h = absurd (cc)
all_pass-members_in test (number n) h = absurd (cc)
all_pass-members_in test (string s) h = absurd (cc)
all_pass-members_in test (array ds) h = absurd (cc)
all_pass-members_in test (object ms) h = h

-- ---- the members of a map

-- the entries of a map whose values pass
pub members_view-filter : (test : Data → Bool) (es : List Entry)
    → members_view (filter (λ e. test (view e.1)) es) ≡ kept test (members_view es)
members_view-filter test [] = refl
members_view-filter test (e ∷ es) = by (test (view e.1)) _ _ (members_view-filter test es)
  where
    by : (b : Bool) (rest : List Entry) (ms : Members) → members_view rest ≡ ms
        → members_view (cond b (e ∷ rest) rest) ≡ cond b (member (string_bytes e.0) (view e.1) ms) ms
    by true rest ms h = ap (member (string_bytes e.0) (view e.1)) h
    by false rest ms h = h

by_order : (o : Ordering) (e : Entry) (es rest : List Entry) (d : Members) → members_view rest ≡ d
    → members_view (cond (is_eq o) es (e ∷ rest))
    ≡ match_ordering o (member (string_bytes e.0) (view e.1) d) (members_view es)
    (member (string_bytes e.0) (view e.1) d)
by_order Less e es rest d h = ap (member (string_bytes e.0) (view e.1)) h
by_order Equal e es rest d h = refl
by_order Greater e es rest d h = ap (member (string_bytes e.0) (view e.1)) h

-- a key that is removed from a map
pub members_view-remove_entry : (name : List ℕ) (es : List Entry)
    → members_view (remove_entry (is_at (λ k. slice_cmp nat_cmp name (string_bytes k))) es)
    ≡ without name (members_view es)
members_view-remove_entry name [] = refl
members_view-remove_entry name (e ∷ es) =
    by_order (slice_cmp nat_cmp name (string_bytes e.0)) e es _ _ (members_view-remove_entry name es)

-- ---- after a change

joined : (a b : Bool) → a ≡ true → b ≡ true → a && b ≡ true
joined a b x y = rw (x, y)

pub all_pass-without : (test : Data → Bool) (k : List ℕ) (ms : Members) → all_pass test ms ≡ true
    → all_pass test (without k ms) ≡ true
all_pass-without test k no_members h = refl
all_pass-without test k (member l d ms) h =
    let parts = both (test d) (all_pass test ms) h in
    by (slice_cmp nat_cmp k l) _ parts.1 (joined _ _ parts.0 (all_pass-without test k ms parts.1))
  where
    by : (o : Ordering) (rest : Members) → all_pass test ms ≡ true → all_pass test (member l d rest) ≡ true
        → all_pass test (match_ordering o (member l d rest) ms (member l d rest)) ≡ true
    by Less rest taken held = held
    by Equal rest taken held = taken
    by Greater rest taken held = held

pub all_pass-put : (test : Data → Bool) (k : List ℕ) (d : Data) (ms : Members) → test d ≡ true
    → all_pass test ms ≡ true
    → all_pass test (put k d ms) ≡ true
all_pass-put test k d no_members fits h = joined _ _ fits refl
all_pass-put test k d (member l e ms) fits h =
    let parts = both (test e) (all_pass test ms) h in
    by (slice_cmp nat_cmp k l) _ (joined _ _ fits h) (joined _ _ fits parts.1)
    (joined _ _ parts.0 (all_pass-put test k d ms fits parts.1))
  where
    by : (o : Ordering) (rest : Members) → all_pass test (member k d (member l e ms)) ≡ true
        → all_pass test (member l d ms) ≡ true → all_pass test (member l e rest) ≡ true
        → all_pass test (match_ordering o (member k d (member l e ms)) (member l d ms)
        (member l e rest)) ≡ true
    by Less rest before here after = before
    by Equal rest before here after = here
    by Greater rest before here after = after

-- properties stay properties after a change
pub all_pass-changed : (k : List ℕ) (d : Data) (ms : Members) → is_change d ≡ true
    → all_pass is_property ms ≡ true
    → all_pass is_property (changed k d ms) ≡ true
all_pass-changed k d ms fits h = by (is_null d) refl
  where
    by : (b : Bool) → is_null d ≡ b → all_pass is_property (cond b (without k ms) (put k d ms)) ≡ true
    by true e = all_pass-without is_property k ms h
    by false e = all_pass-put is_property k d ms (joined _ _ (ap not e) fits) h

-- and after an update
pub all_pass-changed_by : (ms us : Members) → all_pass is_change us ≡ true → all_pass is_property ms ≡ true
    → all_pass is_property (changed_by ms us) ≡ true
all_pass-changed_by ms no_members fits h = h
all_pass-changed_by ms (member k d us) fits h =
    let parts = both (is_change d) (all_pass is_change us) fits in
    all_pass-changed_by (changed k d ms) us parts.1 (all_pass-changed k d ms parts.0 h)
