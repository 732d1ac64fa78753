-- What each key has after changes.
use Rattle.std.proofs.Common.{◌≡◌, ℕ, List, [], ◌∷◌, Bool, true, false, Option, Some, None, option_map, BTreeMap, String, Global, Ordering, Less, bytes_eq, string_bytes, string_cmp, nat_cmp, cond, true≢false, refl, sym, ap, ◌∙◌}
use Rattle.std.proofs.lemmas.Map.Text.{btree_map_updates_text}
use Rattle.std.proofs.lemmas.Slice.Eq.{bytes_eq-Decides}
use Rattle.std.specs.BTreeMap.{UpdatesBy, get_by_text}
use Rattle.std.specs.Cmp.Lexicographic.{slice_cmp}
use Rattle.std.specs.List.{AllByRecursion}
use Rattle.std.specs.List.Sorted.{IsStrictlySortedBy}
use Rattle.std.specs.Map.{keys_of}
use Rattle.serde_json.proofs.Views.{Entry, view-lookup, member_here, member_later, get_member-put, get_member-put_other}
use Rattle.serde_json.specs.Data.{Data, null, boolean, number, string, array, object, Members, put}
use Rattle.serde_json.specs.Find.{get, get_member}
use Rattle.serde_json.specs.View.{view, members_view}
use Rattle.serde_json.specs.declared.value.Value.{Value}
use Rattle.nt_topics.specs.Properties.{is_null, members_in, decided, decided_by}

abbrev pub Map : Type 0
Map = BTreeMap (String Global) Value

-- after a key was removed from a map
pub get_member-removed : (key k : List ℕ) (m n : Map)
    → UpdatesBy string_cmp (λ s. slice_cmp nat_cmp key (string_bytes s)) m n None
    → get_member k (members_view n.entries)
    ≡ cond (bytes_eq key k) None (get_member k (members_view m.entries))
get_member-removed key k m n updates =
    sym (view-lookup k n.entries)
    ∙ ap (option_map view) (btree_map_updates_text key m n None updates k) ∙ by (bytes_eq key k)
  where
    by : (b : Bool) → option_map view (cond b None (get_by_text m k))
        ≡ cond b None (get_member k (members_view m.entries))
    by true = refl
    by false = view-lookup k m.entries

-- after a value was put at a key
pub get_member-put_at : (key k : List ℕ) (d : Data) (ms : Members)
    → get_member k (put key d ms) ≡ cond (bytes_eq key k) (Some d) (get_member k ms)
get_member-put_at key k d ms = by (bytes_eq key k) refl
  where
    by : (b : Bool) → bytes_eq key k ≡ b → get_member k (put key d ms) ≡ cond b (Some d) (get_member k ms)
    by true e =
        let same : key ≡ k = (bytes_eq-Decides key k).0 e in
        ap (λ q. get_member q (put key d ms)) (sym same) ∙ get_member-put key d ms
    by false e =
        get_member-put_other k key d ms
        (λ h. absurd (true≢false (sym ((bytes_eq-Decides key k).1 (sym h)) ∙ e)))

-- null deletes
pub decided-null : (key k : List ℕ) (d : Data) (had : Option Data) → is_null d ≡ true
    → cond (bytes_eq key k) None had ≡ decided_by key d k had
decided-null key k d had e = rw e

-- all else is put
pub decided-put : (key k : List ℕ) (d : Data) (had : Option Data) → is_null d ≡ false
    → cond (bytes_eq key k) (Some d) had ≡ decided_by key d k had
decided-put key k d had e = rw e

-- a key above which the others stand isn't among them
get_member-above : (e : Entry) (es : List Entry)
    → AllByRecursion (λ y. string_cmp e.0 y ≡ Less) (keys_of es)
    → get_member (string_bytes e.0) (members_view es) ≡ None
get_member-above e [] h = refl
get_member-above e (x ∷ es) h =
    let below : slice_cmp nat_cmp (string_bytes e.0) (string_bytes x.0) ≡ Less = h.0 in
    rw below (get_member-above e es h.1)

-- each key stands once: a change of a key is the only one of that key
pub decided-step : (e : Entry) (es : List Entry) (k : List ℕ) (had : Option Data)
    → IsStrictlySortedBy string_cmp (keys_of (e ∷ es))
    → decided (get_member k (members_view es)) (decided_by (string_bytes e.0) (view e.1) k had)
    ≡ decided (get_member k (members_view (e ∷ es))) had
unfolding IsStrictlySortedBy
decided-step e es k had sorted = by (bytes_eq (string_bytes e.0) k) refl
  where
    by : (b : Bool) → bytes_eq (string_bytes e.0) k ≡ b
        → decided (get_member k (members_view es)) (cond b (decided (Some (view e.1)) had) had)
        ≡ decided (get_member k (members_view (e ∷ es))) had
    by true is =
        let same : k ≡ string_bytes e.0 = sym ((bytes_eq-Decides (string_bytes e.0) k).0 is) in
        let alone : get_member k (members_view es) ≡ None =
        ap (λ q. get_member q (members_view es)) same ∙ get_member-above e es sorted.0 in
        ap (λ o. decided o (decided (Some (view e.1)) had)) alone
        ∙ sym (ap (λ o. decided o had) (member_here k e es same))
    by false is =
        let apart = λ (h : k ≡ string_bytes e.0). true≢false
        (sym ((bytes_eq-Decides (string_bytes e.0) k).1 (sym h)) ∙ is) in
        ap (λ o. decided o had) (sym (member_later k e es apart))

-- the keys after the first ascend too
pub sorted-tail : (e : Entry) (es : List Entry) → IsStrictlySortedBy string_cmp (keys_of (e ∷ es))
    → IsStrictlySortedBy string_cmp (keys_of es)
unfolding IsStrictlySortedBy
sorted-tail e es sorted = sorted.1

-- a member of a tree
pub get-members_in : (k : List ℕ) (d : Data) → get k d ≡ get_member k (members_in d)
get-members_in k null = refl
get-members_in k (boolean b) = refl
get-members_in k (number n) = refl
get-members_in k (string s) = refl
get-members_in k (array ds) = refl
get-members_in k (object ms) = refl
