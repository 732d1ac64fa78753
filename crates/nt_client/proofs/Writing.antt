-- A value that is written over another in a map: it is put at its key.
use Rattle.std.proofs.Common.{◌≡◌, ℤ, List, [], ◌∷◌, Some, None, cond, Ordering, Less, Equal, Greater, refl, sym, ◌∙◌, ap}
use Rattle.std.specs.Ordering.{int_cmp, is_eq, match_ordering}
use Rattle.std.specs.BTreeMap.{insert_entry, is_at}
use Rattle.std.specs.Map.{keys_of, lookup, remove_entry, set_value}
use Rattle.std.specs.List.Sorted.{IsStrictlySortedBy}
use Rattle.std.proofs.lemmas.Cmp.{int_cmp_total, tied_itself}
use Rattle.std.proofs.lemmas.Map.{lookup-none}
use Rattle.std.proofs.lemmas.Map.Entries.{none_below_head}
use Rattle.nt_rules.specs.declared.topic.Timed.{Timed}
use Rattle.nt_client.specs.declared.publisher.Publisher.{Publisher}
use Rattle.nt_client.specs.Calls.{Publishers, publisher_of, with_last, with_publisher}

pub written-at : {X : Type 0} (k : ℤ) (v w : X) (es : List (ℤ × X)) → IsStrictlySortedBy int_cmp (keys_of es)
    → lookup (is_at (int_cmp k)) es ≡ Some v → set_value (is_at (int_cmp k)) es w ≡ insert_entry int_cmp es k w
unfolding IsStrictlySortedBy
written-at k v w [] sorted found = absurd (cc)
written-at {X} k v w (e ∷ es) sorted found =
    by (int_cmp k e.0) refl found (written-at k v w es sorted.1)
  where
    by : (r : Ordering) → int_cmp k e.0 ≡ r → cond (is_eq r) (Some e.1) (lookup (is_at (int_cmp k)) es) ≡ Some v
        → (lookup (is_at (int_cmp k)) es ≡ Some v
        → set_value (is_at (int_cmp k)) es w ≡ insert_entry int_cmp es k w)
        → cond (is_eq r) ((e.0, w) ∷ es) (e ∷ set_value (is_at (int_cmp k)) es w)
        ≡ match_ordering r ((k, w) ∷ e ∷ es) ((e.0, w) ∷ es) (e ∷ insert_entry int_cmp es k w)
    by Less p here later =
        let none : lookup (is_at (int_cmp k)) es ≡ None =
        lookup-none (is_at (int_cmp k)) es (none_below_head int_cmp_total k e es sorted p).1 in
        absurd (cc)
    by Equal p here later = refl
    by Greater p here later = ap (λ xs. e ∷ xs) (later here)

-- a publisher that is written back with its last value
pub wrote-last : (uid : ℤ) (timed : Timed) (p p-2 : Publisher) (ps ps-2 : Publishers)
    → IsStrictlySortedBy int_cmp (keys_of ps) → publisher_of uid ps ≡ Some p
    → p-2 ≡ record p { last = Some timed } → ps-2 ≡ set_value (is_at (int_cmp uid)) ps p-2
    → ps-2 ≡ with_last uid timed ps (publisher_of uid ps)
wrote-last uid timed p p-2 ps ps-2 sorted found last is =
    is
    ∙ written-at uid p p-2 ps sorted found
    ∙ ap (λ q. with_publisher uid q ps) last
    ∙ sym (ap (with_last uid timed ps) found)

-- ---- what was put is taken back

-- a new key is taken out again
pub taken-back : {X : Type 0} (k : ℤ) (v : X) (es : List (ℤ × X)) → lookup (is_at (int_cmp k)) es ≡ None
    → remove_entry (is_at (int_cmp k)) (insert_entry int_cmp es k v) ≡ es
taken-back k v [] none = rw (tied_itself int_cmp_total k) refl
taken-back {X} k v (e ∷ es) none = by (int_cmp k e.0) refl none (taken-back k v es)
  where
    by : (r : Ordering) → int_cmp k e.0 ≡ r → cond (is_eq r) (Some e.1) (lookup (is_at (int_cmp k)) es) ≡ None
        → (lookup (is_at (int_cmp k)) es ≡ None
        → remove_entry (is_at (int_cmp k)) (insert_entry int_cmp es k v) ≡ es)
        → remove_entry (is_at (int_cmp k))
        (match_ordering r ((k, v) ∷ e ∷ es) ((e.0, v) ∷ es) (e ∷ insert_entry int_cmp es k v)) ≡ e ∷ es
    by Less p here later = rw (tied_itself int_cmp_total k) refl
    by Equal p here later = absurd (cc)
    by Greater p here later = rw p (ap (λ xs. e ∷ xs) (later here))

-- a value that was replaced is put again
pub put-back : {X : Type 0} (k : ℤ) (v w : X) (es : List (ℤ × X)) → IsStrictlySortedBy int_cmp (keys_of es)
    → lookup (is_at (int_cmp k)) es ≡ Some w → insert_entry int_cmp (insert_entry int_cmp es k v) k w ≡ es
unfolding IsStrictlySortedBy
put-back k v w [] sorted found = absurd (cc)
put-back {X} k v w (e ∷ es) sorted found = by (int_cmp k e.0) refl found (put-back k v w es sorted.1)
  where
    by : (r : Ordering) → int_cmp k e.0 ≡ r → cond (is_eq r) (Some e.1) (lookup (is_at (int_cmp k)) es) ≡ Some w
        → (lookup (is_at (int_cmp k)) es ≡ Some w → insert_entry int_cmp (insert_entry int_cmp es k v) k w ≡ es)
        → insert_entry int_cmp (match_ordering r ((k, v) ∷ e ∷ es) ((e.0, v) ∷ es) (e ∷ insert_entry int_cmp es k v)) k w
        ≡ e ∷ es
    by Less p here later =
        let none : lookup (is_at (int_cmp k)) es ≡ None =
        lookup-none (is_at (int_cmp k)) es (none_below_head int_cmp_total k e es sorted p).1 in
        absurd (cc)
    by Equal p here later =
        let same : w ≡ e.1 = cc in
        rw p (ap (λ x. (e.0, x) ∷ es) same)
    by Greater p here later = rw p (ap (λ xs. e ∷ xs) (later here))
