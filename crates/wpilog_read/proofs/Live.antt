-- Which entries are live: each from its Start to its Finish.
use Rattle.std.proofs.Common.{◌≡◌, ◌≢◌, ℕ, ◌+◌, Bool, true, false, cond, List, [], ◌∷◌, length, Option, None, Some, Ordering, Less, Equal, Greater, refl, sym, ap, subst, ◌∙◌, eqb}
use Rattle.std.specs.Prelude.{is_some}
use Rattle.std.specs.Cmp.{unsigned_tied}
use Rattle.std.specs.Ordering.{is_eq, nat_cmp}
use Rattle.std.specs.Map.{lookup, remove_entry}
use Rattle.std.specs.BTreeMap.{insert_entry, is_at}
use Rattle.std.proofs.lemmas.Bool.{eqb-true, eqb-false, eq-eqb, ne_eqb}
use Rattle.wpilog_write.specs.declared.item.LogItem.{LogItem}
use Rattle.wpilog_write.specs.declared.item.LogItem.TheVariants.{Start, Value, SetMeta, Finish}
use Rattle.wpilog_write.specs.Log.{Entries, type_of, live_after, MayCome}
use Rattle.wpilog_read.specs.declared.item_at.ItemAt.{ItemAt}
use Rattle.wpilog_read.specs.Meaning.{AreItemsAt, IsLog}

-- the order of two ids says whether they are one
cmp-equal : (id other : ℕ) → nat_cmp id other ≡ Equal → id ≡ other
cmp-equal id other e = eqb-true id other (sym (unsigned_tied id other) ∙ ap is_eq e)

-- nor where the first is the greater
cmp-greater : (id other : ℕ) → nat_cmp id other ≡ Greater → id ≢ other
cmp-greater id other e = eqb-false id other (sym (unsigned_tied id other) ∙ ap is_eq e)

module _ {X : Type 0} where
  -- what is kept for this id
  abbrev at : List (ℕ × X) → ℕ → Option X
  at entries id = lookup (is_at (nat_cmp id)) entries

  -- no value
  abbrev nothing : Option X
  nothing = None

  -- the first entry's, or what those after it keep
  at-first : (e : ℕ × X) (es : List (ℕ × X)) (id : ℕ) → at (e ∷ es) id ≡ cond (eqb id e.0) (Some e.1) (at es id)
  at-first e es id = ap (λ (test : Bool). cond test (Some e.1) (at es id)) (unsigned_tied id e.0)

  -- of the first entry's id
  at-same : (e : ℕ × X) (es : List (ℕ × X)) (id : ℕ) → id ≡ e.0 → at (e ∷ es) id ≡ Some e.1
  at-same e es id same = at-first e es id ∙ ap (λ (test : Bool). cond test (Some e.1) (at es id)) (eq-eqb id e.0 same)

  -- of any other id
  at-other : (e : ℕ × X) (es : List (ℕ × X)) (id : ℕ) → id ≢ e.0 → at (e ∷ es) id ≡ at es id
  at-other e es id other = at-first e es id ∙ ap (λ (test : Bool). cond test (Some e.1) (at es id))
      (ne_eqb id e.0 other)

  -- a change of what is kept for an id, as it is seen after an entry of another id
  behind-first : (e : ℕ × X) (es changed : List (ℕ × X)) (id other : ℕ) (found : Option X) → id ≢ e.0
      → at changed other ≡ cond (eqb other id) found (at es other)
      → at (e ∷ changed) other ≡ cond (eqb other id) found (at (e ∷ es) other)
  behind-first e es changed id other found differs behind = at-first e changed other
      ∙ ap (λ (kept : Option X). cond (eqb other e.0) (Some e.1) kept) behind ∙ by_test (eqb other id) refl where
        by_test : (test : Bool) → eqb other id ≡ test → cond (eqb other e.0) (Some e.1) (cond test found (at es other))
            ≡ cond test found (at (e ∷ es) other)
        by_test true same = ap (λ (first : Bool). cond first (Some e.1) found)
            (ne_eqb other e.0 (λ equal. differs (sym (eqb-true other id same) ∙ equal)))
        by_test false apart = sym (at-first e es other)

  -- ---- a new entry

  -- a new entry is kept, and each other as it was
  abbrev Inserted : List (ℕ × X) → ℕ → X → ℕ → Type 0
  Inserted entries id value other = at (insert_entry nat_cmp entries id value) other
      ≡ cond (eqb other id) (Some value) (at entries other)

  -- the same by the order of the new id and the first
  inserted-by : (order : Ordering) (e : ℕ × X) (es : List (ℕ × X)) (id : ℕ) (value : X) (other : ℕ)
      → nat_cmp id e.0 ≡ order → Inserted es id value other → Inserted (e ∷ es) id value other
  inserted-by Less e es id value other is behind = rw is (at-first (id, value) (e ∷ es) other)
  inserted-by Equal e es id value other is behind = rw (is, cmp-equal id e.0 is)
      (at-first (e.0, value) es other ∙ by_test (eqb other e.0) refl) where
        by_test : (test : Bool) → eqb other e.0 ≡ test → cond test (Some value) (at es other)
            ≡ cond test (Some value) (at (e ∷ es) other)
        by_test true same = refl
        by_test false apart = sym (at-other e es other (eqb-false other e.0 apart))
  inserted-by Greater e es id value other is behind = rw is (behind-first e es (insert_entry nat_cmp es id value) id
      other (Some value) (cmp-greater id e.0 is) behind)

  -- the same for all entries
  pub at-inserted : (entries : List (ℕ × X)) (id : ℕ) (value : X) (other : ℕ) → Inserted entries id value other
  at-inserted [] id value other = at-first (id, value) [] other
  at-inserted (e ∷ es) id value other = inserted-by (nat_cmp id e.0) e es id value other refl
      (at-inserted es id value other)

  -- ---- an entry that ends

  -- nothing, whatever the test says
  either-none : (test : Bool) → cond test nothing nothing ≡ nothing
  either-none true = refl
  either-none false = refl

  -- each id stands once
  abbrev AreOnce : List (ℕ × X) → Type 0
  AreOnce [] = Unit {0}
  AreOnce (e ∷ es) = (at es e.0 ≡ None) × AreOnce es

  -- an entry that ended is not kept, and each other is as it was
  abbrev Removed : List (ℕ × X) → ℕ → ℕ → Type 0
  Removed entries id other = at (remove_entry (is_at (nat_cmp id)) entries) other
      ≡ cond (eqb other id) None (at entries other)

  -- the same by whether the first entry is the one that ended
  removed-by : (test : Bool) (e : ℕ × X) (es : List (ℕ × X)) (id other : ℕ) → is_at (nat_cmp id) e.0 ≡ test
      → at es e.0 ≡ None → Removed es id other → Removed (e ∷ es) id other
  removed-by true e es id other is once behind = rw is (by_test (eqb other id) refl) where
    same : id ≡ e.0
    same = eqb-true id e.0 (sym (unsigned_tied id e.0) ∙ is)

    by_test : (test : Bool) → eqb other id ≡ test → at es other ≡ cond test None (at (e ∷ es) other)
    by_test true equal = ap (at es) (eqb-true other id equal ∙ same) ∙ once
    by_test false apart = sym (at-other e es other (λ equal. eqb-false other id apart (equal ∙ sym same)))
  removed-by false e es id other is once behind =
      rw is (behind-first e es (remove_entry (is_at (nat_cmp id)) es) id other None
      (eqb-false id e.0 (sym (unsigned_tied id e.0) ∙ is)) behind)

  -- the same for all entries, if each id stands once
  at-removed : (entries : List (ℕ × X)) (id other : ℕ) → AreOnce entries → Removed entries id other
  at-removed [] id other once = sym (either-none (eqb other id))
  at-removed (e ∷ es) id other once = removed-by (is_at (nat_cmp id) e.0) e es id other refl once.0
      (at-removed es id other once.1)

  -- ---- each id stands once, as entries come and end

  -- an id that is not kept is not kept after the first entry
  behind-new : (e : ℕ × X) (es : List (ℕ × X)) (id : ℕ) → at (e ∷ es) id ≡ None → at es id ≡ None
  behind-new e es id new = by_test (eqb id e.0) (sym (at-first e es id) ∙ new) where
    by_test : (test : Bool) → cond test (Some e.1) (at es id) ≡ None → at es id ≡ None
    by_test true kept = absurd cc
    by_test false none = none

  -- a new id stands once, by its order to the first
  once-by : (order : Ordering) (e : ℕ × X) (es : List (ℕ × X)) (id : ℕ) (value : X) → nat_cmp id e.0 ≡ order
      → at (e ∷ es) id ≡ None → AreOnce (e ∷ es) → AreOnce (insert_entry nat_cmp es id value)
      → AreOnce (insert_entry nat_cmp (e ∷ es) id value)
  once-by Less e es id value is new once behind = rw is (new, once)
  once-by Equal e es id value is new once behind = let kept : Some e.1 ≡ None =
      sym (at-same e es id (cmp-equal id e.0 is)) ∙ new in absurd cc
  once-by Greater e es id value is new once behind =
      let apart : eqb e.0 id ≡ false = ne_eqb e.0 id (λ equal. cmp-greater id e.0 is (sym equal)) in
      rw is (
        at-inserted es id value e.0 ∙ ap (λ (test : Bool). cond test (Some value) (at es e.0)) apart
            ∙ once.0,
        behind,
      )

  -- a new id stands once
  once-inserted : (entries : List (ℕ × X)) (id : ℕ) (value : X) → at entries id ≡ None → AreOnce entries
      → AreOnce (insert_entry nat_cmp entries id value)
  once-inserted [] id value new once = (refl, tt)
  once-inserted (e ∷ es) id value new once = once-by (nat_cmp id e.0) e es id value refl new once
      (once-inserted es id value (behind-new e es id new) once.1)

  -- and so after the first entry
  once-left : (test : Bool) (e : ℕ × X) (es : List (ℕ × X)) (id : ℕ) → AreOnce (e ∷ es)
      → AreOnce (remove_entry (is_at (nat_cmp id)) es) → AreOnce
      (cond test es (e ∷ remove_entry (is_at (nat_cmp id)) es))
  once-left true e es id once behind = once.1
  once-left false e es id once behind = (
    at-removed es id e.0 once.1 ∙ ap (cond (eqb e.0 id) nothing) once.0
        ∙ either-none (eqb e.0 id),
    behind,
  )

  -- an entry that ended leaves the others once
  once-removed : (entries : List (ℕ × X)) (id : ℕ) → AreOnce entries
      → AreOnce (remove_entry (is_at (nat_cmp id)) entries)
  once-removed [] id once = tt
  once-removed (e ∷ es) id once = once-left (is_at (nat_cmp id) e.0) e es id once (once-removed es id once.1)

  -- what is not live has no type
  not-kept : (kept : Option X) → is_some kept ≡ false → kept ≡ None
  not-kept None e = refl
  not-kept (Some x) e = absurd cc

-- ---- the entries that are live in a log

-- each id stands once after an item
item-once : (live : Entries) (item : LogItem) → AreOnce live → MayCome live item → AreOnce (live_after live item)
item-once live (Start time id name typ meta) once may = once-inserted live id _ (not-kept (type_of live id) may.1) once
item-once live (Value time id value) once may = once
item-once live (SetMeta time id meta) once may = once
item-once live (Finish time id) once may = once-removed live id once

-- and after all of them
items-once : (items : List ItemAt) (at : ℕ) (live behind : Entries) (bytes : List ℕ) → AreOnce live
    → AreItemsAt at live bytes items behind → AreOnce behind
items-once [] at live behind bytes once is = subst (λ (w : Entries). AreOnce w) (sym is.1) once
items-once (x ∷ xs) at live behind bytes once is = items-once xs (at + length is.0) (live_after live x.item) behind is.1
    (item-once live x.item once is.4.may_come) is.5

-- after a Finish its entry is not live, and each other is as it was
pub finish-ends : (bytes extra : List ℕ) (items : List ItemAt) (live : Entries) (time id other : ℕ)
    → IsLog bytes extra items live
    → type_of (live_after live (Finish time id)) other ≡ cond (eqb other id) None (type_of live other)
finish-ends bytes extra items live time id other log = at-removed live id other
    (items-once items (length log.header) [] live log.records tt log.items_are)
