-- The limits of subscriptions, before and after a change.
use Rattle.std.proofs.Common.{◌≡◌, ℕ, ◌+◌, ◌-◌, ◌<◌, ◌≤◌, ℤ, length, min, get_or, Option, Some, None, option_map, unwrap_or, true, false, Ok, Err, sym, ap, ◌∙◌, subst, arith, length-set}
use Rattle.std.proofs.lemmas.Cmp.{int_cmp_total}
use Rattle.std.proofs.lemmas.Grind.{common_steps}
use Rattle.std.proofs.lemmas.List.Edits.{length-insert, length-remove}
use Rattle.std.proofs.lemmas.Map.Entries.{sum_by-insert_entry, sum_by-remove_entry}
use Rattle.std.specs.BTreeMap.{is_at}
use Rattle.std.specs.Map.{lookup}
use Rattle.std.specs.Ordering.{int_cmp}
use Rattle.nt_subs.proofs.Indices.{Stands, IsGap, stands, gap, by_uid-with_sub, by_uid-without_sub}
use Rattle.nt_subs.specs.Subscriptions.{Subs, IsKept, added, after, are_within, index_of, size_of, total_size, with_sub, without_sub}
use Rattle.nt_subs.specs.declared.set.Added.TheVariants.{New, Replaced, TooMany}
use Rattle.nt_subs.specs.declared.sub.Sub.{Sub}

-- ---- the limits

pub fits : (subs : Subs) → length subs ≤ 1024 → total_size subs ≤ 131_072 → are_within subs ≡ true
fits subs few small = grind (arith, common_steps)

pub many : (subs : Subs) → 1024 < length subs → are_within subs ≡ false
many subs more = grind (arith, common_steps)

pub large : (subs : Subs) → 131_072 < total_size subs → are_within subs ≡ false
large subs more = grind (arith, common_steps)

-- a size that may be cut off at a number past the limit, where it fits behind this much
pub not_cut : (size most taken : ℕ) → 131_072 < most → taken ≤ 131_072 → min size most ≤ 131_072 - taken
    → (min size most ≡ size) × (taken + size ≤ 131_072)
not_cut size most taken past within small = (omega arith, omega arith)

-- and where it doesn't
pub passes : (size most taken : ℕ) → taken ≤ 131_072 → 131_072 - taken < min size most
    → 131_072 < taken + size
passes size most taken within more = omega arith

-- ---- answers

pub refused : (uid : ℤ) (sub : Sub) (subs : Subs) → are_within (with_sub uid sub subs) ≡ false
    → (TooMany ≡ added uid sub subs) × (subs ≡ after uid sub subs)
refused uid sub subs no_room = (rw no_room, rw no_room)

pub taken_new : (uid : ℤ) (sub : Sub) (subs : Subs) → are_within (with_sub uid sub subs) ≡ true
    → lookup (is_at (int_cmp uid)) subs ≡ None
    → (New ≡ added uid sub subs) × (with_sub uid sub subs ≡ after uid sub subs)
taken_new uid sub subs room missing = (rw (room, missing), rw room)

pub taken_replaced : (uid : ℤ) (sub old : Sub) (subs : Subs) → are_within (with_sub uid sub subs) ≡ true
    → lookup (is_at (int_cmp uid)) subs ≡ Some old
    → (Replaced ≡ added uid sub subs) × (with_sub uid sub subs ≡ after uid sub subs)
taken_replaced uid sub old subs room found = (rw (room, found), rw room)

-- ---- sizes

total-with : (uid : ℤ) (sub : Sub) (subs : Subs) (size : ℕ) → IsKept subs size → (o : Option Sub)
    → lookup (is_at (int_cmp uid)) subs ≡ o
    → total_size (with_sub uid sub subs) + unwrap_or (option_map size_of o) 0
    ≡ total_size subs + size_of sub
total-with uid sub subs size kept o is =
    subst (λ q. total_size (with_sub uid sub subs) + unwrap_or (option_map size_of q) 0
    ≡ total_size subs + size_of sub) is
    (sum_by-insert_entry size_of int_cmp_total subs uid sub kept.by_uid)

total-without : (uid : ℤ) (subs : Subs) (o : Option Sub) → lookup (is_at (int_cmp uid)) subs ≡ o
    → total_size (without_sub uid subs) + unwrap_or (option_map size_of o) 0 ≡ total_size subs
total-without uid subs o is =
    subst (λ q. total_size (without_sub uid subs) + unwrap_or (option_map size_of q) 0 ≡ total_size subs) is
    (sum_by-remove_entry size_of (is_at (int_cmp uid)) subs)

-- ---- one more

module _ (uid : ℤ) (sub : Sub) (subs : Subs) (size index : ℕ) (kept : IsKept subs size)
    (is : index_of uid subs ≡ Err index) where
  here : IsGap uid subs index
  here = gap uid subs index kept.by_uid is

  pub total_new : total_size (with_sub uid sub subs) ≡ size + size_of sub
  total_new =
      let sums : total_size (with_sub uid sub subs) + 0 ≡ total_size subs + size_of sub =
      total-with uid sub subs size kept None here.missing in
      let counted = kept.counted in omega arith

  pub length_new : length (with_sub uid sub subs) ≡ length subs + 1
  length_new = ap length (here.put sub) ∙ length-insert subs index (uid, sub) here.within

  pub many_new : 1024 ≤ length subs → are_within (with_sub uid sub subs) ≡ false
  many_new full = many (with_sub uid sub subs) (let n = length_new in omega arith)

  pub large_new : 131_072 < size + size_of sub → are_within (with_sub uid sub subs) ≡ false
  large_new more = large (with_sub uid sub subs) (let n = total_new in omega arith)

  pub fits_new : length subs < 1024 → size + size_of sub ≤ 131_072
      → are_within (with_sub uid sub subs) ≡ true
  fits_new few small =
      fits (with_sub uid sub subs) (let n = length_new in omega arith) (let n = total_new in omega arith)

  pub kept_new : length subs < 1024 → size + size_of sub ≤ 131_072
      → IsKept (with_sub uid sub subs) (size + size_of sub)
  kept_new few small = record {
    by_uid = by_uid-with_sub uid sub subs kept.by_uid;
    counted = sym total_new;
    few = let n = length_new in omega arith;
    small = let n = total_new in omega arith;
  }

-- ---- one in place of another, or none

module _ (uid : ℤ) (subs : Subs) (size index : ℕ) (kept : IsKept subs size)
    (is : index_of uid subs ≡ Ok index)
    (entry : ℤ × Sub) (at_index : entry ≡ get_or subs index entry) where
  at : Stands uid subs index
  at = stands uid subs index kept.by_uid is

  pub found_old : lookup (is_at (int_cmp uid)) subs ≡ Some entry.1
  found_old = at.found entry ∙ ap (λ (e : ℤ × Sub). Some e.1) (sym at_index)

  pub total_old : total_size (without_sub uid subs) + size_of entry.1 ≡ size
  total_old = total-without uid subs (Some entry.1) found_old ∙ sym kept.counted

  -- its size is part of all
  pub size_old : (most : ℕ) → 131_072 < most → (min (size_of entry.1) most ≡ size_of entry.1)
      × (size_of entry.1 ≤ size)
  size_old most past =
      let m = total_old in let c = kept.counted in let s = kept.small in (omega arith, omega arith)

  pub within_old : size - size_of entry.1 ≤ 131_072
  within_old = let c = kept.counted in let s = kept.small in omega arith

  pub kept_without : IsKept (without_sub uid subs) (size - size_of entry.1)
  kept_without = record {
    by_uid = by_uid-without_sub uid subs kept.by_uid;
    counted = let m = total_old in omega arith;
    few =
        let n : length (without_sub uid subs) + 1 ≡ length subs =
        ap (λ xs. length xs + 1) at.taken ∙ length-remove subs index at.within in
        let few = kept.few in omega arith;
    small = let m = total_old in let c = kept.counted in let s = kept.small in omega arith;
  }

  module _ (sub : Sub) where
    pub total_replaced : total_size (with_sub uid sub subs) ≡ (size - size_of entry.1) + size_of sub
    total_replaced =
        let sums : total_size (with_sub uid sub subs) + size_of entry.1 ≡ total_size subs + size_of sub =
        total-with uid sub subs size kept (Some entry.1) found_old in
        let counted = kept.counted in let m = total_old in omega arith

    pub length_replaced : length (with_sub uid sub subs) ≡ length subs
    length_replaced = ap length (at.put sub) ∙ length-set subs index (uid, sub)

    pub large_replaced : 131_072 < (size - size_of entry.1) + size_of sub
        → are_within (with_sub uid sub subs) ≡ false
    large_replaced more = large (with_sub uid sub subs) (let n = total_replaced in omega arith)

    pub fits_replaced : (size - size_of entry.1) + size_of sub ≤ 131_072
        → are_within (with_sub uid sub subs) ≡ true
    fits_replaced small =
        fits (with_sub uid sub subs) (let n = length_replaced in let few = kept.few in omega arith)
        (let n = total_replaced in omega arith)

    pub kept_replaced : (size - size_of entry.1) + size_of sub ≤ 131_072
        → IsKept (with_sub uid sub subs) ((size - size_of entry.1) + size_of sub)
    kept_replaced small = record {
      by_uid = by_uid-with_sub uid sub subs kept.by_uid;
      counted = sym total_replaced;
      few = let n = length_replaced in let few = kept.few in omega arith;
      small = let n = total_replaced in omega arith;
    }
