-- The subscriptions of a connection: each with its uid, by rising uid, and their limits.
use Rattle.std.specs.Prelude.{ℕ, suc, ◌+◌, ◌≡◌, ◌≤◌, ℤ, Bool, ◌&&◌, List, [], ◌∷◌, length, sum_by, nat_le, is_some, Result, Ok, Err, if◌then◌else◌}
use Rattle.std.specs.BTreeMap.{insert_entry, is_at}
use Rattle.std.specs.List.Sorted.{IsStrictlySortedBy}
use Rattle.std.specs.Map.{keys_of, values_of, lookup, remove_entry}
use Rattle.std.specs.Ordering.{int_cmp, match_ordering}
use Rattle.nt_subs.specs.declared.set.Added.{Added}
use Rattle.nt_subs.specs.declared.set.Added.TheVariants.{New, Replaced, TooMany}
use Rattle.nt_subs.specs.declared.sub.Sub.{Sub}

abbrev pub Subs : Type 0
Subs = List (ℤ × Sub)

-- each uid is below those after it
abbrev pub AreByUid : Subs → Type 0
AreByUid subs = IsStrictlySortedBy int_cmp (keys_of subs)

abbrev pub has_uid : ℤ → Subs → Bool
has_uid uid subs = is_some (lookup (is_at (int_cmp uid)) subs)

-- with this subscription at its uid, in place of any that stood there
abbrev pub with_sub : ℤ → Sub → Subs → Subs
with_sub uid sub subs = insert_entry int_cmp subs uid sub

-- without the subscription of this uid
abbrev pub without_sub : ℤ → Subs → Subs
without_sub uid subs = remove_entry (is_at (int_cmp uid)) subs

-- ---- limits

-- the bytes of its names, and 8 for each name
abbrev pub size_of : Sub → ℕ
size_of sub = sum_by (λ name. length name + 8) sub.names

abbrev pub total_size : Subs → ℕ
total_size subs = sum_by size_of (values_of subs)

-- at most 1,024 subscriptions, whose sizes are at most 131,072 together
abbrev pub are_within : Subs → Bool
are_within subs = nat_le (length subs) 1024 && nat_le (total_size subs) 131_072

-- what adding a subscription is answered
abbrev pub added : ℤ → Sub → Subs → Added
added uid sub subs =
    if are_within (with_sub uid sub subs) then (if has_uid uid subs then Replaced else New) else TooMany

-- the subscriptions after it
abbrev pub after : ℤ → Sub → Subs → Subs
after uid sub subs = if are_within (with_sub uid sub subs) then with_sub uid sub subs else subs

-- ---- indices

-- the index after this one
abbrev pub next_index : Result ℕ ℕ → Result ℕ ℕ
next_index (Ok index) = Ok (suc index)
next_index (Err index) = Err (suc index)

-- the index of a uid, or else the one where it would stand
abbrev pub index_of : ℤ → Subs → Result ℕ ℕ
index_of uid [] = Err 0
index_of uid (entry ∷ entries) =
    match_ordering (int_cmp uid entry.0) (Err 0) (Ok 0) (next_index (index_of uid entries))

-- the subscriptions of a set, and what it holds of them
pub record IsKept (subs : Subs) (size : ℕ) : Type 0 where
  pub by_uid : AreByUid subs
  pub counted : size ≡ total_size subs
  pub few : length subs ≤ 1024
  pub small : total_size subs ≤ 131_072
