-- Where a uid stands among subscriptions, and what stands there after a change.
use Rattle.std.proofs.Common.{◌≡◌, ℕ, suc, ◌+◌, ◌<◌, ◌≤◌, ℤ, List, [], ◌∷◌, length, get_or, Some, None, Result, Ok, Err, Ordering, Less, Equal, Greater, is_eq, refl, sym, ap, ◌∙◌, subst, arith}
use Rattle.std.proofs.lemmas.Cmp.{int_ranked, int_cmp_total}
use Rattle.std.specs.Prelude.{insert, remove, slice_set, MatchResult, if◌then◌else◌}
use Rattle.std.specs.List.{AllByRecursion}
use Rattle.std.specs.List.Sorted.{IsStrictlySortedBy}
use Rattle.std.specs.BTreeMap.{is_at}
use Rattle.std.specs.Map.{keys_of, lookup}
use Rattle.std.specs.Ordering.{int_cmp, ordering_reverse, match_ordering}
use Rattle.nt_subs.specs.Subscriptions.{Subs, AreByUid, next_index, index_of, with_sub, without_sub}
use Rattle.nt_subs.specs.declared.sub.Sub.{Sub}

-- ---- indices in a loop

-- an index this much further on
abbrev pub moved : ℕ → Result ℕ ℕ → Result ℕ ℕ
moved n (Ok index) = Ok (n + index)
moved n (Err index) = Err (n + index)

-- ---- uids that ascend

below_all : (uid next : ℤ) (uids : List ℤ) → int_cmp uid next ≡ Less
    → AllByRecursion (λ y. int_cmp next y ≡ Less) uids
    → AllByRecursion (λ y. int_cmp uid y ≡ Less) uids
below_all uid next [] h all = tt
below_all uid next (y ∷ uids) h all =
    (int_cmp_total.trans uid next y h all.0, below_all uid next uids h all.1)

-- uids below which a uid stands don't have it
lookup-above : (uid : ℤ) (subs : Subs) → AllByRecursion (λ y. int_cmp uid y ≡ Less) (keys_of subs)
    → lookup (is_at (int_cmp uid)) subs ≡ None
lookup-above uid [] all = refl
lookup-above uid (e ∷ es) all = rw all.0 (lookup-above uid es all.1)

without-above : (uid : ℤ) (subs : Subs) → AllByRecursion (λ y. int_cmp uid y ≡ Less) (keys_of subs)
    → without_sub uid subs ≡ subs
without-above uid [] all = refl
without-above uid (e ∷ es) all = rw all.0 (ap (λ xs. e ∷ xs) (without-above uid es all.1))

-- the other way round
above : (a b : ℤ) → int_cmp a b ≡ Greater → int_cmp b a ≡ Less
above a b h = int_cmp_total.antisymm b a ∙ ap ordering_reverse h

all-with_sub : (P : ℤ → Type 0) (uid : ℤ) (sub : Sub) (subs : Subs) → P uid
    → AllByRecursion P (keys_of subs)
    → AllByRecursion P (keys_of (with_sub uid sub subs))
all-with_sub P uid sub [] here all = (here, tt)
all-with_sub P uid sub (e ∷ es) here all = by (int_cmp uid e.0) (all-with_sub P uid sub es here all.1)
  where
    by : (o : Ordering) → AllByRecursion P (keys_of (with_sub uid sub es))
        → AllByRecursion P
        (keys_of (match_ordering o ((uid, sub) ∷ e ∷ es) ((e.0, sub) ∷ es) (e ∷ with_sub uid sub es)))
    by Less rest = (here, all)
    by Equal rest = all
    by Greater rest = (all.0, rest)

-- they ascend with a subscription more
pub by_uid-with_sub : (uid : ℤ) (sub : Sub) (subs : Subs) → AreByUid subs → AreByUid (with_sub uid sub subs)
unfolding IsStrictlySortedBy
by_uid-with_sub uid sub [] sorted = (tt, tt)
by_uid-with_sub uid sub (e ∷ es) sorted = by (int_cmp uid e.0) refl (by_uid-with_sub uid sub es sorted.1)
  where
    by : (o : Ordering) → int_cmp uid e.0 ≡ o → AreByUid (with_sub uid sub es)
        → AreByUid (match_ordering o ((uid, sub) ∷ e ∷ es) ((e.0, sub) ∷ es) (e ∷ with_sub uid sub es))
    by Less is rest = ((is, below_all uid e.0 (keys_of es) is sorted.0), sorted)
    by Equal is rest = sorted
    by Greater is rest = (
      all-with_sub (λ y. int_cmp e.0 y ≡ Less) uid sub es
          (above uid e.0 is) sorted.0,
      rest,
    )

all-without_sub : (P : ℤ → Type 0) (uid : ℤ) (subs : Subs) → AllByRecursion P (keys_of subs)
    → AllByRecursion P (keys_of (without_sub uid subs))
all-without_sub P uid [] all = tt
all-without_sub P uid (e ∷ es) all = by (int_cmp uid e.0) (all-without_sub P uid es all.1)
  where
    by : (o : Ordering) → AllByRecursion P (keys_of (without_sub uid es))
        → AllByRecursion P (keys_of (if is_eq o then es else e ∷ without_sub uid es))
    by Less rest = (all.0, rest)
    by Equal rest = all.1
    by Greater rest = (all.0, rest)

-- and with one less
pub by_uid-without_sub : (uid : ℤ) (subs : Subs) → AreByUid subs → AreByUid (without_sub uid subs)
unfolding IsStrictlySortedBy
by_uid-without_sub uid [] sorted = tt
by_uid-without_sub uid (e ∷ es) sorted = by (int_cmp uid e.0) (by_uid-without_sub uid es sorted.1)
  where
    by : (o : Ordering) → AreByUid (without_sub uid es)
        → AreByUid (if is_eq o then es else e ∷ without_sub uid es)
    by Less rest = (all-without_sub (λ y. int_cmp e.0 y ≡ Less) uid es sorted.0, rest)
    by Equal rest = sorted.1
    by Greater rest = (all-without_sub (λ y. int_cmp e.0 y ≡ Less) uid es sorted.0, rest)

-- ---- what stands at an index

-- the uid stands at the index
pub record Stands (uid : ℤ) (subs : Subs) (index : ℕ) : Type 0 where
  pub within : index < length subs
  pub found : (d : ℤ × Sub) → lookup (is_at (int_cmp uid)) subs ≡ Some (get_or subs index d).1
  pub put : (sub : Sub) → with_sub uid sub subs ≡ slice_set subs index (uid, sub)
  pub taken : without_sub uid subs ≡ remove subs index

-- the uid stands nowhere, and would stand at the index
pub record IsGap (uid : ℤ) (subs : Subs) (index : ℕ) : Type 0 where
  pub within : index ≤ length subs
  pub missing : lookup (is_at (int_cmp uid)) subs ≡ None
  pub put : (sub : Sub) → with_sub uid sub subs ≡ insert subs index (uid, sub)
  pub same : without_sub uid subs ≡ subs

equal_uids : (a b : ℤ) (o : Ordering) → o ≡ int_cmp a b → o ≡ Equal → a ≡ b
equal_uids a b Less is h = absurd (cc)
equal_uids a b Equal is h = int_ranked a b Equal is
equal_uids a b Greater is h = absurd (cc)

stands-here : (uid : ℤ) (e : ℤ × Sub) (es : Subs) → int_cmp uid e.0 ≡ Equal → Stands uid (e ∷ es) 0
stands-here uid e es is =
    let same : uid ≡ e.0 = equal_uids uid e.0 _ refl is in
    record {
      within = omega arith;
      found = λ d. rw is;
      put = λ sub. rw is (ap (λ k. (k, sub) ∷ es) (sym same));
      taken = rw is;
    }

stands-next : (uid : ℤ) (e : ℤ × Sub) (es : Subs) (index : ℕ) → int_cmp uid e.0 ≡ Greater
    → Stands uid es index
    → Stands uid (e ∷ es) (suc index)
stands-next uid e es index is rest = record {
  within = let w = rest.within in omega arith;
  found = λ d. rw is (rest.found d);
  put = λ sub. rw is (ap (λ xs. e ∷ xs) (rest.put sub));
  taken = rw is (ap (λ xs. e ∷ xs) rest.taken);
}

gap-here : (uid : ℤ) (e : ℤ × Sub) (es : Subs) → int_cmp uid e.0 ≡ Less
    → AllByRecursion (λ y. int_cmp e.0 y ≡ Less) (keys_of es) → IsGap uid (e ∷ es) 0
gap-here uid e es is all =
    let further = below_all uid e.0 (keys_of es) is all in
    record {
      within = omega arith;
      missing = rw is (lookup-above uid es further);
      put = λ sub. rw is;
      same = rw is (ap (λ xs. e ∷ xs) (without-above uid es further));
    }

gap-next : (uid : ℤ) (e : ℤ × Sub) (es : Subs) (index : ℕ) → int_cmp uid e.0 ≡ Greater → IsGap uid es index
    → IsGap uid (e ∷ es) (suc index)
gap-next uid e es index is rest = record {
  within = let w = rest.within in omega arith;
  missing = rw is rest.missing;
  put = λ sub. rw is (ap (λ xs. e ∷ xs) (rest.put sub));
  same = rw is (ap (λ xs. e ∷ xs) rest.same);
}

next : (uid : ℤ) (e : ℤ × Sub) (es : Subs) → int_cmp uid e.0 ≡ Greater → (r : Result ℕ ℕ)
    → MatchResult r (Stands uid es) (IsGap uid es)
    → MatchResult (next_index r) (Stands uid (e ∷ es)) (IsGap uid (e ∷ es))
next uid e es is (Ok index) rest = stands-next uid e es index is rest
next uid e es is (Err index) rest = gap-next uid e es index is rest

-- the index of a uid is where it stands, or would stand
pub placed : (uid : ℤ) (subs : Subs) → AreByUid subs
    → MatchResult (index_of uid subs) (Stands uid subs) (IsGap uid subs)
unfolding IsStrictlySortedBy
placed uid [] sorted = record { within = omega arith; missing = refl; put = λ sub. refl; same = refl }
placed uid (e ∷ es) sorted = by (int_cmp uid e.0) refl (placed uid es sorted.1)
  where
    by : (o : Ordering) → int_cmp uid e.0 ≡ o → MatchResult (index_of uid es) (Stands uid es) (IsGap uid es)
        → MatchResult (match_ordering o (Err 0) (Ok 0) (next_index (index_of uid es)))
        (Stands uid (e ∷ es)) (IsGap uid (e ∷ es))
    by Less is rest = gap-here uid e es is sorted.0
    by Equal is rest = stands-here uid e es is
    by Greater is rest = next uid e es is (index_of uid es) rest

pub stands : (uid : ℤ) (subs : Subs) (index : ℕ) → AreByUid subs → index_of uid subs ≡ Ok index
    → Stands uid subs index
stands uid subs index sorted is = subst (λ r. MatchResult r (Stands uid subs) (IsGap uid subs)) is
    (placed uid subs sorted)

pub gap : (uid : ℤ) (subs : Subs) (index : ℕ) → AreByUid subs → index_of uid subs ≡ Err index
    → IsGap uid subs index
gap uid subs index sorted is = subst (λ r. MatchResult r (Stands uid subs) (IsGap uid subs)) is
    (placed uid subs sorted)
