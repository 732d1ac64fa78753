-- An index stays right as subscriptions change.
use Rattle.std.proofs.Common.{◌≡◌, ℕ, ◌+◌, ◌-◌, ◌<◌, ◌≤◌, ℤ, Bool, true, false, cond, List, [], ◌∷◌, length, take, get_or, Option, Some, None, Result, Ok, Err, OnOk, OnErr, option_map, unwrap_or, sum_by, add-zero, refl, sym, ap, ◌∙◌, subst, arith}
use Rattle.std.proofs.lemmas.Cmp.{int_cmp_total}
use Rattle.std.proofs.lemmas.List.Sums.{sum_by-cons, sum_by-le-sum_by, sum_by-take-le, sum_by_push, get_or-le-sum_by}
use Rattle.std.proofs.lemmas.List.{get_or-map, map_more, take-map}
use Rattle.std.proofs.lemmas.Map.Entries.{length-values_of, sum_by-insert_entry, sum_by-remove_entry}
use Rattle.std.specs.BTreeMap.{is_at}
use Rattle.std.specs.Map.{lookup, values_of}
use Rattle.std.specs.Ordering.{int_cmp}
use Rattle.nt_subs.proofs.Counted.{times_in-length}
use Rattle.nt_subs.specs.Index.{IsIndexed, HasRoom, count, said, times, part, given_by, given_in, times_in}
use Rattle.nt_subs.specs.Subscriptions.{Subs, AreByUid, size_of, total_size, with_sub, without_sub}
use Rattle.nt_subs.specs.Wishes.{strength}
use Rattle.nt_subs.specs.declared.given.Given.{Given}
use Rattle.nt_subs.specs.declared.index.Index.{Index}
use Rattle.nt_subs.specs.declared.sub.Sub.{Sub}
use Rattle.nt_subs.specs.declared.wish.Wanted.{Wanted}

-- ---- how often at most

-- a subscription has no more names than its size
pub names-size : (sub : Sub) → length sub.names ≤ size_of sub
names-size sub = by sub.names
  where
    by : (names : List (List ℕ)) → length names ≤ sum_by (λ name. length name + 8) names
    by [] = omega arith
    by (name ∷ names) =
        let rest = by names in
        let first = sum_by-cons (λ name. length name + 8) name names in omega arith

given-size : (prefix : Bool) (w : Wanted) (name : List ℕ) (sub : Sub) → given_by prefix w name sub ≤ size_of sub
given-size true w name sub = by sub.options.prefix
  where
    by : (b : Bool) → cond b (times_in w name (strength sub.options) sub.names) 0 ≤ size_of sub
    by true =
        let few = times_in-length w (strength sub.options) name sub.names in
        let small = names-size sub in omega arith
    by false = omega arith
given-size false w name sub = by sub.options.prefix
  where
    by : (b : Bool) → cond b 0 (times_in w name (strength sub.options) sub.names) ≤ size_of sub
    by true = omega arith
    by false =
        let few = times_in-length w (strength sub.options) name sub.names in
        let small = names-size sub in omega arith

pub given-total : (prefix : Bool) (w : Wanted) (name : List ℕ) (subs : Subs)
    → given_in prefix w name subs ≤ total_size subs
given-total prefix w name subs =
    sum_by-le-sum_by (given_by prefix w name) size_of (values_of subs) (given-size prefix w name)

-- more can be counted, as long as all are within the limit
pub room : (index : Index) (subs : Subs) (sub : Sub) → IsIndexed index subs → total_size subs ≤ 131_072
    → size_of sub ≤ 131_072 → (prefix : Bool) → HasRoom (length sub.names) (part prefix index)
room index subs sub right small fits prefix w name =
    let is = right prefix w name in
    let all = given-total prefix w name subs in
    let few = names-size sub in omega arith

-- ---- one part changes

module _ (index : Index) (given : Given) (sub : Sub) (given_with : Wanted) (names : List (List ℕ))
    (with_is : given_with ≡ strength sub.options) (names_are : names ≡ sub.names) where
  abbrev here : Wanted → List ℕ → ℕ
  here w n = times_in w n (strength sub.options) sub.names

  named : (w : Wanted) (n : List ℕ) → times_in w n given_with names ≡ here w n
  named w n = ap (λ v. times_in w n v names) with_is ∙ ap (times_in w n (strength sub.options)) names_are

  -- its names are noted among prefixes
  pub noted_prefix : sub.options.prefix ≡ true
      → ((w : Wanted) (n : List ℕ) → count w (said given n)
      ≡ count w (said index.prefixes n) + times_in w n given_with names)
      → (prefix : Bool) (w : Wanted) (n : List ℕ)
      → times prefix w n (record { exact = index.exact; prefixes = given })
      ≡ times prefix w n index + given_by prefix w n sub
  noted_prefix is h true w n =
      h w n ∙ ap (λ k. count w (said index.prefixes n) + k) (named w n ∙ ap (λ b. cond b (here w n) 0) (sym is))
  noted_prefix is h false w n =
      sym (add-zero (count w (said index.exact n)))
      ∙ ap (λ b. count w (said index.exact n) + cond b 0 (here w n)) (sym is)

  -- among whole names
  pub noted_exact : sub.options.prefix ≡ false
      → ((w : Wanted) (n : List ℕ) → count w (said given n)
      ≡ count w (said index.exact n) + times_in w n given_with names)
      → (prefix : Bool) (w : Wanted) (n : List ℕ)
      → times prefix w n (record { exact = given; prefixes = index.prefixes })
      ≡ times prefix w n index + given_by prefix w n sub
  noted_exact is h false w n =
      h w n ∙ ap (λ k. count w (said index.exact n) + k) (named w n ∙ ap (λ b. cond b 0 (here w n)) (sym is))
  noted_exact is h true w n =
      sym (add-zero (count w (said index.prefixes n)))
      ∙ ap (λ b. count w (said index.prefixes n) + cond b (here w n) 0) (sym is)

-- a part that says what it said
pub same_prefixes : (index : Index) (given : Given)
    → ((w : Wanted) (n : List ℕ) → count w (said given n) ≡ count w (said index.prefixes n))
    → (prefix : Bool) (w : Wanted) (n : List ℕ)
    → times prefix w n (record { exact = index.exact; prefixes = given }) ≡ times prefix w n index
same_prefixes index given h true w n = h w n
same_prefixes index given h false w n = refl

pub same_exact : (index : Index) (given : Given)
    → ((w : Wanted) (n : List ℕ) → count w (said given n) ≡ count w (said index.exact n))
    → (prefix : Bool) (w : Wanted) (n : List ℕ)
    → times prefix w n (record { exact = given; prefixes = index.prefixes }) ≡ times prefix w n index
same_exact index given h true w n = refl
same_exact index given h false w n = h w n

-- what follows where a call succeeds
pub on_ok : {X Y P Q : Type 0} (r : Result X Y) → (P → Q) → OnOk r P → OnOk r Q
on_ok (Ok x) f p = f p
on_ok (Err e) f p = tt

-- and where it fails
pub on_err : {X Y P Q : Type 0} (r : Result X Y) → (P → Q) → OnErr r P → OnErr r Q
on_err (Ok x) f p = tt
on_err (Err e) f p = f p

-- ---- changes

-- two that say the same
pub same : (index index-2 : Index) (subs : Subs)
    → ((prefix : Bool) (w : Wanted) (name : List ℕ) → times prefix w name index-2 ≡ times prefix w name index)
    → IsIndexed index subs → IsIndexed index-2 subs
same index index-2 subs is right prefix w name = is prefix w name ∙ right prefix w name

-- one that was noted, in place of any that stood at its uid
total-with : (f : Sub → ℕ) (uid : ℤ) (sub : Sub) (subs : Subs) → AreByUid subs → (o : Option Sub)
    → lookup (is_at (int_cmp uid)) subs ≡ o
    → sum_by f (values_of (with_sub uid sub subs)) + unwrap_or (option_map f o) 0
    ≡ sum_by f (values_of subs) + f sub
total-with f uid sub subs sorted o is =
    subst (λ q. sum_by f (values_of (with_sub uid sub subs)) + unwrap_or (option_map f q) 0
    ≡ sum_by f (values_of subs) + f sub) is
    (sum_by-insert_entry f int_cmp_total subs uid sub sorted)

total-without : (f : Sub → ℕ) (uid : ℤ) (subs : Subs) (o : Option Sub) → lookup (is_at (int_cmp uid)) subs ≡ o
    → sum_by f (values_of (without_sub uid subs)) + unwrap_or (option_map f o) 0 ≡ sum_by f (values_of subs)
total-without f uid subs o is =
    subst (λ q. sum_by f (values_of (without_sub uid subs)) + unwrap_or (option_map f q) 0
    ≡ sum_by f (values_of subs)) is
    (sum_by-remove_entry f (is_at (int_cmp uid)) subs)

module _ (index index-2 : Index) (uid : ℤ) (sub : Sub) (subs : Subs) (sorted : AreByUid subs)
    (right : IsIndexed index subs)
    (noted : (prefix : Bool) (w : Wanted) (name : List ℕ)
    → times prefix w name index-2 ≡ times prefix w name index + given_by prefix w name sub) where
  -- a new one is noted
  pub indexed_new : lookup (is_at (int_cmp uid)) subs ≡ None → IsIndexed index-2 (with_sub uid sub subs)
  indexed_new missing prefix w name =
      let is = right prefix w name in
      let more = noted prefix w name in
      let sums : given_in prefix w name (with_sub uid sub subs) + 0
      ≡ given_in prefix w name subs + given_by prefix w name sub =
      total-with (given_by prefix w name) uid sub subs sorted None missing in omega arith

  -- one is noted, and forgotten again
  pub indexed_back : (index-3 : Index)
      → ((prefix : Bool) (w : Wanted) (name : List ℕ)
      → times prefix w name index-3 ≡ times prefix w name index-2 - given_by prefix w name sub)
      → IsIndexed index-3 subs
  indexed_back index-3 forgotten prefix w name =
      let is = right prefix w name in
      let more = noted prefix w name in
      let less = forgotten prefix w name in omega arith

  -- one is noted, and the one at its uid is forgotten
  pub indexed_replaced : (old : Sub) (index-3 : Index) → lookup (is_at (int_cmp uid)) subs ≡ Some old
      → ((prefix : Bool) (w : Wanted) (name : List ℕ)
      → times prefix w name index-3 ≡ times prefix w name index-2 - given_by prefix w name old)
      → IsIndexed index-3 (with_sub uid sub subs)
  indexed_replaced old index-3 stood forgotten prefix w name =
      let is = right prefix w name in
      let more = noted prefix w name in
      let less = forgotten prefix w name in
      let sums : given_in prefix w name (with_sub uid sub subs) + given_by prefix w name old
      ≡ given_in prefix w name subs + given_by prefix w name sub =
      total-with (given_by prefix w name) uid sub subs sorted (Some old) stood in omega arith

-- one is forgotten
pub indexed_without : (index index-2 : Index) (uid : ℤ) (old : Sub) (subs : Subs) → IsIndexed index subs
    → lookup (is_at (int_cmp uid)) subs ≡ Some old
    → ((prefix : Bool) (w : Wanted) (name : List ℕ)
    → times prefix w name index-2 ≡ times prefix w name index - given_by prefix w name old)
    → IsIndexed index-2 (without_sub uid subs)
indexed_without index index-2 uid old subs right stood forgotten prefix w name =
    let is = right prefix w name in
    let less = forgotten prefix w name in
    let sums : given_in prefix w name (without_sub uid subs) + given_by prefix w name old
    ≡ given_in prefix w name subs =
    total-without (given_by prefix w name) uid subs (Some old) stood in omega arith

-- ---- one by one

module _ (index : Index) (subs : Subs) (i : ℕ) (e : ℤ × Sub) (within : i < length subs)
    (at : e ≡ get_or subs i e) (right : IsIndexed index (take i subs)) where
  pub room_more : total_size subs ≤ 131_072 → (prefix : Bool) → HasRoom (length e.1.names) (part prefix index)
  room_more small =
      let before : total_size (take i subs) ≤ total_size subs =
      subst (λ l. sum_by size_of l ≤ total_size subs) (take-map (λ (d : ℤ × Sub). d.1) i subs)
      (sum_by-take-le size_of (values_of subs) i) in
      let here : size_of e.1 ≤ total_size subs =
      subst (λ s. size_of s ≤ total_size subs)
      (get_or-map (λ (d : ℤ × Sub). d.1) subs i e e.1 within ∙ ap (λ (d : ℤ × Sub). d.1) (sym at))
      (get_or-le-sum_by size_of (values_of subs) i e.1 (let n = length-values_of subs in omega arith)) in
      room index (take i subs) e.1 right (omega arith) (omega arith)

  pub indexed_more : (index-2 : Index)
      → ((prefix : Bool) (w : Wanted) (name : List ℕ)
      → times prefix w name index-2 ≡ times prefix w name index + given_by prefix w name e.1)
      → IsIndexed index-2 (take (i + 1) subs)
  indexed_more index-2 noted prefix w name =
      let is = right prefix w name in
      let more = noted prefix w name in
      let sums : given_in prefix w name (take (i + 1) subs)
      ≡ given_in prefix w name (take i subs) + given_by prefix w name e.1 =
      ap (sum_by (given_by prefix w name)) (map_more (λ (d : ℤ × Sub). d.1) subs i e within)
      ∙ sum_by_push (given_by prefix w name) (values_of (take i subs)) (get_or subs i e).1
      ∙ ap (λ (d : ℤ × Sub). given_in prefix w name (take i subs) + given_by prefix w name d.1) (sym at) in
      omega arith
