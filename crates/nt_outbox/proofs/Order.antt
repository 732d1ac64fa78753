-- A stable sort by place and id puts keys in their order: there is one such list.
use Rattle.std.proofs.Common.{◌≡◌, ◌<◌, ◌+◌, ◌&&◌, ℕ, suc, Bool, true, false, cond, not, List, [], ◌∷◌, length, get_or, filter, nat_cmp, refl, sym, ap, ◌∙◌, subst, add-one, arith, tests}
use Rattle.std.specs.List.{AllByRecursion}
use Rattle.std.specs.List.Sorted.{IsSortedBy, IsStableBy}
use Rattle.std.specs.Ordering.{is_lt, ordering_then}
use Rattle.std.proofs.lemmas.Bool.Decides.{nat_tests}
use Rattle.nt_rules.specs.outbox.Keys.{Key, is_before, insert_key, in_order}

-- ---- the order

before-self : (a : Key) → is_before a a ≡ true
before-self a = grind (arith, nat_tests)

before-then : (a b c : Key) → is_before a b ≡ true → is_before b c ≡ true → is_before a c ≡ true
before-then a b c h g = grind (arith, nat_tests)

before-total : (a b : Key) → is_before a b ≡ false → is_before b a ≡ true
before-total a b h = grind (arith, nat_tests)

-- the keys are of one place and one topic
abbrev tie : Key → Key → Bool
tie a b = not (not (is_before b a)) && not (not (is_before a b))

tie-self : (a : Key) → tie a a ≡ true
tie-self a = let h = before-self a in grind (arith, nat_tests)

tie-before : (x a b : Key) → tie x a ≡ true → tie x b ≡ true → is_before a b ≡ true
tie-before x a b h g = grind (arith, nat_tests)

tie-both : (a b : Key) → is_before a b ≡ true → is_before b a ≡ true → tie a b ≡ true
tie-both a b h g = grind (arith, nat_tests)

-- ---- sorted lists

abbrev AreAfter : Key → List Key → Type 0
AreAfter k ks = AllByRecursion (λ x. is_before k x ≡ true) ks

abbrev AreSorted : List Key → Type 0
AreSorted [] = Unit {0}
AreSorted (k ∷ ks) = AreAfter k ks × AreSorted ks

after-then : (a b : Key) (ks : List Key) → is_before a b ≡ true → AreAfter b ks → AreAfter a ks
after-then a b [] h all = tt
after-then a b (k ∷ ks) h all = (before-then a b k h all.0, after-then a b ks h all.1)

after-insert : (x k : Key) (ks : List Key) → is_before x k ≡ true → AreAfter x ks
    → AreAfter x (insert_key k ks)
after-insert x k [] h all = (h, tt)
after-insert x k (y ∷ ys) h all = by (after-insert x k ys h all.1) (is_before k y)
  where
    by : AreAfter x (insert_key k ys) → (b : Bool) → AreAfter x (cond b (k ∷ y ∷ ys) (y ∷ insert_key k ys))
    by rest true = (h, all)
    by rest false = (all.0, rest)

insert-sorted : (k : Key) (ks : List Key) → AreSorted ks → AreSorted (insert_key k ks)
insert-sorted k [] h = (tt, tt)
insert-sorted k (y ∷ ys) h = by (insert-sorted k ys h.1) (is_before k y) refl
  where
    by : AreSorted (insert_key k ys) → (b : Bool) → is_before k y ≡ b
        → AreSorted (cond b (k ∷ y ∷ ys) (y ∷ insert_key k ys))
    by rest true e = ((e, after-then k y ys e h.0), h)
    by rest false e = (after-insert y k ys (before-total k y e) h.0, rest)

in_order-sorted : (ks : List Key) → AreSorted (in_order ks)
in_order-sorted [] = tt
in_order-sorted (k ∷ ks) = insert-sorted k (in_order ks) (in_order-sorted ks)

-- from each key and the next
sorted-from : (ks : List Key)
    → ((i : ℕ) (d : Key) → i + 1 < length ks → is_before (get_or ks i d) (get_or ks (suc i) d) ≡ true)
    → AreSorted ks
sorted-from [] h = tt
sorted-from (k ∷ []) h = (tt, tt)
sorted-from (k ∷ y ∷ ys) h =
    let rest : AreSorted (y ∷ ys) = sorted-from (y ∷ ys) (λ i d lt. h (suc i) d (omega arith)) in
    let first : is_before k y ≡ true = h 0 k (omega arith) in
    ((first, after-then k y ys first rest.0), rest)

-- ---- keys that tie keep their order

insert-ties : (x k : Key) (ks : List Key) → filter (tie x) (insert_key k ks) ≡ filter (tie x) (k ∷ ks)
insert-ties x k [] = refl
insert-ties x k (y ∷ ys) = by (insert-ties x k ys) (is_before k y) refl
  where
    swap : (b c : Bool) → tie x k ≡ b → tie x y ≡ c → is_before k y ≡ false → (ks : List Key)
        → cond c (y ∷ cond b (k ∷ ks) ks) (cond b (k ∷ ks) ks)
        ≡ cond b (k ∷ cond c (y ∷ ks) ks) (cond c (y ∷ ks) ks)
    swap true true e f h ks = let t = tie-before x k y e f in absurd (cc)
    swap true false e f h ks = refl
    swap false true e f h ks = refl
    swap false false e f h ks = refl

    by : filter (tie x) (insert_key k ys) ≡ filter (tie x) (k ∷ ys) → (b : Bool) → is_before k y ≡ b
        → filter (tie x) (cond b (k ∷ y ∷ ys) (y ∷ insert_key k ys)) ≡ filter (tie x) (k ∷ y ∷ ys)
    by rest true e = refl
    by rest false e =
        ap (λ ks. cond (tie x y) (y ∷ ks) ks) rest ∙ swap (tie x k) (tie x y) refl refl e (filter (tie x) ys)

in_order-ties : (x : Key) (ks : List Key) → filter (tie x) (in_order ks) ≡ filter (tie x) ks
in_order-ties x [] = refl
in_order-ties x (k ∷ ks) =
    insert-ties x k (in_order ks) ∙ ap (λ xs. cond (tie x k) (k ∷ xs) xs) (in_order-ties x ks)

-- ---- there is one such list

none-tie : (y z : Key) (ks : List Key) → is_before y z ≡ false → AreAfter y ks → filter (tie z) ks ≡ []
none-tie y z [] h all = refl
none-tie y z (k ∷ ks) h all = by (none-tie y z ks h all.1) (tie z k) refl
  where
    by : filter (tie z) ks ≡ [] → (b : Bool) → tie z k ≡ b
        → cond b (k ∷ filter (tie z) ks) (filter (tie z) ks) ≡ []
    by rest true e =
        let back : is_before y z ≡ true = before-then y k z all.0 (tie-before z k z e (tie-self z)) in
        absurd (cc)
    by rest false e = rest

head-kept : (z : Key) (zs : List Key) → filter (tie z) (z ∷ zs) ≡ z ∷ filter (tie z) zs
head-kept z zs = ap (λ b. cond b (z ∷ filter (tie z) zs) (filter (tie z) zs)) (tie-self z)

heads : (y z : Key) (ys zs : List Key) → AreSorted (y ∷ ys)
    → ((x : Key) → filter (tie x) (y ∷ ys) ≡ filter (tie x) (z ∷ zs))
    → is_before y z ≡ true
heads y z ys zs sorted same = by (is_before y z) refl
  where
    by : (b : Bool) → is_before y z ≡ b → is_before y z ≡ true
    by true e = e
    by false e =
        let none = none-tie y z (y ∷ ys) e (before-self y, sorted.0) in
        let some = head-kept z zs in
        let both = same z in absurd (cc)

unique : (ys zs : List Key) → AreSorted ys → AreSorted zs
    → ((x : Key) → filter (tie x) ys ≡ filter (tie x) zs) → ys ≡ zs
unique [] [] a b same = refl
unique [] (z ∷ zs) a b same = let some = head-kept z zs in let both = same z in absurd (cc)
unique (y ∷ ys) [] a b same = let some = head-kept y ys in let both = same y in absurd (cc)
unique (y ∷ ys) (z ∷ zs) a b same =
    let up = heads y z ys zs a same in
    let down = heads z y zs ys b (λ x. sym (same x)) in
    let second : filter (tie y) (z ∷ zs) ≡ z ∷ filter (tie y) zs =
    ap (λ t. cond t (z ∷ filter (tie y) zs) (filter (tie y) zs)) (tie-both y z up down) in
    let first = head-kept y ys in
    let both = same y in
    let e : y ≡ z = cc in
    let rest = unique ys zs a.1 b.1 (λ x. tails x e) in cc
  where
    cut : (x : Key) (b : Bool) (us vs : List Key) → cond b (y ∷ us) us ≡ cond b (y ∷ vs) vs → us ≡ vs
    cut x true us vs h = cc
    cut x false us vs h = h

    tails : (x : Key) → y ≡ z → filter (tie x) ys ≡ filter (tie x) zs
    tails x e =
        cut x (tie x y) (filter (tie x) ys) (filter (tie x) zs)
        (same x ∙ ap (λ w. cond (tie x w) (w ∷ filter (tie x) zs) (filter (tie x) zs)) (sym e))

-- ---- what a sort answers

-- the order of places and ids
abbrev pub rank_less : Key → Key → Bool
rank_less a b = is_lt (ordering_then (nat_cmp a.place b.place) (nat_cmp a.topic b.topic))

less-before : (a b : Key) → rank_less a b ≡ not (is_before b a)
less-before a b = grind (arith, tests, nat_tests)

less-is : rank_less ≡ (λ a b. not (is_before b a))
less-is i a b = less-before a b i

pub sorted-is : (xs ys : List Key) → IsSortedBy rank_less ys → IsStableBy rank_less xs ys → ys ≡ in_order xs
sorted-is xs ys sorted stable =
    let up = subst (λ (lt : Key → Key → Bool). IsSortedBy lt ys) less-is sorted in
    let same = subst (λ (lt : Key → Key → Bool). IsStableBy lt xs ys) less-is stable in
    unique ys (in_order xs)
    (sorted-from ys
    (λ i d lt. by (get_or ys i d) (get_or ys (suc i) d) (rw add-one at (up i d (omega arith) lt))))
    (in_order-sorted xs)
    (λ x. same x ∙ sym (in_order-ties x xs))
  where
    by : (a b : Key) → not (is_before a b) ≡ false → is_before a b ≡ true
    by a b h = grind (arith, nat_tests)
