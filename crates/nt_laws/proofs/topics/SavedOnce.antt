-- A saved set is one list: topics of different names have one order by their names.
use Rattle.std.proofs.Common.{◌≡◌, ◌≢◌, ℕ, true, false, List, [], ◌∷◌, filter, Ordering, Less, Equal, Greater, refl}
use Rattle.std.proofs.Common.{sym, ◌∙◌, ap, subst, inl, inr, ⊎_elim, arith, ◌<◌, ◌≤◌, suc, length, get_or}
use Rattle.std.specs.Prelude.{◌⊎◌}
use Rattle.std.specs.Cmp.Lexicographic.{slice_cmp}
use Rattle.std.specs.List.{AllByRecursion, All}
use Rattle.std.specs.List.Sorted.{IsPermutation, IsSortedBy}
use Rattle.std.specs.Ordering.{is_lt, is_eq, nat_cmp, ordering_reverse}
use Rattle.std.specs.Str.{bytes_eq}
use Rattle.std.proofs.lemmas.Cmp.{nat_list_cmp_total}
use Rattle.std.proofs.lemmas.List.Elements.{All-nil, All-cons, All-head, All-tail}
use Rattle.std.proofs.lemmas.List.MinMax.{ranks_by}
use Rattle.std.proofs.lemmas.List.Sorted.{sorted_far, All-permutation, IsPermutation-sym, IsPermutation-trans}
use Rattle.std.proofs.lemmas.Map.Text.{is_eq-slice_cmp}
use Rattle.std.proofs.lemmas.Slice.Eq.{bytes_eq-Decides}
use Rattle.nt_topics.specs.Properties.{is_persistent}
use Rattle.nt_rules.specs.declared.topic.Topic.{Topic}
use Rattle.nt_rules.specs.declared.topic.Saved.{Saved}
use Rattle.nt_rules.specs.history.Saved.{AreSaved, is_before, persistent_ones, saved_topic}
use Rattle.nt_rules.specs.topics.Apart.{AreApart}
use Rattle.nt_rules.specs.meta.Rosters.{Pairwise}
use Rattle.nt_laws.proofs.topics.Different.{different-permuted}
use Rattle.nt_laws.proofs.topics.ItemFacts.{each-both}
use Rattle.nt_laws.proofs.topics.Pairs.{pairs-map, pairs-filter}

-- ---- the order of names

cmp_of : Saved → Saved → Ordering
cmp_of a b = slice_cmp nat_cmp a.name b.name

back : (a b : Saved) (o : Ordering) → slice_cmp nat_cmp b.name a.name ≡ o
    → slice_cmp nat_cmp a.name b.name ≡ ordering_reverse o
back a b o e = nat_list_cmp_total.antisymm a.name b.name ∙ ap ordering_reverse e

-- neither is before the other where names are the same, and no topic is before itself
before-one : (a b : Saved) → is_before a b ≡ true → is_before b a ≡ true → ⊥
before-one a b e h = by (slice_cmp nat_cmp a.name b.name) refl
  where
    by : (o : Ordering) → slice_cmp nat_cmp a.name b.name ≡ o → ⊥
    by Less is = let other : is_before b a ≡ false = ap is_lt (back b a Less is) in cc
    by Equal is = let none : is_before a b ≡ false = ap is_lt is in cc
    by Greater is = let none : is_before a b ≡ false = ap is_lt is in cc

-- of two with different names one is before the other
before-other : (a b : Saved) → is_before b a ≡ false → a.name ≢ b.name → is_before a b ≡ true
before-other a b e ne = by (slice_cmp nat_cmp b.name a.name) refl
  where
    by : (o : Ordering) → slice_cmp nat_cmp b.name a.name ≡ o → is_before a b ≡ true
    by Less is = let yes : is_before b a ≡ true = ap is_lt is in absurd (cc)
    by Equal is =
        let same : bytes_eq b.name a.name ≡ true = sym (is_eq-slice_cmp b.name a.name) ∙ ap is_eq is in
        absurd (ne (sym ((bytes_eq-Decides b.name a.name).0 same)))
    by Greater is = ap is_lt (back a b Greater is)

-- ---- sorted lists

abbrev IsFar : List Saved → Type 0
IsFar xs = (i j : ℕ) (d : Saved) → i ≤ j → j < length xs → is_before (get_or xs j d) (get_or xs i d) ≡ false

first-far : (x : Saved) (xs : List Saved)
    → ((j : ℕ) (d : Saved) → j < length xs → is_before (get_or xs j d) x ≡ false)
    → AllByRecursion (λ y. is_before y x ≡ false) xs
first-far x [] h = tt
first-far x (y ∷ ys) h = (h 0 y (omega arith), first-far x ys (λ j d less. h (suc j) d (omega arith)))

far-pairs : (xs : List Saved) → IsFar xs → Pairwise (λ a b. is_before b a ≡ false) xs
far-pairs [] h = tt
far-pairs (x ∷ xs) h = (
  first-far x xs (λ j d less. h 0 (suc j) d (omega arith) (omega arith)),
  far-pairs xs (λ i j d le less. h (suc i) (suc j) d (omega arith) (omega arith)),
)

abbrev Rises : List Saved → Type 0
Rises xs = Pairwise (λ a b. is_before a b ≡ true) xs

rises : (xs : List Saved) → Pairwise (λ a b. is_before b a ≡ false) xs
    → Pairwise (λ (a b : Saved). a.name ≢ b.name) xs → Rises xs
rises [] h ne = tt
rises (x ∷ xs) h ne = (
  each-both (λ y. is_before y x ≡ false) (λ (y : Saved). x.name ≢ y.name) (λ y. is_before x y ≡ true)
      (λ y. before-other x y) xs h.0 ne.0,
  rises xs h.1 ne.1,
)

sorted-rises : (xs : List Saved) → IsSortedBy is_before xs
    → Pairwise (λ (a b : Saved). a.name ≢ b.name) xs → Rises xs
sorted-rises xs sorted ne =
    rises xs
    (far-pairs xs (sorted_far is_before (ranks_by nat_list_cmp_total (λ (s : Saved). s.name)) xs sorted)) ne

-- ---- members

abbrev IsAmong : Saved → List Saved → Type 0
IsAmong x [] = ⊥
IsAmong x (y ∷ ys) = (x ≡ y) ⊎ IsAmong x ys

among-each : (P : Saved → Type 0) (xs : List Saved) (x : Saved) → AllByRecursion P xs → IsAmong x xs → P x
among-each P [] x all h = absurd h
among-each P (y ∷ ys) x all h =
    ⊎_elim (λ same. subst P (sym same) all.0) (λ more. among-each P ys x all.1 more) h

among-all : (P : Saved → Type 0) (xs : List Saved) (x : Saved) → All P xs → IsAmong x xs → P x
among-all P [] x all h = absurd h
among-all P (y ∷ ys) x all h =
    ⊎_elim (λ same. subst P (sym same) (All-head P y ys all))
    (λ more. among-all P ys x (All-tail P y ys all) more) h

all-among : (zs xs : List Saved) → ((x : Saved) → IsAmong x xs → IsAmong x zs)
    → All (λ x. IsAmong x zs) xs
all-among zs [] f = All-nil (λ x. IsAmong x zs)
all-among zs (x ∷ xs) f =
    All-cons (λ x. IsAmong x zs) x xs (f x (inl refl)) (all-among zs xs (λ y h. f y (inr h)))

permuted : (xs ys : List Saved) → IsPermutation xs ys → (x : Saved) → IsAmong x ys → IsAmong x xs
permuted xs ys same x h =
    among-all (λ x. IsAmong x xs) ys x
    (All-permutation (λ x. IsAmong x xs) xs ys same (all-among xs xs (λ y k. k))) h

-- ---- two lists that rise, with the same members, are the same

one-list : (xs ys : List Saved) → Rises xs → Rises ys → ((x : Saved) → IsAmong x xs → IsAmong x ys)
    → ((x : Saved) → IsAmong x ys → IsAmong x xs) → xs ≡ ys
one-list [] [] r s to from = refl
one-list [] (y ∷ ys) r s to from = absurd (from y (inl refl))
one-list (x ∷ xs) [] r s to from = absurd (to x (inl refl))
one-list (x ∷ xs) (y ∷ ys) r s to from =
    ap (λ z. z ∷ xs) same
    ∙ ap (λ zs. y ∷ zs) (one-list xs ys r.1 s.1 (λ z h. later z h (to z (inr h))) (λ z h. earlier z h (from z (inr h))))
  where
    same : x ≡ y
    same =
        ⊎_elim (λ e. e)
        (λ h. ⊎_elim (λ e. sym e)
        (λ k. absurd (before-one x y (among-each (λ z. is_before x z ≡ true) xs y r.0 k)
        (among-each (λ z. is_before y z ≡ true) ys x s.0 h))) (from y (inl refl)))
        (to x (inl refl))

    later : (z : Saved) → IsAmong z xs → IsAmong z (y ∷ ys) → IsAmong z ys
    later z h k =
        ⊎_elim (λ e. let itself : is_before x x ≡ true =
        subst (λ w. is_before x w ≡ true) (e ∙ sym same) (among-each (λ w. is_before x w ≡ true) xs z r.0 h) in
        absurd (before-one x x itself itself)) (λ more. more) k

    earlier : (z : Saved) → IsAmong z ys → IsAmong z (x ∷ xs) → IsAmong z xs
    earlier z h k =
        ⊎_elim (λ e. let itself : is_before y y ≡ true =
        subst (λ w. is_before y w ≡ true) (e ∙ same) (among-each (λ w. is_before y w ≡ true) ys z s.0 h) in
        absurd (before-one y y itself itself)) (λ more. more) k

-- ---- saved sets

saved-differ : (ts : List Topic) → Pairwise (λ (a b : Topic). a.name ≢ b.name) ts
    → Pairwise (λ (a b : Saved). a.name ≢ b.name) (persistent_ones ts)
saved-differ ts h =
    pairs-map (λ (a b : Saved). a.name ≢ b.name) saved_topic (filter (λ t. is_persistent t.props) ts)
    (pairs-filter (λ (a b : Topic). a.name ≢ b.name) (λ t. is_persistent t.props) ts h)

saved-rises : (ts : List Topic) (saved : List Saved) → Pairwise (λ (a b : Topic). a.name ≢ b.name) ts
    → AreSaved ts saved → Rises saved
saved-rises ts saved h is =
    sorted-rises saved is.by_name
    (different-permuted (λ (s : Saved). s.name) (λ name s. bytes_eq s.name name)
    (λ name s. bytes_eq-Decides s.name name) (persistent_ones ts) saved is.same (saved-differ ts h))

pub saved-once : (ts : List Topic) (a b : List Saved) → AreApart ts → AreSaved ts a → AreSaved ts b → a ≡ b
saved-once ts a b apart is also =
    let h = apart.names_differ in
    let to = IsPermutation-trans b (persistent_ones ts) a (IsPermutation-sym (persistent_ones ts) b also.same)
    is.same in
    let from = IsPermutation-sym b a to in
    one-list a b (saved-rises ts a h is) (saved-rises ts b h also) (permuted b a to) (permuted a b from)
