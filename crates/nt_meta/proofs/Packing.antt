-- An array that is written element by element is the array of them all.
use Rattle.std.proofs.Common.{◌≡◌, ℕ, ◌+◌, ◌<◌, ◌≤◌, Bool, true, false, List, [], ◌∷◌, ◌++◌, length, map, drop, get_or, nat_le, refl, ap, sym, ◌∙◌, append_assoc, append-nil, length-append, arith, cond, suc, add-one, drop-cons}
use Rattle.std.proofs.lemmas.List.{drop_all}
use Rattle.std.specs.List.{flat_map}
use Rattle.nt_msgpack.specs.Atoms.{AtomValue, array_head, shortest}
use Rattle.nt_rules.specs.Limits.{most_bytes}
use Rattle.nt_rules.specs.meta.Elements.{spelled}
use Rattle.nt_rules.specs.meta.Packing.{fitting, array_bytes}
use Rattle.nt_meta.specs.Packing.{Packed, none_packed, with_element, with_elements, packed_bytes}

-- nothing is kept behind an element that was cut off
full-stays : (count : ℕ) (bytes : List ℕ) (xs : List (List AtomValue))
    → with_elements (record { count = count; bytes = bytes; is_full = true }) xs
    ≡ record { count = count; bytes = bytes; is_full = true }
full-stays count bytes [] = refl
full-stays count bytes (x ∷ xs) = full-stays count bytes xs

-- the array of what is there and of what is kept behind it
abbrev array_behind : ℕ → List ℕ → List (List ℕ) → List ℕ
array_behind count bytes kept = shortest (array_head (count + length kept))
    ++ (bytes ++ flat_map (λ x. x) kept)

behind-none : (count : ℕ) (bytes : List ℕ) → shortest (array_head count) ++ bytes
    ≡ array_behind count bytes []
behind-none count bytes =
    let n : count ≡ count + length {A = List ℕ} [] = omega arith in
    ap (λ z. shortest (array_head z) ++ bytes) n
    ∙ ap (λ z. shortest (array_head (count + length {A = List ℕ} [])) ++ z) (sym (append-nil bytes))

behind-more : (count : ℕ) (bytes x : List ℕ) (kept : List (List ℕ))
    → array_behind (count + 1) (bytes ++ x) kept ≡ array_behind count bytes (x ∷ kept)
behind-more count bytes x kept =
    let n : (count + 1) + length kept ≡ count + length (x ∷ kept) = omega arith in
    ap (λ z. shortest (array_head z) ++ ((bytes ++ x) ++ flat_map (λ x. x) kept)) n
    ∙ ap (λ z. shortest (array_head (count + length (x ∷ kept))) ++ z)
    (append_assoc bytes x (flat_map (λ x. x) kept))

packed-behind : (count : ℕ) (bytes : List ℕ) (xs : List (List AtomValue))
    → packed_bytes (with_elements (record { count = count; bytes = bytes; is_full = false }) xs)
    ≡ array_behind count bytes (fitting (length bytes) (map spelled xs))
packed-behind count bytes [] = behind-none count bytes
packed-behind count bytes (x ∷ xs) =
    by (nat_le (length bytes + length (spelled x)) most_bytes)
    (packed-behind (count + 1) (bytes ++ spelled x) xs
    ∙ ap (λ n. array_behind (count + 1) (bytes ++ spelled x) (fitting n (map spelled xs)))
    (length-append bytes (spelled x)))
  where
    by : (b : Bool)
        → (packed_bytes (with_elements (record
        { count = count + 1; bytes = bytes ++ spelled x; is_full = false }) xs)
        ≡ array_behind (count + 1) (bytes ++ spelled x)
        (fitting (length bytes + length (spelled x)) (map spelled xs)))
        → packed_bytes (with_elements (cond b
        (record { count = count + 1; bytes = bytes ++ spelled x; is_full = false })
        (record { count = count; bytes = bytes; is_full = true })) xs)
        ≡ array_behind count bytes (cond b
        (spelled x ∷ fitting (length bytes + length (spelled x)) (map spelled xs)) [])
    by true rest = rest ∙ behind-more count bytes (spelled x)
        (fitting (length bytes + length (spelled x)) (map spelled xs))
    by false rest = ap packed_bytes (full-stays count bytes xs) ∙ behind-none count bytes

pub packed_array : (xs : List (List AtomValue)) → packed_bytes (with_elements none_packed xs) ≡ array_bytes xs
packed_array xs =
    let kept = fitting 0 (map spelled xs) in
    let n : 0 + length kept ≡ length kept = omega arith in
    packed-behind 0 [] xs ∙ ap (λ z. shortest (array_head z) ++ flat_map (λ x. x) kept) n

pub with_append : (p : Packed) (xs ys : List (List AtomValue))
    → with_elements (with_elements p xs) ys ≡ with_elements p (xs ++ ys)
with_append p [] ys = refl
with_append p (x ∷ xs) ys = with_append (with_element p (spelled x)) xs ys

drop_next : {X : Type 0} (xs : List X) (i : ℕ) (x : X) → i < length xs → x ≡ get_or xs i x
    → drop i xs ≡ x ∷ drop (i + 1) xs
drop_next xs i x l at = rw (add-one) (drop-cons xs i x l ∙ ap (λ z. z ∷ drop (suc i) xs) (sym at))

-- one more part of a list that is made part by part
pub with-part : {X : Type 0} (f : X → List (List AtomValue)) (xs : List X) (i : ℕ) (x : X) (p q all : Packed)
    → i < length xs → x ≡ get_or xs i x → with_elements p (flat_map f (drop i xs)) ≡ all
    → q ≡ with_elements p (f x) → with_elements q (flat_map f (drop (i + 1) xs)) ≡ all
with-part f xs i x p q all l at before e =
    let first : drop i xs ≡ x ∷ drop (i + 1) xs = drop_next xs i x l at in
    ap (λ z. with_elements z (flat_map f (drop (i + 1) xs))) e
    ∙ with_append p (f x) (flat_map f (drop (i + 1) xs))
    ∙ sym (ap (λ z. with_elements p (flat_map f z)) first)
    ∙ before

-- all parts
pub with-parts : {X : Type 0} (f : X → List (List AtomValue)) (xs : List X) (i : ℕ) (p : Packed)
    → length xs ≤ i
    → with_elements p (flat_map f (drop i xs)) ≡ with_elements none_packed (flat_map f xs)
    → packed_bytes p ≡ array_bytes (flat_map f xs)
with-parts f xs i p l all =
    ap packed_bytes (sym (ap (λ z. with_elements p (flat_map f z)) (drop_all i xs l)) ∙ all)
    ∙ packed_array (flat_map f xs)
