-- Lists: what holds of each item, and fronts of lists.
use Rattle.std.proofs.Common.{◌≡◌, ℕ, zero, suc, Bool, true, false, cond, List, [], ◌∷◌, ◌++◌, length, take}
use Rattle.std.proofs.Common.{filter, Some, refl, ap, subst, ◌⊎◌, inl, inr}
use Rattle.std.specs.List.{find, AllByRecursion}

pub each-left : {X : Type 0} (P : X → Type 0) (xs ys : List X) → AllByRecursion P (xs ++ ys) → AllByRecursion P xs
each-left P [] ys h = tt
each-left P (x ∷ xs) ys h = (h.0, each-left P xs ys h.1)

pub each-right : {X : Type 0} (P : X → Type 0) (xs ys : List X) → AllByRecursion P (xs ++ ys) → AllByRecursion P ys
each-right P [] ys h = h
each-right P (x ∷ xs) ys h = each-right P xs ys h.1

-- ---- fronts

pub take-nil : {X : Type 0} (n : ℕ) → take {A = X} n [] ≡ []
take-nil zero = refl
take-nil (suc n) = refl

-- a front of two lists is one of the first, or all of that and one of the second
pub take-parts : {X : Type 0} (n : ℕ) (xs ys : List X)
    → (take n (xs ++ ys) ≡ take n xs) ⊎ ((j : ℕ) × (take n (xs ++ ys) ≡ xs ++ take j ys))
take-parts n [] ys = inr (n, refl)
take-parts zero (x ∷ xs) ys = inl refl
take-parts (suc n) (x ∷ xs) ys = by (take-parts n xs ys)
  where
    by : (take n (xs ++ ys) ≡ take n xs) ⊎ ((j : ℕ) × (take n (xs ++ ys) ≡ xs ++ take j ys))
        → (x ∷ take n (xs ++ ys) ≡ x ∷ take n xs) ⊎ ((j : ℕ) × (x ∷ take n (xs ++ ys) ≡ x ∷ (xs ++ take j ys)))
    by (inl e) = inl (ap (λ (w : List _). x ∷ w) e)
    by (inr e) = inr (e.0, ap (λ (w : List _). x ∷ w) e.1)

-- the items of a front that pass a test are a front of those that pass
pub filter-take : {X : Type 0} (test : X → Bool) (n : ℕ) (xs : List X) → (m : ℕ)
    × (filter test (take n xs) ≡ take m (filter test xs))
filter-take test zero xs = (0, refl)
filter-take test (suc n) [] = (0, refl)
filter-take test (suc n) (x ∷ xs) = by (test x) (filter-take test n xs)
  where
    by : (b : Bool) → (m : ℕ) × (filter test (take n xs) ≡ take m (filter test xs))
        → (m : ℕ) × (cond b (x ∷ filter test (take n xs)) (filter test (take n xs))
        ≡ take m (cond b (x ∷ filter test xs) (filter test xs)))
    by true r = (suc r.0, ap (λ (w : List _). x ∷ w) r.1)
    by false r = r

-- ---- texts and values, one after the other

abbrev pub IsOnly : {X : Type 0} → (X → Bool) → (X → Bool) → X → Type 0
IsOnly t v x = (t x ≡ true) × (v x ≡ false)

all-values : {X : Type 0} (t v : X → Bool) (ys : List X) (n : ℕ) → AllByRecursion (IsOnly v t) ys
    → (filter t (take n ys) ≡ []) × (filter v (take n ys) ≡ take n ys)
all-values t v ys zero b = (refl, refl)
all-values t v [] (suc n) b = (refl, refl)
all-values t v (y ∷ ys) (suc n) b =
    let e = all-values t v ys n b.1 in
    let t_no = b.0.1 in
    let v_yes = b.0.0 in
    (rw t_no e.0, rw v_yes (ap (λ (w : List _). y ∷ w) e.1))

pub split-text : {X : Type 0} (t v : X → Bool) (xs ys : List X) (n : ℕ)
    → AllByRecursion (IsOnly t v) xs → AllByRecursion (IsOnly v t) ys
    → filter t (take n (xs ++ ys)) ++ filter v (take n (xs ++ ys)) ≡ take n (xs ++ ys)
split-text t v [] ys n a b = rw ((all-values t v ys n b).0, (all-values t v ys n b).1) refl
split-text t v (x ∷ xs) ys zero a b = refl
split-text t v (x ∷ xs) ys (suc n) a b =
    let t_yes = a.0.0 in
    let v_no = a.0.1 in
    rw (t_yes, v_no) (ap (λ (w : List _). x ∷ w) (split-text t v xs ys n a.1 b))

pub take-take : {X : Type 0} (n : ℕ) (xs : List X) → take (length (take n xs)) xs ≡ take n xs
take-take zero xs = refl
take-take (suc n) [] = refl
take-take (suc n) (x ∷ xs) = ap (λ (w : List _). x ∷ w) (take-take n xs)

pub take-all : {X : Type 0} (xs : List X) → take (length xs) xs ≡ xs
take-all [] = refl
take-all (x ∷ xs) = ap (λ (w : List _). x ∷ w) (take-all xs)

-- ---- found items

-- what each item has, the found one has
pub found-has : {X : Type 0} (P : X → Type 0) (test : X → Bool) (xs : List X) (x : X) → AllByRecursion P xs
    → find test xs ≡ Some x → P x
found-has P test [] x h e = cc
found-has {X} P test (y ∷ xs) x h e = by (λ g. found-has P test xs x h.1 g) (test y) e
  where
    by : (find test xs ≡ Some x → P x) → (b : Bool) → cond b (Some y) (find test xs) ≡ Some x → P x
    by more true e = let same : y ≡ x = cc in subst P same h.0
    by more false e = more e
