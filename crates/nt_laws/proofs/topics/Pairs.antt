-- What holds of each item of a list and each one after it.
use Rattle.std.proofs.Common.{Bool, true, false, cond, List, [], ◌∷◌, ◌++◌, map, filter}
use Rattle.std.specs.List.{AllByRecursion}
use Rattle.nt_rules.specs.meta.Rosters.{Pairwise}
use Rattle.nt_laws.proofs.topics.ItemFacts.{each-more, each-append, each-filter, each-map}

pub pairs-more : {X : Type 0} (R S : X → X → Type 0) → ((a b : X) → R a b → S a b) → (xs : List X)
    → Pairwise R xs → Pairwise S xs
pairs-more R S f [] h = tt
pairs-more R S f (x ∷ xs) h = (each-more (R x) (S x) (f x) xs h.0, pairs-more R S f xs h.1)

pub pairs-map : {X Y : Type 0} (R : Y → Y → Type 0) (f : X → Y) (xs : List X)
    → Pairwise (λ a b. R (f a) (f b)) xs → Pairwise R (map f xs)
pairs-map R f [] h = tt
pairs-map R f (x ∷ xs) h = (each-map (R (f x)) f xs h.0, pairs-map R f xs h.1)

-- those that pass a test
pub pairs-filter : {X : Type 0} (R : X → X → Type 0) (test : X → Bool) (xs : List X) → Pairwise R xs
    → Pairwise R (filter test xs)
pairs-filter R test [] h = tt
pairs-filter R test (x ∷ xs) h = by (test x) (pairs-filter R test xs h.1)
  where
    by : (b : Bool) → Pairwise R (filter test xs)
        → Pairwise R (cond b (x ∷ filter test xs) (filter test xs))
    by true more = (each-filter (R x) test xs h.0, more)
    by false more = more

-- an item more at the end
pub pairs-push : {X : Type 0} (R : X → X → Type 0) (xs : List X) (y : X) → AllByRecursion (λ x. R x y) xs
    → Pairwise R xs → Pairwise R (xs ++ y ∷ [])
pairs-push R [] y last h = (tt, tt)
pairs-push R (x ∷ xs) y last h =
    (each-append (R x) xs (y ∷ []) h.0 (last.0, tt), pairs-push R xs y last.1 h.1)
