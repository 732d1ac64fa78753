-- Rows that are put in order are the same rows.
use Rattle.std.proofs.Common.{Bool, true, false, cond, List, [], ◌∷◌, ◌++◌, map, refl}
use Rattle.std.proofs.Common.{sym, subst, append-nil}
use Rattle.std.specs.List.Sorted.{IsPermutation}
use Rattle.std.proofs.lemmas.List.Sorted.{IsPermutation-refl, IsPermutation-cons, IsPermutation-trans}
use Rattle.std.proofs.lemmas.List.Sorted.{IsPermutation-middle, IsPermutation-append_left}
use Rattle.nt_rules.specs.declared.roster.Roster.{Roster}
use Rattle.nt_rules.specs.meta.Order.{insert_after, insert_all, pub_below, sub_below, conn_below, ordered_conn}
use Rattle.nt_rules.specs.meta.Order.{ordered}
use Rattle.nt_rules.specs.meta.Rosters.{HasSameRows}

-- the first two items change places
swapped : {X : Type 0} (r x : X) (xs : List X) → IsPermutation (r ∷ x ∷ xs) (x ∷ r ∷ xs)
swapped r x xs = IsPermutation-middle (r ∷ []) x xs

-- an item put among others
inserted : {X : Type 0} (below : X → X → Bool) (r : X) (xs : List X)
    → IsPermutation (r ∷ xs) (insert_after below r xs)
inserted below r [] = IsPermutation-refl (r ∷ [])
inserted below r (x ∷ xs) = by (below r x) (inserted below r xs)
  where
    by : (b : Bool) → IsPermutation (r ∷ xs) (insert_after below r xs)
        → IsPermutation (r ∷ x ∷ xs) (cond b (r ∷ x ∷ xs) (x ∷ insert_after below r xs))
    by true more = IsPermutation-refl (r ∷ x ∷ xs)
    by false more =
        IsPermutation-trans (r ∷ x ∷ xs) (x ∷ r ∷ xs) (x ∷ insert_after below r xs) (swapped r x xs)
        (IsPermutation-cons x (r ∷ xs) (insert_after below r xs) more)

pub all-inserted : {X : Type 0} (below : X → X → Bool) (rows rs : List X)
    → IsPermutation (rows ++ rs) (insert_all below rows rs)
all-inserted below rows [] =
    subst (λ xs. IsPermutation xs rows) (sym (append-nil rows)) (IsPermutation-refl rows)
all-inserted below rows (r ∷ rs) =
    let more = insert_after below r rows in
    IsPermutation-trans (rows ++ r ∷ rs) (r ∷ (rows ++ rs)) (insert_all below more rs)
    (IsPermutation-middle rows r rs)
    (IsPermutation-trans ((r ∷ rows) ++ rs) (more ++ rs) (insert_all below more rs)
    (IsPermutation-append_left rs (r ∷ rows) more (inserted below r rows)) (all-inserted below more rs))

-- a roster put in order has the same rows
pub rows-kept : (r : Roster) → HasSameRows r (ordered r)
rows-kept r =
    record {
      reordered = ordered_conn;
      each = λ c. record {
        conn = refl;
        name = refl;
        pubs = all-inserted pub_below [] c.pubs;
        subs = all-inserted sub_below [] c.subs;
      };
      conns = all-inserted conn_below [] (map ordered_conn r.conns);
      topics = refl;
    }
