-- What an answer says by the test of whether it is an error.
use Rattle.std.proofs.Common.{◌≡◌, ℤ, true, false, List, ◌∷◌, [], Option, Some, None, Result, Ok, Err, Ordering, Less, Equal, Greater, refl}
use Rattle.std.specs.Prelude.{OnOk, OnErr, is_err, is_some}
use Rattle.std.specs.Ordering.{int_cmp, match_ordering}
use Rattle.std.specs.BTreeMap.{insert_entry, is_at}
use Rattle.std.specs.Map.{lookup}
use Rattle.std.proofs.lemmas.Cmp.{int_cmp_total, tied_itself}

pub on-err : {X E Q : Type 0} (r : Result X E) → is_err r ≡ true → OnErr r Q → Q
on-err (Ok x) e q = absurd (cc)
on-err (Err x) e q = q

pub on-ok : {X E Q : Type 0} (r : Result X E) → is_err r ≡ false → OnOk r Q → Q
on-ok (Ok x) e q = q
on-ok (Err x) e q = absurd (cc)

-- one that can't be an error
pub ok-only : {X E Q N : Type 0} (r : Result X E) → OnOk r Q → OnErr r N → (N → ⊥) → Q
ok-only (Ok x) q n never = q
ok-only (Err x) q n never = absurd (never n)

pub none-of : {X : Type 0} (o : Option X) → is_some o ≡ false → o ≡ None
none-of None e = refl
none-of (Some x) e = absurd (cc)

-- what was put at a key is found there
pub put-found : {X : Type 0} (k : ℤ) (v : X) (es : List (ℤ × X))
    → lookup (is_at (int_cmp k)) (insert_entry int_cmp es k v) ≡ Some v
put-found k v [] = rw (tied_itself int_cmp_total k) refl
put-found {X} k v (e ∷ es) = by (int_cmp k e.0) refl (put-found k v es)
  where
    by : (r : Ordering) → int_cmp k e.0 ≡ r
        → lookup (is_at (int_cmp k)) (insert_entry int_cmp es k v) ≡ Some v
        → lookup (is_at (int_cmp k))
        (match_ordering r ((k, v) ∷ e ∷ es) ((e.0, v) ∷ es) (e ∷ insert_entry int_cmp es k v)) ≡ Some v
    by Less p later = rw (tied_itself int_cmp_total k) refl
    by Equal p later = rw p refl
    by Greater p later = rw p later
