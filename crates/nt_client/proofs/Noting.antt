-- The ids under names, where those of one name changed.
use Rattle.std.proofs.Common.{◌≡◌, ◌⊎◌, ℕ, ℤ, Bool, true, false, cond, List, [], Option, Some, None, inl, inr, refl, sym, subst}
use Rattle.std.specs.Prelude.{option_map, unwrap_or}
use Rattle.std.specs.List.{Contains}
use Rattle.std.specs.Str.{bytes_eq}
use Rattle.std.proofs.lemmas.Slice.Eq.{bytes_eq-Decides}
use Rattle.nt_client.specs.Sorted.{Rise}
use Rattle.nt_client.specs.Names.{itself}

-- those under one name are these, and the others as before
abbrev pub IsChangedAt : List ℕ → List ℤ → (List ℕ → List ℤ) → (List ℕ → List ℤ) → Type 0
IsChangedAt name ids old new = (n : List ℕ) → new n ≡ cond (bytes_eq name n) ids (old n)

pub in-order-changed : (name : List ℕ) (ids : List ℤ) (old new : List ℕ → List ℤ) → IsChangedAt name ids old new
    → ((n : List ℕ) → Rise itself (old n)) → Rise itself ids → (n : List ℕ) → Rise itself (new n)
in-order-changed name ids old new changed order rise n =
    subst (λ (xs : List ℤ). Rise itself xs) (sym (changed n)) (by (bytes_eq name n))
  where
    by : (b : Bool) → Rise itself (cond b ids (old n))
    by true = rise
    by false = order n

pub stays-changed : (name : List ℕ) (ids : List ℤ) (old new : List ℕ → List ℤ) → IsChangedAt name ids old new
    → ((k : ℤ) → Contains (old name) k → Contains ids k) → (n : List ℕ) (k : ℤ) → Contains (old n) k
    → Contains (new n) k
stays-changed name ids old new changed stays n k h =
    subst (λ (xs : List ℤ). Contains xs k) (sym (changed n)) (by (bytes_eq name n) refl)
  where
    by : (b : Bool) → bytes_eq name n ≡ b → Contains (cond b ids (old n)) k
    by true e = stays k (subst (λ (m : List ℕ). Contains (old m) k) (sym ((bytes_eq-Decides name n).0 e)) h)
    by false e = h

pub others-changed : (name : List ℕ) (id : ℤ) (ids : List ℤ) (old new : List ℕ → List ℤ)
    → IsChangedAt name ids old new → ((k : ℤ) → Contains (old name) k → (k ≡ id) ⊎ Contains ids k) → (n : List ℕ)
    (k : ℤ) → Contains (old n) k → ((n ≡ name) × (k ≡ id)) ⊎ Contains (new n) k
others-changed name id ids old new changed stays n k h =
    subst (λ (xs : List ℤ). ((n ≡ name) × (k ≡ id)) ⊎ Contains xs k) (sym (changed n)) (by (bytes_eq name n) refl)
  where
    which : n ≡ name → (k ≡ id) ⊎ Contains ids k → ((n ≡ name) × (k ≡ id)) ⊎ Contains ids k
    which same (inl e) = inl (same, e)
    which same (inr h) = inr h

    by : (b : Bool) → bytes_eq name n ≡ b → ((n ≡ name) × (k ≡ id)) ⊎ Contains (cond b ids (old n)) k
    by true e =
        let same : name ≡ n = (bytes_eq-Decides name n).0 e in
        which (sym same) (stays k (subst (λ (m : List ℕ). Contains (old m) k) (sym same) h))
    by false e = inr h

-- what is read of a map after a change
pub read-changed : {V : Type 0} (f : V → List ℤ) (b : Bool) (v : V) (o : Option V)
    → unwrap_or (option_map f (cond b (Some v) o)) [] ≡ cond b (f v) (unwrap_or (option_map f o) [])
read-changed f true v o = refl
read-changed f false v o = refl

pub read-dropped : {V : Type 0} (f : V → List ℤ) (b : Bool) (o : Option V)
    → unwrap_or (option_map f (cond b None o)) [] ≡ cond b [] (unwrap_or (option_map f o) [])
read-dropped f true o = refl
read-dropped f false o = refl
