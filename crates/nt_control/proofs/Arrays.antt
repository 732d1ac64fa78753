-- The elements of an array, as they are read and as they are written.
use Rattle.std.proofs.Common.{◌≡◌, ◌<◌, ◌+◌, ℕ, suc, List, [], ◌∷◌, ◌++◌, Bool, false, Option, map, count_by, cond, is_none, length, drop, get_or, refl, ap, sym, ◌∙◌, add-one, append_assoc, drop-cons, arith, ◌≤◌}
use Rattle.std.proofs.lemmas.Bool.{or_parts}
use Rattle.std.proofs.lemmas.List.{map-append, append-nil, length-drop, nil_from_length}
use Rattle.std.proofs.lemmas.List.Elements.{filter_map-append}
use Rattle.std.proofs.lemmas.List.Sums.{sum_by_push}
use Rattle.std.specs.List.{filter_map}
use Rattle.serde_json.specs.Data.{Data}
use Rattle.serde_json.specs.View.{view, items_view, items_of}
use Rattle.serde_json.specs.Written.{has_float, items_have_float}
use Rattle.serde_json.specs.declared.value.Value.{Value}
use Rattle.nt_control.specs.Elements.{listed, Says}

-- the items of an array are its values' trees
pub listed-items_of : (ds : List Data) → listed (items_of ds) ≡ ds
listed-items_of [] = refl
listed-items_of (d ∷ ds) = ap (λ rest. d ∷ rest) (listed-items_of ds)

-- the next item of a list
next : {B : Type 0} (bs : List B) (i : ℕ) (b : B) → i < length bs → b ≡ get_or bs i b
    → drop i bs ≡ b ∷ drop (i + 1) bs
next bs i b within here =
    rw add-one (drop-cons bs i b within ∙ ap (λ x. x ∷ drop (suc i) bs) (sym here))

-- what has been written of a frame: the elements of the messages so far, which hold no float and are
-- read as these messages again, none being passed over
pub record Written {M : Type 0} (written : M → Data) (message : Data → Option M) (msgs : List M)
    (done : List Value) (i : ℕ) : Type 0 where
  pub elements : map view done ++ map written (drop i msgs) ≡ map written msgs
  pub whole : items_have_float (items_view done) ≡ false
  pub read : filter_map message (map view done) ++ drop i msgs ≡ msgs
  pub none_passed : count_by (λ d. is_none (message d)) (map view done) ≡ 0

-- nothing has been written at first
pub written_none : {M : Type 0} (written : M → Data) (message : Data → Option M) (msgs : List M)
    → Written written message msgs [] 0
written_none written message msgs =
    record { elements = refl; whole = refl; read = refl; none_passed = refl }

-- the items have no float where one without is added at the end
no_float_more : (values : List Value) (v : Value) → items_have_float (items_view values) ≡ false
    → has_float (view v) ≡ false → items_have_float (items_view (values ++ v ∷ [])) ≡ false
no_float_more [] v none whole = rw whole refl
no_float_more (w ∷ values) v none whole =
    let parts = or_parts (has_float (view w)) (items_have_float (items_view values)) none in
    rw parts.0 (no_float_more values v parts.1 whole)

-- the count of items that pass a test, where one that fails is added at the end
count_by_fails : {X : Type 0} (p : X → Bool) (xs : List X) (x : X) → p x ≡ false → count_by p xs ≡ 0
    → count_by p (xs ++ x ∷ []) ≡ 0
count_by_fails p xs x fails none = rw (sum_by_push (λ y. cond (p y) 1 0) xs x, none, fails) refl

-- one message more is written
pub written_more : {M : Type 0} (written : M → Data) (message : Data → Option M) (msgs : List M)
    (done : List Value) (i : ℕ) (v : Value) (m : M)
    → i < length msgs → m ≡ get_or msgs i m → Says written message (view v) m
    → Written written message msgs done i
    → Written written message msgs (done ++ v ∷ []) (i + 1)
written_more written message msgs done i v m within here says so_far =
    let after = next msgs i m within here in
    let added = map-append view done (v ∷ []) in
    record {
      elements = rw (added, append_assoc, says.is) (rw after at so_far.elements);
      whole = no_float_more done v so_far.whole says.whole;
      read =
          rw (added, filter_map-append message (map view done) (view v ∷ []), append_assoc, says.read)
          (rw after at so_far.read);
      none_passed =
          rw added
          (count_by_fails (λ d. is_none (message d)) (map view done) (view v) (ap is_none says.read)
          so_far.none_passed);
    }

-- the whole frame is written
pub written_all : {M : Type 0} (written : M → Data) (message : Data → Option M) (msgs : List M)
    (done : List Value) (i : ℕ)
    → length msgs ≤ i → Written written message msgs done i
    → (map view done ≡ map written msgs) × (filter_map message (map view done) ≡ msgs)
written_all written message msgs done i all so_far =
    let none : drop i msgs ≡ [] = nil_from_length _ (omega (arith, length-drop i msgs)) in
    (sym (append-nil _) ∙ rw none at so_far.elements, sym (append-nil _) ∙ rw none at so_far.read)
