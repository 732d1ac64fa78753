-- What is told of a message, by where its topic was found.
use Rattle.std.proofs.Common.{◌≡◌, ℕ, zero, suc, ℤ, false, List, [], ◌∷◌, ◌++◌, Some, get_or, slice_get, refl, sym, ◌∙◌, ap}
use Rattle.std.specs.List.{find, list_any}
use Rattle.std.specs.Ordering.{int_eq}
use Rattle.std.proofs.lemmas.Slice.Eq.{bytes_eq-Decides}
use Rattle.serde_json.specs.Data.{Data}
use Rattle.nt_frames.specs.declared.message.ValueMsg.{ValueMsg}
use Rattle.nt_rules.specs.declared.held.Held.{Held}
use Rattle.nt_rules.specs.declared.topic.Change.{Change}
use Rattle.nt_rules.specs.declared.topic.Change.TheVariants.{Started, Changed, Props, Ended}
use Rattle.nt_rules.specs.telling.Told.{is_called}
use Rattle.nt_client.specs.Sorted.{IsFoundAt, IsMissedAt}
use Rattle.nt_client.specs.Kept.{id_of, IsLastAt}
use Rattle.nt_client.specs.Taking.{if_held, start_by, end_by, update_by, value_by}
use Rattle.nt_client.proofs.Search.{find-found, find-missed, get-found, key-found, any-found, any-missed}
use Rattle.nt_client.proofs.Keeping.{called-last, called-none}

append-none : (xs : List Change) → xs ++ [] ≡ xs
append-none [] = refl
append-none (x ∷ xs) = ap (λ ys. x ∷ ys) (append-none xs)

pub no-change : (told more : List Change) → more ≡ [] → told ≡ told ++ more
no-change told more none = sym (ap (λ cs. told ++ cs) none ∙ append-none told)

pub start-found : (name : List ℕ) (id : ℤ) (typ : List ℕ) (props : Data) (held : List Held) (i : ℕ)
    → IsFoundAt id_of id held i → start_by name id typ props held ≡ []
start-found name id typ props held i at = rw (any-found id_of id held i at) refl

pub start-missed : (name : List ℕ) (id : ℤ) (typ : List ℕ) (props : Data) (held : List Held) (i : ℕ)
    → IsMissedAt id_of id held i → start_by name id typ props held ≡ Started id name typ props ∷ []
start-missed name id typ props held i at = rw (any-missed id_of id held i at) refl

-- the topic of an id
found-item : (id : ℤ) (held : List Held) (i : ℕ) (h : Held) → IsFoundAt id_of id held i → h ≡ get_or held i h
    → find (λ x. int_eq (id_of x) id) held ≡ Some h
found-item id held i h at e = find-found id_of id held i at ∙ get-found id_of id held i h at ∙ ap Some (sym e)

found-id : (id : ℤ) (held : List Held) (i : ℕ) (h : Held) → IsFoundAt id_of id held i → h ≡ get_or held i h → h.id ≡ id
found-id id held i h at e = ap id_of e ∙ key-found id_of id held i h at

pub end-found : (id : ℤ) (held : List Held) (i : ℕ) (h : Held) → IsFoundAt id_of id held i → h ≡ get_or held i h
    → end_by id held ≡ Ended id h.name ∷ []
end-found id held i h at e =
    ap (if_held (λ x. Ended x.id x.name)) (found-item id held i h at e)
    ∙ ap (λ k. Ended k h.name ∷ []) (found-id id held i h at e)

pub end-missed : (id : ℤ) (held : List Held) (i : ℕ) → IsMissedAt id_of id held i → end_by id held ≡ []
end-missed id held i at = ap (if_held (λ x. Ended x.id x.name)) (find-missed id_of id held i at)

pub value-found : (v : ValueMsg) (held : List Held) (i : ℕ) (h : Held) → IsFoundAt id_of v.id held i
    → h ≡ get_or held i h → value_by v held ≡ Changed v.id h.name v.time v.value ∷ []
value-found v held i h at e =
    ap (if_held (λ x. Changed x.id x.name v.time v.value)) (found-item v.id held i h at e)
    ∙ ap (λ k. Changed k h.name v.time v.value ∷ []) (found-id v.id held i h at e)

pub value-nowhere : (v : ValueMsg) (held : List Held) (i : ℕ) → IsMissedAt id_of v.id held i → value_by v held ≡ []
value-nowhere v held i at =
    ap (if_held (λ x. Changed x.id x.name v.time v.value)) (find-missed id_of v.id held i at)

-- the topic of a name
pub last-name : (name : List ℕ) (held : List Held) (i : ℕ) (h : Held) → IsLastAt name held i → h ≡ get_or held i h
    → h.name ≡ name
last-name name [] i h at e = absurd at
last-name name (x ∷ held) zero h at e = ap (λ (y : Held). y.name) e ∙ (bytes_eq-Decides x.name name).0 at.0
last-name name (x ∷ held) (suc i) h at e = last-name name held i h at e

last-item : (name : List ℕ) (held : List Held) (i : ℕ) (h : Held) → IsLastAt name held i → h ≡ get_or held i h
    → slice_get held i ≡ Some h
last-item name [] i h at e = absurd at
last-item name (x ∷ held) zero h at e = ap Some (sym e)
last-item name (x ∷ held) (suc i) h at e = last-item name held i h at e

pub update-last : (name : List ℕ) (update : Data) (held : List Held) (i : ℕ) (h : Held) → IsLastAt name held i
    → h ≡ get_or held i h → update_by name update held ≡ Props h.id name update ∷ []
update-last name update held i h at e =
    ap (if_held (λ x. Props x.id x.name update)) (called-last name held i at ∙ last-item name held i h at e)
    ∙ ap (λ n. Props h.id n update ∷ []) (last-name name held i h at e)

pub update-none : (name : List ℕ) (update : Data) (held : List Held) → list_any (is_called name) held ≡ false
    → update_by name update held ≡ []
update-none name update held none =
    ap (if_held (λ x. Props x.id x.name update)) (called-none name held none)
