-- Which items are refused, and which entries are live as items come.
use Rattle.std.proofs.Common.{◌≡◌, ◌≢◌, ℕ, ◌≤◌, Bool, true, false, cond, List, [], ◌∷◌, length, All, Option, None, Some, refl, sym, ap, ◌∙◌, eqb, ltb, leb}
use Rattle.std.specs.Cmp.{unsigned_tied}
use Rattle.std.specs.Ordering.{nat_cmp}
use Rattle.std.specs.Map.{keys_of}
use Rattle.std.specs.BTreeMap.{is_at}
use Rattle.std.proofs.lemmas.Bool.{eqb-true, eqb-false, eq-eqb, ne_eqb, ltb-false, le-ltb, leb-false, lt-leb}
use Rattle.std.proofs.lemmas.List.Elements.{All-head, All-tail}
use Rattle.std.proofs.lemmas.Map.Views.{All-keys-insert_entry, All-map-remove_entry}
use Rattle.wpilog_write.specs.declared.item.LogItem.{LogItem}
use Rattle.wpilog_write.specs.declared.item.LogItem.TheVariants.{Start, Value, SetMeta, Finish}
use Rattle.wpilog_write.specs.declared.item.LogType.{LogType}
use Rattle.wpilog_write.specs.declared.item.LogType.TheVariants as types
use Rattle.wpilog_write.specs.declared.item.LogValue.{LogValue}
use Rattle.wpilog_write.specs.declared.refused.WriteRefused.{WriteRefused}
use Rattle.wpilog_write.specs.declared.refused.WriteRefused.TheVariants.{IdZero, NotLive, Live, TooManyLive, Misfit, TooLarge}
use Rattle.wpilog_write.specs.Log.{most_bytes, most_live, Entries, type_of, is_live, type_named, value_type, live_after, MayCome}
use Rattle.wpilog_write.specs.Written.{payload_of}
use Rattle.wpilog_write.specs.Writer.{type_number, misfit, out_of_place, too_large, first_of, refusal}
use Rattle.wpilog_write.specs.Fits.{IsWithin}
use Rattle.wpilog_write.proofs.Payloads.{IsNamed}

-- no refusal
abbrev none : Option WriteRefused
none = None

-- ---- tests

-- a test that refuses, and one that takes
passed : (test : Bool) (why : WriteRefused) (other : Option WriteRefused) → cond test (Some why) other ≡ None
    → (test ≡ false) × (other ≡ None)
passed true why other e = absurd cc
passed false why other e = (refl, e)

taken : (test : Bool) (why : WriteRefused) → cond test none (Some why) ≡ None → test ≡ true
taken true why e = refl
taken false why e = absurd cc

-- neither of two refuses
neither : (first other : Option WriteRefused) → first_of first other ≡ None → (first ≡ None) × (other ≡ None)
neither (Some why) other e = absurd cc
neither None other e = (refl, e)

-- ---- types, by their numbers

-- the type of a number
type_at : ℕ → LogType
type_at n =
    cond (eqb n 0) types.Boolean (cond (eqb n 1) types.Int64 (cond (eqb n 2) types.Float (cond (eqb n 3) types.Double
    (cond (eqb n 4) types.Booleans (cond (eqb n 5) types.Int64s (cond (eqb n 6) types.Floats
    (cond (eqb n 7) types.Doubles (cond (eqb n 8) types.Strings types.Other))))))))

type_at-number : (typ : LogType) → type_at (type_number typ) ≡ typ
unfolding type_at
type_at-number types.Boolean = refl
type_at-number types.Int64 = refl
type_at-number types.Float = refl
type_at-number types.Double = refl
type_at-number types.Booleans = refl
type_at-number types.Int64s = refl
type_at-number types.Floats = refl
type_at-number types.Doubles = refl
type_at-number types.Strings = refl
type_at-number types.Other = refl

-- types of one number are one
same-number : (a b : LogType) → type_number a ≡ type_number b → a ≡ b
same-number a b e = sym (type_at-number a) ∙ ap type_at e ∙ type_at-number b

-- ---- what is refused

-- a value that is taken is of its entry's type, and the other way round
fitting : (kept : Option LogType) (value : LogValue) → misfit kept value ≡ None → kept ≡ Some (value_type value)
fitting None value e = absurd cc
fitting (Some typ) value e =
    let same : type_number (value_type value) ≡ type_number typ = eqb-true _ _ (taken _ Misfit e) in
    ap (λ (t : LogType). Some t) (sym (same-number (value_type value) typ same))

fitting-taken : (kept : Option LogType) (value : LogValue) → kept ≡ Some (value_type value) → misfit kept value ≡ None
fitting-taken kept value e = rw e (ap (λ (test : Bool). cond test none (Some Misfit))
    (eq-eqb (type_number (value_type value)) (type_number (value_type value)) refl))

-- an item that isn't out of place may come
in-place : (live : Entries) (item : LogItem) → out_of_place live item ≡ None → MayCome live item
in-place live (Start time id name typ meta) e =
    let first = passed (eqb id 0) IdZero _ e in
    let second = passed (is_live live id) Live _ first.1 in
    let third = passed (leb most_live (length live)) TooManyLive none second.1 in
    (eqb-false id 0 first.0, second.0, leb-false most_live (length live) third.0)
in-place live (Value time id value) e = fitting (type_of live id) value e
in-place live (SetMeta time id meta) e = taken (is_live live id) NotLive e
in-place live (Finish time id) e = taken (is_live live id) NotLive e

-- and the other way round
may-place : (live : Entries) (item : LogItem) → MayCome live item → out_of_place live item ≡ None
may-place live (Start time id name typ meta) may =
    let number : eqb id 0 ≡ false = ne_eqb id 0 may.0 in
    let many : leb most_live (length live) ≡ false = lt-leb most_live (length live) may.2 in
    rw (number, may.1, many) refl
may-place live (Value time id value) may = fitting-taken (type_of live id) value may
may-place live (SetMeta time id meta) may = rw may refl
may-place live (Finish time id) may = rw may refl

-- the same of a payload and its limit
pub small-within : (payload : List ℕ) → too_large payload ≡ None → length payload ≤ most_bytes
small-within payload e = ltb-false most_bytes (length payload) (passed (ltb most_bytes (length payload)) TooLarge none e).0

within-small : (payload : List ℕ) → length payload ≤ most_bytes → too_large payload ≡ None
within-small payload within = rw (le-ltb most_bytes (length payload) within) refl

-- an item that isn't refused
pub taken-may : (live : Entries) (item : LogItem) → refusal live item ≡ None → MayCome live item × IsWithin item
taken-may live item e =
    let both = neither (out_of_place live item) (too_large (payload_of item)) e in
    (in-place live item both.0, small-within (payload_of item) both.1)

pub may-taken : (live : Entries) (item : LogItem) → MayCome live item → IsWithin item → refusal live item ≡ None
may-taken live item may within = ap (λ (first : Option WriteRefused). first_of first (too_large (payload_of item)))
    (may-place live item may) ∙ within-small (payload_of item) within

-- ---- live entries

-- each entry that is live has an id that isn't 0
abbrev pub AreNamed : Entries → Type 0
AreNamed live = All (λ id. id ≢ 0) (keys_of live)

-- so the id 0 has no type
pub named-zero : (live : Entries) → AreNamed live → type_of live 0 ≡ None
named-zero [] named = refl
named-zero (e ∷ live) named =
    let here : e.0 ≢ 0 = All-head (λ id. id ≢ 0) e.0 (keys_of live) named in
    let test : is_at (nat_cmp 0) e.0 ≡ false = unsigned_tied 0 e.0 ∙ ne_eqb 0 e.0 (λ same. here (sym same)) in
    ap (λ (b : Bool). cond b (Some e.1) (type_of live 0)) test
    ∙ named-zero live (All-tail (λ id. id ≢ 0) e.0 (keys_of live) named)

-- the same after an item
pub named-after : (live : Entries) (item : LogItem) → AreNamed live → MayCome live item → AreNamed (live_after live item)
named-after live (Start time id name typ meta) named may =
    All-keys-insert_entry nat_cmp id (type_named typ) (λ id. id ≢ 0) live named may.0
named-after live (Value time id value) named may = named
named-after live (SetMeta time id meta) named may = named
named-after live (Finish time id) named may =
    All-map-remove_entry (is_at (nat_cmp id)) (λ e. e.0) (λ id. id ≢ 0) live named

-- an entry of a value isn't 0
pub may-named : (live : Entries) (item : LogItem) → type_of live 0 ≡ None → MayCome live item → IsNamed item
may-named live (Start time id name typ meta) zero may = tt
may-named live (Value time id value) zero may = λ same.
    let kept : Some (value_type value) ≡ None = sym may ∙ ap (type_of live) same ∙ zero in absurd cc
may-named live (SetMeta time id meta) zero may = tt
may-named live (Finish time id) zero may = tt
