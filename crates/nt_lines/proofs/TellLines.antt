-- A line tells its item: it can be read back.
use Rattle.std.proofs.Common.{◌≡◌, ℕ, ◌<◌, ◌^◌, List, [], ◌∷◌, ◌++◌, refl, sym, ◌∙◌, append_assoc, arith}
use Rattle.std.specs.Fmt.{decimal}
use Rattle.std.proofs.lemmas.Fmt.{decimal_injective}
use Rattle.wpilog_write.specs.declared.item.LogItem.{LogItem}
use Rattle.wpilog_write.specs.declared.item.LogItem.TheVariants.{Start, Value, SetMeta, Finish}
use Rattle.nt_lines.specs.ItemLines.{field, value_text, item_line, FitsItsTypes}
use Rattle.nt_lines.proofs.Parts.{no-space, split, decimal-part, field-part, field-one}
use Rattle.nt_lines.proofs.ValueTells.{value-one}

-- ---- what begins a line

-- after a number and a space stands the rest
pub number-split : (n n' : ℕ) (us vs : List ℕ) → n < 2 ^ 64 → n' < 2 ^ 64
    → decimal n ++ 32 ∷ us ≡ decimal n' ++ 32 ∷ vs → (n ≡ n') × (us ≡ vs)
number-split n n' us vs p q e =
    let parts = split 32 (decimal n) (decimal n') us vs (no-space (decimal n) (decimal-part n p))
    (no-space (decimal n') (decimal-part n' q)) e in
    (decimal_injective n n' p q parts.0, parts.1)

-- after a field and a space stands the rest
field-split : (a b : List ℕ) (us vs : List ℕ) → field a ++ 32 ∷ us ≡ field b ++ 32 ∷ vs
    → (field a ≡ field b) × (us ≡ vs)
field-split a b us vs e = split 32 (field a) (field b) us vs (no-space (field a) (field-part a))
    (no-space (field b) (field-part b)) e

-- after the time and the id of a line stands the rest
head-split : (time id time' id' : ℕ) (us vs : List ℕ) → time < 2 ^ 64 → id < 2 ^ 64 → time' < 2 ^ 64 → id' < 2 ^ 64
    → (decimal time ++ (32 ∷ decimal id)) ++ 32 ∷ us ≡ (decimal time' ++ (32 ∷ decimal id')) ++ 32 ∷ vs
    → (time ≡ time') × (id ≡ id') × (us ≡ vs)
head-split time id time' id' us vs t i t' i' e =
    let first = number-split time time' (decimal id ++ 32 ∷ us) (decimal id' ++ 32 ∷ vs) t t'
    (sym (append_assoc (decimal time) (32 ∷ decimal id) (32 ∷ us)) ∙ e
    ∙ append_assoc (decimal time') (32 ∷ decimal id') (32 ∷ vs)) in
    let second = number-split id id' us vs i i' first.1 in
    (first.0, second.0, second.1)

-- ---- a line tells its item

-- lines that begin with other letters differ
apart : (x y : ℕ) (us vs : List ℕ) → (x ≡ y → ⊥) → x ∷ us ≡ y ∷ vs → ⊥
apart x y us vs differs e = differs (let same : x ≡ y = cc in same)

-- items with the same line are equal
pub line-one : (a b : LogItem) → FitsItsTypes a → FitsItsTypes b → item_line a ≡ item_line b → a ≡ b
line-one (Start time id name typ meta) (Start time' id' name' typ' meta') p q e =
    let tail : (decimal time ++ (32 ∷ decimal id)) ++ 32 ∷ (field name ++ 32 ∷ (field typ ++ 32 ∷ field meta))
    ≡ (decimal time' ++ (32 ∷ decimal id')) ++ 32 ∷ (field name' ++ 32 ∷ (field typ' ++ 32 ∷ field meta')) = cc in
    let h = head-split time id time' id' _ _ p.0 (omega (arith, p.1)) q.0 (omega (arith, q.1)) tail in
    let n = field-split name name' _ _ h.2 in
    let t = field-split typ typ' _ _ n.1 in
    let time_is : time ≡ time' = h.0 in
    let id_is : id ≡ id' = h.1 in
    let name_is : name ≡ name' = field-one name name' p.2 q.2 n.0 in
    let typ_is : typ ≡ typ' = field-one typ typ' p.3 q.3 t.0 in
    let meta_is : meta ≡ meta' = field-one meta meta' p.4 q.4 t.1 in
    cc
line-one (Value time id value) (Value time' id' value') p q e =
    let tail : (decimal time ++ (32 ∷ decimal id)) ++ 32 ∷ value_text value
    ≡ (decimal time' ++ (32 ∷ decimal id')) ++ 32 ∷ value_text value' = cc in
    let h = head-split time id time' id' _ _ p.0 (omega (arith, p.1)) q.0 (omega (arith, q.1)) tail in
    let value_is : value ≡ value' = value-one value value' p.2 q.2 h.2 in
    let time_is : time ≡ time' = h.0 in
    let id_is : id ≡ id' = h.1 in
    cc
line-one (SetMeta time id meta) (SetMeta time' id' meta') p q e =
    let tail : (decimal time ++ (32 ∷ decimal id)) ++ 32 ∷ field meta
    ≡ (decimal time' ++ (32 ∷ decimal id')) ++ 32 ∷ field meta' = cc in
    let h = head-split time id time' id' _ _ p.0 (omega (arith, p.1)) q.0 (omega (arith, q.1)) tail in
    let meta_is : meta ≡ meta' = field-one meta meta' p.2 q.2 h.2 in
    let time_is : time ≡ time' = h.0 in
    let id_is : id ≡ id' = h.1 in
    cc
line-one (Finish time id) (Finish time' id') p q e =
    let tail : decimal time ++ (32 ∷ decimal id) ≡ decimal time' ++ (32 ∷ decimal id') = cc in
    let first = number-split time time' (decimal id) (decimal id') p.0 q.0 tail in
    let time_is : time ≡ time' = first.0 in
    let id_is : id ≡ id' = decimal_injective id id' (omega (arith, p.1)) (omega (arith, q.1)) first.1 in
    cc
line-one (Start time id name typ meta) (Value time' id' value') p q e =
    absurd (apart 83 68 _ _ (λ same. absurd (omega (arith, same))) e)
line-one (Start time id name typ meta) (SetMeta time' id' meta') p q e =
    absurd (apart 83 77 _ _ (λ same. absurd (omega (arith, same))) e)
line-one (Start time id name typ meta) (Finish time' id') p q e =
    absurd (apart 83 70 _ _ (λ same. absurd (omega (arith, same))) e)
line-one (Value time id value) (Start time' id' name' typ' meta') p q e =
    absurd (apart 68 83 _ _ (λ same. absurd (omega (arith, same))) e)
line-one (Value time id value) (SetMeta time' id' meta') p q e =
    absurd (apart 68 77 _ _ (λ same. absurd (omega (arith, same))) e)
line-one (Value time id value) (Finish time' id') p q e =
    absurd (apart 68 70 _ _ (λ same. absurd (omega (arith, same))) e)
line-one (SetMeta time id meta) (Start time' id' name' typ' meta') p q e =
    absurd (apart 77 83 _ _ (λ same. absurd (omega (arith, same))) e)
line-one (SetMeta time id meta) (Value time' id' value') p q e =
    absurd (apart 77 68 _ _ (λ same. absurd (omega (arith, same))) e)
line-one (SetMeta time id meta) (Finish time' id') p q e =
    absurd (apart 77 70 _ _ (λ same. absurd (omega (arith, same))) e)
line-one (Finish time id) (Start time' id' name' typ' meta') p q e =
    absurd (apart 70 83 _ _ (λ same. absurd (omega (arith, same))) e)
line-one (Finish time id) (Value time' id' value') p q e =
    absurd (apart 70 68 _ _ (λ same. absurd (omega (arith, same))) e)
line-one (Finish time id) (SetMeta time' id' meta') p q e =
    absurd (apart 70 77 _ _ (λ same. absurd (omega (arith, same))) e)
