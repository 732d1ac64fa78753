-- What the text of a value tells.
use Rattle.std.proofs.Common.{◌≡◌, ℕ, ◌<◌, ◌^◌, Bool, true, false, List, [], ◌∷◌, ◌++◌, get_or, refl, sym, ap, ◌∙◌, append_assoc, arith}
use Rattle.std.specs.Prelude.{ℤ}
use Rattle.std.specs.List.{All, flat_map}
use Rattle.std.specs.Fmt.{signed_decimal}
use Rattle.std.proofs.lemmas.List.{append_cancel_right}
use Rattle.std.proofs.lemmas.List.Elements.{All-nil, All-cons, All-head, All-tail}
use Rattle.wpilog_write.specs.declared.item.LogValue.{LogValue}
use Rattle.wpilog_write.specs.declared.item.LogValue.TheVariants.{Boolean, Int64, Float, Double, Bytes, Booleans, Int64s, Floats, Doubles, Strings}
use Rattle.nt_lines.specs.ItemLines.{field, truth, float_bits, double_bits, listed, value_text, IsInt64, AreBytes, FitsItsType}
use Rattle.nt_lines.proofs.Parts.{IsPart, no-comma, split, signed-part, truth-part, field-part, float-part, double-part, signed-one, truth-one, field-one, float-one, double-one, truth-some, signed-some, field-some, float-some, double-some}

-- ---- lists

-- elements, each followed by a comma
abbrev closed : {T : Type 0} → (T → List ℕ) → List T → List ℕ
closed text xs = flat_map (λ x. text x ++ 44 ∷ []) xs

-- elements with a comma between them, and one after them
commas-closed : {T : Type 0} (text : T → List ℕ) (xs : List T)
    → flat_map (λ y. 44 ∷ text y) xs ++ 44 ∷ [] ≡ 44 ∷ closed text xs
commas-closed text [] = refl
commas-closed text (x ∷ xs) =
    ap (λ (w : List ℕ). 44 ∷ w) (append_assoc (text x) (flat_map (λ y. 44 ∷ text y) xs) (44 ∷ [])
    ∙ ap (λ (w : List ℕ). text x ++ w) (commas-closed text xs) ∙ sym (append_assoc (text x) (44 ∷ []) (closed text xs)))

listed-closed : {T : Type 0} (text : T → List ℕ) (x : T) (xs : List T)
    → listed text (x ∷ xs) ++ 44 ∷ [] ≡ text x ++ 44 ∷ closed text xs
listed-closed text x xs = append_assoc (text x) (flat_map (λ y. 44 ∷ text y) xs) (44 ∷ [])
    ∙ ap (λ (w : List ℕ). text x ++ w) (commas-closed text xs)

-- what has a comma isn't nothing
comma-some : (a us : List ℕ) → [] ≡ (a ++ 44 ∷ []) ++ us → ⊥
comma-some [] us e = cc
comma-some (b ∷ bs) us e = cc

-- what the texts of elements tell
record Tells (T : Type 0) (fits : T → Type 0) (text : T → List ℕ) : Type 0 where
  part : (x : T) → fits x → IsPart (text x)
  one : (x y : T) → fits x → fits y → text x ≡ text y → x ≡ y
  some : (x : T) → fits x → text x ≡ [] → ⊥

-- lists with the same closed elements are equal
closed-one : {T : Type 0} (fits : T → Type 0) (text : T → List ℕ) → Tells T fits text → (xs ys : List T)
    → All fits xs → All fits ys → closed text xs ≡ closed text ys → xs ≡ ys
closed-one fits text t [] [] p q e = refl
closed-one fits text t [] (y ∷ ys) p q e = absurd (comma-some (text y) (closed text ys) e)
closed-one fits text t (x ∷ xs) [] p q e = absurd (comma-some (text x) (closed text xs) (sym e))
closed-one fits text t (x ∷ xs) (y ∷ ys) p q e =
    let p' = All-head fits x xs p in
    let q' = All-head fits y ys q in
    let parts = split 44 (text x) (text y) (closed text xs) (closed text ys) (no-comma (text x) (t.part x p'))
    (no-comma (text y) (t.part y q'))
    (sym (append_assoc (text x) (44 ∷ []) (closed text xs)) ∙ e ∙ append_assoc (text y) (44 ∷ []) (closed text ys)) in
    let first : x ≡ y = t.one x y p' q' parts.0 in
    let rest : xs ≡ ys = closed-one fits text t xs ys (All-tail fits x xs p) (All-tail fits y ys q) parts.1 in
    cc

-- the elements of no list are nothing but those of the empty one
listed-some : {T : Type 0} (fits : T → Type 0) (text : T → List ℕ) → Tells T fits text → (x : T) (xs : List T) → fits x
    → listed text (x ∷ xs) ≡ [] → ⊥
listed-some fits text t x xs p e = by_text (text x) refl e where
  by_text : (a : List ℕ) → text x ≡ a → a ++ flat_map (λ y. 44 ∷ text y) xs ≡ [] → ⊥
  by_text [] same e = t.some x p same
  by_text (b ∷ bs) same e = cc

-- lists with the same elements with commas between them are equal
listed-one : {T : Type 0} (fits : T → Type 0) (text : T → List ℕ) → Tells T fits text → (xs ys : List T)
    → All fits xs → All fits ys → listed text xs ≡ listed text ys → xs ≡ ys
listed-one fits text t [] [] p q e = refl
listed-one fits text t [] (y ∷ ys) p q e = absurd (listed-some fits text t y ys (All-head fits y ys q) (sym e))
listed-one fits text t (x ∷ xs) [] p q e = absurd (listed-some fits text t x xs (All-head fits x xs p) e)
listed-one fits text t (x ∷ xs) (y ∷ ys) p q e =
    closed-one fits text t (x ∷ xs) (y ∷ ys) p q
    (append_assoc (text x) (44 ∷ []) (closed text xs) ∙ sym (listed-closed text x xs)
    ∙ ap (λ (w : List ℕ). w ++ 44 ∷ []) e ∙ listed-closed text y ys
    ∙ sym (append_assoc (text y) (44 ∷ []) (closed text ys)))

-- and so are lists with the same text
list-one : {T : Type 0} (fits : T → Type 0) (text : T → List ℕ) → Tells T fits text → (xs ys : List T)
    → All fits xs → All fits ys → listed text xs ++ 93 ∷ [] ≡ listed text ys ++ 93 ∷ [] → xs ≡ ys
list-one fits text t xs ys p q e =
    listed-one fits text t xs ys p q (append_cancel_right (listed text xs) (listed text ys) (93 ∷ []) e)

-- ---- elements

-- what holds of anything holds of all
all-any : {T : Type 0} (xs : List T) → All (λ _. Unit {0}) xs
all-any [] = All-nil (λ _. Unit {0})
all-any (x ∷ xs) = All-cons (λ _. Unit {0}) x xs tt (all-any xs)

truths-tell : Tells Bool (λ _. Unit {0}) truth
truths-tell = record {
  part = λ b fits. truth-part b;
  one = λ a b p q e. truth-one a b e;
  some = λ b fits. truth-some b;
}

ints-tell : Tells ℤ IsInt64 signed_decimal
ints-tell = record { part = signed-part; one = signed-one; some = signed-some }

floats-tell : Tells ℕ (λ bits. bits < 2 ^ 32) float_bits
floats-tell = record { part = λ bits fits. float-part bits; one = float-one; some = λ bits fits. float-some bits }

doubles-tell : Tells ℕ (λ bits. bits < 2 ^ 64) double_bits
doubles-tell = record { part = λ bits fits. double-part bits; one = double-one; some = λ bits fits. double-some bits }

fields-tell : Tells (List ℕ) AreBytes field
fields-tell = record { part = λ text fits. field-part text; one = field-one; some = λ text fits. field-some text }

-- ---- values

-- texts with different bytes at the same place differ
differ : (k x y : ℕ) (a b : List ℕ) → a ≡ b → get_or a k 0 ≡ x → get_or b k 0 ≡ y → (x ≡ y → ⊥) → ⊥
differ k x y a b e first second other = other (sym first ∙ ap (λ (w : List ℕ). get_or w k 0) e ∙ second)

-- values with the same text are equal
pub value-one : (v w : LogValue) → FitsItsType v → FitsItsType w → value_text v ≡ value_text w → v ≡ w
value-one (Boolean true) (Boolean true) p q e = refl
value-one (Boolean true) (Boolean false) p q e = absurd (differ 0 116 102 _ _ e refl refl (λ same. omega (arith, same)))
value-one (Boolean true) (Int64 m) p q e = absurd (differ 0 116 105 _ _ e refl refl (λ same. omega (arith, same)))
value-one (Boolean true) (Float other) p q e = absurd (differ 0 116 102 _ _ e refl refl (λ same. omega (arith, same)))
value-one (Boolean true) (Double other) p q e = absurd (differ 0 116 102 _ _ e refl refl (λ same. omega (arith, same)))
value-one (Boolean true) (Bytes other) p q e = absurd (differ 0 116 98 _ _ e refl refl (λ same. omega (arith, same)))
value-one (Boolean true) (Booleans ys) p q e = absurd (differ 0 116 98 _ _ e refl refl (λ same. omega (arith, same)))
value-one (Boolean true) (Int64s ys) p q e = absurd (differ 0 116 105 _ _ e refl refl (λ same. omega (arith, same)))
value-one (Boolean true) (Floats ys) p q e = absurd (differ 0 116 102 _ _ e refl refl (λ same. omega (arith, same)))
value-one (Boolean true) (Doubles ys) p q e = absurd (differ 0 116 102 _ _ e refl refl (λ same. omega (arith, same)))
value-one (Boolean true) (Strings ys) p q e = absurd (differ 0 116 115 _ _ e refl refl (λ same. omega (arith, same)))
value-one (Boolean false) (Boolean true) p q e = absurd (differ 0 102 116 _ _ e refl refl (λ same. omega (arith, same)))
value-one (Boolean false) (Boolean false) p q e = refl
value-one (Boolean false) (Int64 m) p q e = absurd (differ 0 102 105 _ _ e refl refl (λ same. omega (arith, same)))
value-one (Boolean false) (Float other) p q e = absurd (differ 1 97 51 _ _ e refl refl (λ same. omega (arith, same)))
value-one (Boolean false) (Double other) p q e = absurd (differ 1 97 54 _ _ e refl refl (λ same. omega (arith, same)))
value-one (Boolean false) (Bytes other) p q e = absurd (differ 0 102 98 _ _ e refl refl (λ same. omega (arith, same)))
value-one (Boolean false) (Booleans ys) p q e = absurd (differ 0 102 98 _ _ e refl refl (λ same. omega (arith, same)))
value-one (Boolean false) (Int64s ys) p q e = absurd (differ 0 102 105 _ _ e refl refl (λ same. omega (arith, same)))
value-one (Boolean false) (Floats ys) p q e = absurd (differ 1 97 51 _ _ e refl refl (λ same. omega (arith, same)))
value-one (Boolean false) (Doubles ys) p q e = absurd (differ 1 97 54 _ _ e refl refl (λ same. omega (arith, same)))
value-one (Boolean false) (Strings ys) p q e = absurd (differ 0 102 115 _ _ e refl refl (λ same. omega (arith, same)))
value-one (Int64 n) (Boolean true) p q e = absurd (differ 0 105 116 _ _ e refl refl (λ same. omega (arith, same)))
value-one (Int64 n) (Boolean false) p q e = absurd (differ 0 105 102 _ _ e refl refl (λ same. omega (arith, same)))
value-one (Int64 n) (Int64 m) p q e =
    let whole : 105 ∷ 54 ∷ 52 ∷ 58 ∷ signed_decimal n ≡ 105 ∷ 54 ∷ 52 ∷ 58 ∷ signed_decimal m = e in
    let rest : signed_decimal n ≡ signed_decimal m = cc in
    ap (λ (x : ℤ). Int64 x) (signed-one n m p q rest)
value-one (Int64 n) (Float other) p q e = absurd (differ 0 105 102 _ _ e refl refl (λ same. omega (arith, same)))
value-one (Int64 n) (Double other) p q e = absurd (differ 0 105 102 _ _ e refl refl (λ same. omega (arith, same)))
value-one (Int64 n) (Bytes other) p q e = absurd (differ 0 105 98 _ _ e refl refl (λ same. omega (arith, same)))
value-one (Int64 n) (Booleans ys) p q e = absurd (differ 0 105 98 _ _ e refl refl (λ same. omega (arith, same)))
value-one (Int64 n) (Int64s ys) p q e = absurd (differ 3 58 91 _ _ e refl refl (λ same. omega (arith, same)))
value-one (Int64 n) (Floats ys) p q e = absurd (differ 0 105 102 _ _ e refl refl (λ same. omega (arith, same)))
value-one (Int64 n) (Doubles ys) p q e = absurd (differ 0 105 102 _ _ e refl refl (λ same. omega (arith, same)))
value-one (Int64 n) (Strings ys) p q e = absurd (differ 0 105 115 _ _ e refl refl (λ same. omega (arith, same)))
value-one (Float bits) (Boolean true) p q e = absurd (differ 0 102 116 _ _ e refl refl (λ same. omega (arith, same)))
value-one (Float bits) (Boolean false) p q e = absurd (differ 1 51 97 _ _ e refl refl (λ same. omega (arith, same)))
value-one (Float bits) (Int64 m) p q e = absurd (differ 0 102 105 _ _ e refl refl (λ same. omega (arith, same)))
value-one (Float bits) (Float other) p q e =
    let whole : 102 ∷ 51 ∷ 50 ∷ 58 ∷ float_bits bits ≡ 102 ∷ 51 ∷ 50 ∷ 58 ∷ float_bits other = e in
    let rest : float_bits bits ≡ float_bits other = cc in
    ap (λ (x : ℕ). Float x) (float-one bits other p q rest)
value-one (Float bits) (Double other) p q e = absurd (differ 1 51 54 _ _ e refl refl (λ same. omega (arith, same)))
value-one (Float bits) (Bytes other) p q e = absurd (differ 0 102 98 _ _ e refl refl (λ same. omega (arith, same)))
value-one (Float bits) (Booleans ys) p q e = absurd (differ 0 102 98 _ _ e refl refl (λ same. omega (arith, same)))
value-one (Float bits) (Int64s ys) p q e = absurd (differ 0 102 105 _ _ e refl refl (λ same. omega (arith, same)))
value-one (Float bits) (Floats ys) p q e = absurd (differ 3 58 91 _ _ e refl refl (λ same. omega (arith, same)))
value-one (Float bits) (Doubles ys) p q e = absurd (differ 1 51 54 _ _ e refl refl (λ same. omega (arith, same)))
value-one (Float bits) (Strings ys) p q e = absurd (differ 0 102 115 _ _ e refl refl (λ same. omega (arith, same)))
value-one (Double bits) (Boolean true) p q e = absurd (differ 0 102 116 _ _ e refl refl (λ same. omega (arith, same)))
value-one (Double bits) (Boolean false) p q e = absurd (differ 1 54 97 _ _ e refl refl (λ same. omega (arith, same)))
value-one (Double bits) (Int64 m) p q e = absurd (differ 0 102 105 _ _ e refl refl (λ same. omega (arith, same)))
value-one (Double bits) (Float other) p q e = absurd (differ 1 54 51 _ _ e refl refl (λ same. omega (arith, same)))
value-one (Double bits) (Double other) p q e =
    let whole : 102 ∷ 54 ∷ 52 ∷ 58 ∷ double_bits bits ≡ 102 ∷ 54 ∷ 52 ∷ 58 ∷ double_bits other = e in
    let rest : double_bits bits ≡ double_bits other = cc in
    ap (λ (x : ℕ). Double x) (double-one bits other p q rest)
value-one (Double bits) (Bytes other) p q e = absurd (differ 0 102 98 _ _ e refl refl (λ same. omega (arith, same)))
value-one (Double bits) (Booleans ys) p q e = absurd (differ 0 102 98 _ _ e refl refl (λ same. omega (arith, same)))
value-one (Double bits) (Int64s ys) p q e = absurd (differ 0 102 105 _ _ e refl refl (λ same. omega (arith, same)))
value-one (Double bits) (Floats ys) p q e = absurd (differ 1 54 51 _ _ e refl refl (λ same. omega (arith, same)))
value-one (Double bits) (Doubles ys) p q e = absurd (differ 3 58 91 _ _ e refl refl (λ same. omega (arith, same)))
value-one (Double bits) (Strings ys) p q e = absurd (differ 0 102 115 _ _ e refl refl (λ same. omega (arith, same)))
value-one (Bytes text) (Boolean true) p q e = absurd (differ 0 98 116 _ _ e refl refl (λ same. omega (arith, same)))
value-one (Bytes text) (Boolean false) p q e = absurd (differ 0 98 102 _ _ e refl refl (λ same. omega (arith, same)))
value-one (Bytes text) (Int64 m) p q e = absurd (differ 0 98 105 _ _ e refl refl (λ same. omega (arith, same)))
value-one (Bytes text) (Float other) p q e = absurd (differ 0 98 102 _ _ e refl refl (λ same. omega (arith, same)))
value-one (Bytes text) (Double other) p q e = absurd (differ 0 98 102 _ _ e refl refl (λ same. omega (arith, same)))
value-one (Bytes text) (Bytes other) p q e =
    let whole : 98 ∷ 121 ∷ 116 ∷ 101 ∷ 115 ∷ 58 ∷ field text ≡ 98 ∷ 121 ∷ 116 ∷ 101 ∷ 115 ∷ 58 ∷ field other = e in
    let rest : field text ≡ field other = cc in
    ap (λ (x : List ℕ). Bytes x) (field-one text other p q rest)
value-one (Bytes text) (Booleans ys) p q e = absurd (differ 1 121 91 _ _ e refl refl (λ same. omega (arith, same)))
value-one (Bytes text) (Int64s ys) p q e = absurd (differ 0 98 105 _ _ e refl refl (λ same. omega (arith, same)))
value-one (Bytes text) (Floats ys) p q e = absurd (differ 0 98 102 _ _ e refl refl (λ same. omega (arith, same)))
value-one (Bytes text) (Doubles ys) p q e = absurd (differ 0 98 102 _ _ e refl refl (λ same. omega (arith, same)))
value-one (Bytes text) (Strings ys) p q e = absurd (differ 0 98 115 _ _ e refl refl (λ same. omega (arith, same)))
value-one (Booleans xs) (Boolean true) p q e = absurd (differ 0 98 116 _ _ e refl refl (λ same. omega (arith, same)))
value-one (Booleans xs) (Boolean false) p q e = absurd (differ 0 98 102 _ _ e refl refl (λ same. omega (arith, same)))
value-one (Booleans xs) (Int64 m) p q e = absurd (differ 0 98 105 _ _ e refl refl (λ same. omega (arith, same)))
value-one (Booleans xs) (Float other) p q e = absurd (differ 0 98 102 _ _ e refl refl (λ same. omega (arith, same)))
value-one (Booleans xs) (Double other) p q e = absurd (differ 0 98 102 _ _ e refl refl (λ same. omega (arith, same)))
value-one (Booleans xs) (Bytes other) p q e = absurd (differ 1 91 121 _ _ e refl refl (λ same. omega (arith, same)))
value-one (Booleans xs) (Booleans ys) p q e =
    let whole : 98 ∷ 91 ∷ (listed truth xs ++ 93 ∷ []) ≡ 98 ∷ 91 ∷ (listed truth ys ++ 93 ∷ []) = e in
    let rest : listed truth xs ++ 93 ∷ [] ≡ listed truth ys ++ 93 ∷ [] = cc in
    ap (λ (w : List Bool). Booleans w) (list-one (λ _. Unit {0}) truth truths-tell xs ys (all-any xs) (all-any ys) rest)
value-one (Booleans xs) (Int64s ys) p q e = absurd (differ 0 98 105 _ _ e refl refl (λ same. omega (arith, same)))
value-one (Booleans xs) (Floats ys) p q e = absurd (differ 0 98 102 _ _ e refl refl (λ same. omega (arith, same)))
value-one (Booleans xs) (Doubles ys) p q e = absurd (differ 0 98 102 _ _ e refl refl (λ same. omega (arith, same)))
value-one (Booleans xs) (Strings ys) p q e = absurd (differ 0 98 115 _ _ e refl refl (λ same. omega (arith, same)))
value-one (Int64s xs) (Boolean true) p q e = absurd (differ 0 105 116 _ _ e refl refl (λ same. omega (arith, same)))
value-one (Int64s xs) (Boolean false) p q e = absurd (differ 0 105 102 _ _ e refl refl (λ same. omega (arith, same)))
value-one (Int64s xs) (Int64 m) p q e = absurd (differ 3 91 58 _ _ e refl refl (λ same. omega (arith, same)))
value-one (Int64s xs) (Float other) p q e = absurd (differ 0 105 102 _ _ e refl refl (λ same. omega (arith, same)))
value-one (Int64s xs) (Double other) p q e = absurd (differ 0 105 102 _ _ e refl refl (λ same. omega (arith, same)))
value-one (Int64s xs) (Bytes other) p q e = absurd (differ 0 105 98 _ _ e refl refl (λ same. omega (arith, same)))
value-one (Int64s xs) (Booleans ys) p q e = absurd (differ 0 105 98 _ _ e refl refl (λ same. omega (arith, same)))
value-one (Int64s xs) (Int64s ys) p q e =
    let whole : 105 ∷ 54 ∷ 52 ∷ 91 ∷ (listed signed_decimal xs ++ 93 ∷ [])
    ≡ 105 ∷ 54 ∷ 52 ∷ 91 ∷ (listed signed_decimal ys ++ 93 ∷ []) = e in
    let rest : listed signed_decimal xs ++ 93 ∷ [] ≡ listed signed_decimal ys ++ 93 ∷ [] = cc in
    ap (λ (w : List ℤ). Int64s w) (list-one IsInt64 signed_decimal ints-tell xs ys p q rest)
value-one (Int64s xs) (Floats ys) p q e = absurd (differ 0 105 102 _ _ e refl refl (λ same. omega (arith, same)))
value-one (Int64s xs) (Doubles ys) p q e = absurd (differ 0 105 102 _ _ e refl refl (λ same. omega (arith, same)))
value-one (Int64s xs) (Strings ys) p q e = absurd (differ 0 105 115 _ _ e refl refl (λ same. omega (arith, same)))
value-one (Floats xs) (Boolean true) p q e = absurd (differ 0 102 116 _ _ e refl refl (λ same. omega (arith, same)))
value-one (Floats xs) (Boolean false) p q e = absurd (differ 1 51 97 _ _ e refl refl (λ same. omega (arith, same)))
value-one (Floats xs) (Int64 m) p q e = absurd (differ 0 102 105 _ _ e refl refl (λ same. omega (arith, same)))
value-one (Floats xs) (Float other) p q e = absurd (differ 3 91 58 _ _ e refl refl (λ same. omega (arith, same)))
value-one (Floats xs) (Double other) p q e = absurd (differ 1 51 54 _ _ e refl refl (λ same. omega (arith, same)))
value-one (Floats xs) (Bytes other) p q e = absurd (differ 0 102 98 _ _ e refl refl (λ same. omega (arith, same)))
value-one (Floats xs) (Booleans ys) p q e = absurd (differ 0 102 98 _ _ e refl refl (λ same. omega (arith, same)))
value-one (Floats xs) (Int64s ys) p q e = absurd (differ 0 102 105 _ _ e refl refl (λ same. omega (arith, same)))
value-one (Floats xs) (Floats ys) p q e =
    let whole : 102 ∷ 51 ∷ 50 ∷ 91 ∷ (listed float_bits xs ++ 93 ∷ [])
    ≡ 102 ∷ 51 ∷ 50 ∷ 91 ∷ (listed float_bits ys ++ 93 ∷ []) = e in
    let rest : listed float_bits xs ++ 93 ∷ [] ≡ listed float_bits ys ++ 93 ∷ [] = cc in
    ap (λ (w : List ℕ). Floats w) (list-one (λ bits. bits < 2 ^ 32) float_bits floats-tell xs ys p q rest)
value-one (Floats xs) (Doubles ys) p q e = absurd (differ 1 51 54 _ _ e refl refl (λ same. omega (arith, same)))
value-one (Floats xs) (Strings ys) p q e = absurd (differ 0 102 115 _ _ e refl refl (λ same. omega (arith, same)))
value-one (Doubles xs) (Boolean true) p q e = absurd (differ 0 102 116 _ _ e refl refl (λ same. omega (arith, same)))
value-one (Doubles xs) (Boolean false) p q e = absurd (differ 1 54 97 _ _ e refl refl (λ same. omega (arith, same)))
value-one (Doubles xs) (Int64 m) p q e = absurd (differ 0 102 105 _ _ e refl refl (λ same. omega (arith, same)))
value-one (Doubles xs) (Float other) p q e = absurd (differ 1 54 51 _ _ e refl refl (λ same. omega (arith, same)))
value-one (Doubles xs) (Double other) p q e = absurd (differ 3 91 58 _ _ e refl refl (λ same. omega (arith, same)))
value-one (Doubles xs) (Bytes other) p q e = absurd (differ 0 102 98 _ _ e refl refl (λ same. omega (arith, same)))
value-one (Doubles xs) (Booleans ys) p q e = absurd (differ 0 102 98 _ _ e refl refl (λ same. omega (arith, same)))
value-one (Doubles xs) (Int64s ys) p q e = absurd (differ 0 102 105 _ _ e refl refl (λ same. omega (arith, same)))
value-one (Doubles xs) (Floats ys) p q e = absurd (differ 1 54 51 _ _ e refl refl (λ same. omega (arith, same)))
value-one (Doubles xs) (Doubles ys) p q e =
    let whole : 102 ∷ 54 ∷ 52 ∷ 91 ∷ (listed double_bits xs ++ 93 ∷ [])
    ≡ 102 ∷ 54 ∷ 52 ∷ 91 ∷ (listed double_bits ys ++ 93 ∷ []) = e in
    let rest : listed double_bits xs ++ 93 ∷ [] ≡ listed double_bits ys ++ 93 ∷ [] = cc in
    ap (λ (w : List ℕ). Doubles w) (list-one (λ bits. bits < 2 ^ 64) double_bits doubles-tell xs ys p q rest)
value-one (Doubles xs) (Strings ys) p q e = absurd (differ 0 102 115 _ _ e refl refl (λ same. omega (arith, same)))
value-one (Strings xs) (Boolean true) p q e = absurd (differ 0 115 116 _ _ e refl refl (λ same. omega (arith, same)))
value-one (Strings xs) (Boolean false) p q e = absurd (differ 0 115 102 _ _ e refl refl (λ same. omega (arith, same)))
value-one (Strings xs) (Int64 m) p q e = absurd (differ 0 115 105 _ _ e refl refl (λ same. omega (arith, same)))
value-one (Strings xs) (Float other) p q e = absurd (differ 0 115 102 _ _ e refl refl (λ same. omega (arith, same)))
value-one (Strings xs) (Double other) p q e = absurd (differ 0 115 102 _ _ e refl refl (λ same. omega (arith, same)))
value-one (Strings xs) (Bytes other) p q e = absurd (differ 0 115 98 _ _ e refl refl (λ same. omega (arith, same)))
value-one (Strings xs) (Booleans ys) p q e = absurd (differ 0 115 98 _ _ e refl refl (λ same. omega (arith, same)))
value-one (Strings xs) (Int64s ys) p q e = absurd (differ 0 115 105 _ _ e refl refl (λ same. omega (arith, same)))
value-one (Strings xs) (Floats ys) p q e = absurd (differ 0 115 102 _ _ e refl refl (λ same. omega (arith, same)))
value-one (Strings xs) (Doubles ys) p q e = absurd (differ 0 115 102 _ _ e refl refl (λ same. omega (arith, same)))
value-one (Strings xs) (Strings ys) p q e =
    let whole : 115 ∷ 91 ∷ (listed field xs ++ 93 ∷ []) ≡ 115 ∷ 91 ∷ (listed field ys ++ 93 ∷ []) = e in
    let rest : listed field xs ++ 93 ∷ [] ≡ listed field ys ++ 93 ∷ [] = cc in
    ap (λ (w : List (List ℕ)). Strings w) (list-one AreBytes field fields-tell xs ys p q rest)
