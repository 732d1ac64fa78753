-- Values against their payloads: what is read is of the type, and what is of the type is read.
use Rattle.std.proofs.Common.{◌≡◌, ℕ, zero, suc, ◌+◌, ◌*◌, ◌/◌, ◌%◌, Bool, true, false, not, cond, List, [], ◌∷◌, ◌++◌, length, take, drop, Ok, Err, refl, sym, ap, subst, ◌∙◌, append_assoc, append-nil, arith, eqb}
use Rattle.std.proofs.Math.Nat.{add_comm, mul-suc, mul-zero}
use Rattle.std.specs.Prelude.{ℤ, map}
use Rattle.std.specs.Int.{w64, cast_signed}
use Rattle.std.proofs.lemmas.Bool.{eqb-true, eq-eqb, not-false}
use Rattle.std.proofs.lemmas.List.{take-append-drop, take_at, drop_at, length-append, length-take, length-drop, nil_from_length}
use Rattle.wpilog_write.specs.declared.item.LogType.{LogType}
use Rattle.wpilog_write.specs.declared.item.LogType.TheVariants as types
use Rattle.wpilog_write.specs.declared.item.LogValue.{LogValue}
use Rattle.wpilog_write.specs.declared.item.LogValue.TheVariants.{Boolean, Int64, Float, Double, Bytes, Booleans, Int64s, Floats, Doubles, Strings}
use Rattle.wpilog_write.specs.Log.{number, IsNumber, IsString, IsBoolean, IsInt64, AreInRow, AreStrings, IsPayload, value_type}
use Rattle.wpilog_read.specs.declared.fault.LogKind.TheVariants.{Misfit}
use Rattle.wpilog_read.specs.Reading.{◌>>=◌, unless, misfit, number_at, string_at, of_length, of_elements, boolean_of, booleans_of, numbers, strings_at, strings_of, one_boolean, typed_value}
use Rattle.wpilog_read.proofs.Steps.{done, ok_is, ok_no_err, bind_ok, StopsAt, err-stops, ok-stops, bind-stops, cond-stops, unless-stops, pass_ok, unless_ok, parts_then, number_at-takes, number_at-again, number_at-stops, string_at-takes, string_at-again, string_at-stops}

-- a value of this type with this payload
abbrev Holds : LogType → List ℕ → LogValue → Type 0
Holds typ payload value = (value_type value ≡ typ) × IsPayload payload value

-- ---- truth values

boolean_of-takes : (b : ℕ) (truth : Bool) → boolean_of b ≡ Ok truth → IsBoolean (b ∷ []) truth
unfolding boolean_of
boolean_of-takes b truth e = by_zero (eqb b 0) refl e where
  by_one : (test : Bool) → eqb b 1 ≡ test → cond test (Ok true) (Err misfit) ≡ Ok truth → IsBoolean (b ∷ []) truth
  by_one true is e = subst (IsBoolean (b ∷ [])) (ok_is true truth e) (ap (λ (n : ℕ). n ∷ []) (eqb-true b 1 is))
  by_one false is e = absurd (ok_no_err truth misfit (sym e))

  by_zero : (test : Bool) → eqb b 0 ≡ test → cond test (Ok false) (cond (eqb b 1) (Ok true) (Err misfit)) ≡ Ok truth
      → IsBoolean (b ∷ []) truth
  by_zero true is e = subst (IsBoolean (b ∷ [])) (ok_is false truth e) (ap (λ (n : ℕ). n ∷ []) (eqb-true b 0 is))
  by_zero false is e = by_one (eqb b 1) refl e

boolean_of-stops : (b : ℕ) → StopsAt misfit (boolean_of b)
unfolding boolean_of
boolean_of-stops b = cond-stops misfit (eqb b 0) (Ok false) (cond (eqb b 1) (Ok true) (Err misfit))
    (ok-stops misfit false) (cond-stops misfit (eqb b 1) (Ok true) (Err misfit) (ok-stops misfit true)
    (err-stops misfit))

-- the byte of a truth value
abbrev bit : Bool → ℕ
bit true = 1
bit false = 0

boolean-bit : (bytes : List ℕ) (truth : Bool) → IsBoolean bytes truth → bytes ≡ bit truth ∷ []
boolean-bit bytes true is = is
boolean-bit bytes false is = is

boolean_of-bit : (truth : Bool) → boolean_of (bit truth) ≡ Ok truth
unfolding boolean_of
boolean_of-bit true = refl
boolean_of-bit false = refl

one_boolean-takes : (payload : List ℕ) (value : LogValue) → one_boolean payload ≡ Ok value
    → Holds types.Boolean payload value
unfolding one_boolean
one_boolean-takes [] value e = absurd (ok_no_err value misfit (sym e))
one_boolean-takes (b ∷ []) value e =
    let a = bind_ok (boolean_of b) (λ truth. Ok (Boolean truth)) value e in
    subst (Holds types.Boolean (b ∷ [])) (ok_is (Boolean a.0) value a.2) (refl, boolean_of-takes b a.0 a.1)
one_boolean-takes (b ∷ c ∷ bytes) value e = absurd (ok_no_err value misfit (sym e))

one_boolean-bit : (truth : Bool) → one_boolean (bit truth ∷ []) ≡ Ok (Boolean truth)
unfolding one_boolean
one_boolean-bit truth = rw (boolean_of-bit truth) refl

one_boolean-stops : (payload : List ℕ) → StopsAt misfit (one_boolean payload)
unfolding one_boolean
one_boolean-stops [] = err-stops misfit
one_boolean-stops (b ∷ []) = bind-stops misfit (boolean_of b) _ (boolean_of-stops b) (λ truth.
    ok-stops misfit (Boolean truth))
one_boolean-stops (b ∷ c ∷ bytes) = err-stops misfit

booleans_of-takes : (bytes : List ℕ) (truths : List Bool) → booleans_of bytes ≡ Ok truths
    → AreInRow IsBoolean bytes truths
unfolding booleans_of
booleans_of-takes [] truths e = subst (AreInRow IsBoolean []) (ok_is [] truths e) refl
booleans_of-takes (b ∷ bytes) truths e =
    let a = bind_ok (boolean_of b) (λ first. booleans_of bytes >>= λ rest. Ok (first ∷ rest)) truths e in
    let c = bind_ok (booleans_of bytes) (λ rest. Ok (a.0 ∷ rest)) truths a.2 in
    subst (AreInRow IsBoolean (b ∷ bytes)) (ok_is (a.0 ∷ c.0) truths c.2)
    (b ∷ [], bytes, refl, boolean_of-takes b a.0 a.1, booleans_of-takes bytes c.0 c.1)

booleans_of-again : (bytes : List ℕ) (truths : List Bool) → AreInRow IsBoolean bytes truths
    → booleans_of bytes ≡ Ok truths
unfolding booleans_of
booleans_of-again bytes [] is = rw is refl
booleans_of-again bytes (truth ∷ truths) is =
    let parts : bytes ≡ bit truth ∷ is.1 = is.2 ∙ ap (λ (w : List ℕ). w ++ is.1) (boolean-bit is.0 truth is.3) in
    rw (parts, boolean_of-bit truth, booleans_of-again is.1 truths is.4) refl

booleans_of-stops : (bytes : List ℕ) → StopsAt misfit (booleans_of bytes)
unfolding booleans_of
booleans_of-stops [] = ok-stops misfit []
booleans_of-stops (b ∷ bytes) = bind-stops misfit (boolean_of b) _ (boolean_of-stops b)
    (λ first. bind-stops misfit (booleans_of bytes) _ (booleans_of-stops bytes) (λ rest. ok-stops misfit (first ∷ rest)))

-- ---- numbers one after another

numbers-are : (n count : ℕ) (bytes : List ℕ) → length bytes ≡ n * count → AreInRow (IsNumber n) bytes
    (numbers n count bytes)
numbers-are n zero bytes len = nil_from_length bytes (omega arith)
numbers-are n (suc count) bytes len =
    let all : length bytes ≡ n + n * count = len ∙ mul-suc n count ∙ add_comm (n * count) n in
    let first : length (take n bytes) ≡ n = length-take n bytes ∙ omega arith in
    let rest : length (drop n bytes) ≡ n * count = length-drop n bytes ∙ omega arith in (
      take n bytes,
      drop n bytes,
      sym (take-append-drop n bytes),
      record { len_is = first; value = refl },
      numbers-are n count (drop n bytes) rest,
    )

numbers-only : (n : ℕ) (bytes : List ℕ) (xs : List ℕ) → AreInRow (IsNumber n) bytes xs
    → (length bytes ≡ n * length xs) × (numbers n (length xs) bytes ≡ xs)
numbers-only n bytes [] is = (ap length is ∙ sym (mul-zero n), refl)
numbers-only n bytes (x ∷ xs) is =
    let more = numbers-only n is.1 xs is.4 in
    let len : length is.0 ≡ n = is.3.len_is in
    let front : take n bytes ≡ is.0 = ap (take n) is.2 ∙ take_at is.0 is.1 n len in
    let back : drop n bytes ≡ is.1 = ap (drop n) is.2 ∙ drop_at is.0 is.1 n len in
    let all : length bytes ≡ n + n * length xs = ap length is.2 ∙ length-append is.0 is.1 ∙ omega (arith, more.0) in
    (all ∙ sym (mul-suc n (length xs) ∙ add_comm (n * length xs) n), rw (front, back, is.3.value, more.1) refl)

-- whole numbers with a sign, likewise
ints-are : (count : ℕ) (bytes : List ℕ) → length bytes ≡ 8 * count → AreInRow IsInt64 bytes
    (map (cast_signed w64) (numbers 8 count bytes))
ints-are zero bytes len = nil_from_length bytes (omega arith)
ints-are (suc count) bytes len = (
  take 8 bytes,
  drop 8 bytes,
  sym (take-append-drop 8 bytes),
  (length-take 8 bytes ∙ omega arith, refl),
  ints-are count (drop 8 bytes) (length-drop 8 bytes ∙ omega arith),
)

ints-only : (bytes : List ℕ) (zs : List ℤ) → AreInRow IsInt64 bytes zs
    → (length bytes ≡ 8 * length zs) × (map (cast_signed w64) (numbers 8 (length zs) bytes) ≡ zs)
ints-only bytes [] is = (ap length is, refl)
ints-only bytes (z ∷ zs) is =
    let more = ints-only is.1 zs is.4 in
    let len : length is.0 ≡ 8 = is.3.0 in
    let front : take 8 bytes ≡ is.0 = ap (take 8) is.2 ∙ take_at is.0 is.1 8 len in
    let back : drop 8 bytes ≡ is.1 = ap (drop 8) is.2 ∙ drop_at is.0 is.1 8 len in
    let all : length bytes ≡ 8 + 8 * length zs = ap length is.2 ∙ length-append is.0 is.1 ∙ omega (arith, more.0) in
    (omega (arith, all), rw (front, back, ← is.3.1, more.1) refl)

-- ---- texts one after another

strings_at-takes : (count : ℕ) (bytes : List ℕ) (x : List (List ℕ) × List ℕ) → strings_at count bytes ≡ Ok x
    → (prefix : List ℕ) × (bytes ≡ prefix ++ x.1) × AreInRow IsString prefix x.0 × (length x.0 ≡ count)
unfolding strings_at
strings_at-takes zero bytes x e =
    subst (λ (w : List (List ℕ) × List ℕ). (prefix : List ℕ) × (bytes ≡ prefix ++ w.1) × AreInRow IsString prefix w.0
    × (length w.0 ≡ 0)) (ok_is ([], bytes) x e) ([], refl, refl, refl)
strings_at-takes (suc count) bytes x e =
    let a = bind_ok (string_at misfit bytes) (λ first. strings_at count first.1 >>= λ rest.
    Ok (first.0 ∷ rest.0, rest.1)) x e in
    let b = bind_ok (strings_at count a.0.1) (λ rest. Ok (a.0.0 ∷ rest.0, rest.1)) x a.2 in
    let first = string_at-takes misfit bytes a.0 a.1 in
    let more = strings_at-takes count a.0.1 b.0 b.1 in
    subst (λ (w : List (List ℕ) × List ℕ). (prefix : List ℕ) × (bytes ≡ prefix ++ w.1) × AreInRow IsString prefix w.0
    × (length w.0 ≡ suc count)) (ok_is (a.0.0 ∷ b.0.0, b.0.1) x b.2) (
      first.prefix ++ more.0,
      parts_then first.prefix first.parts more.1 ∙ sym (append_assoc first.prefix more.0 b.0.1),
      (first.prefix, more.0, refl, first.is, more.2),
      ap suc more.3,
    )

strings_at-again : (prefix rest : List ℕ) (texts : List (List ℕ)) → AreInRow IsString prefix texts
    → strings_at (length texts) (prefix ++ rest) ≡ Ok (texts, rest)
unfolding strings_at
strings_at-again prefix rest [] is = rw is refl
strings_at-again prefix rest (text ∷ texts) is =
    let parts : prefix ++ rest ≡ is.0 ++ (is.1 ++ rest) = ap (λ (w : List ℕ). w ++ rest) is.2
    ∙ append_assoc is.0 is.1 rest in
    rw (parts, string_at-again misfit is.0 text (is.1 ++ rest) is.3, strings_at-again is.1 rest texts is.4) refl

strings_at-stops : (count : ℕ) (bytes : List ℕ) → StopsAt misfit (strings_at count bytes)
unfolding strings_at
strings_at-stops zero bytes = ok-stops misfit _
strings_at-stops (suc count) bytes = bind-stops misfit (string_at misfit bytes) _ (string_at-stops misfit bytes)
    (λ first. bind-stops misfit (strings_at count first.1) _ (strings_at-stops count first.1)
    (λ rest. ok-stops misfit _))

strings_of-takes : (payload : List ℕ) (texts : List (List ℕ)) → strings_of payload ≡ Ok texts → AreStrings payload texts
unfolding strings_of
strings_of-takes payload texts e =
    let a = bind_ok (number_at misfit 4 payload) (λ count. strings_at count.0 count.1 >>= λ texts.
    unless (not (eqb (length texts.1) 0)) Misfit >>= λ ended. Ok texts.0) texts e in
    let b = bind_ok (strings_at a.0.0 a.0.1) (λ texts. unless (not (eqb (length texts.1) 0)) Misfit >>= λ ended.
    Ok texts.0) texts a.2 in
    let c = bind_ok (unless (not (eqb (length b.0.1) 0)) Misfit) (λ ended. Ok b.0.0) texts b.2 in
    let count = number_at-takes misfit 4 payload a.0 a.1 in
    let row = strings_at-takes a.0.0 a.0.1 b.0 b.1 in
    let ended : b.0.1 ≡ [] = nil_from_length b.0.1 (eqb-true (length b.0.1) 0 (not-false (eqb (length b.0.1) 0)
    (unless_ok (not (eqb (length b.0.1) 0)) Misfit c.0 c.1))) in
    let rest : a.0.1 ≡ row.0 = parts_then row.0 row.1 ended ∙ append-nil row.0 in
    subst (AreStrings payload) (ok_is b.0.0 texts c.2) (record {
      count = count.field;
      rest = row.0;
      count_is = record { len_is = count.len; value = count.is ∙ sym row.3 };
      texts_are = row.2;
      whole = parts_then count.field count.parts rest;
    })

strings_of-again : (payload : List ℕ) (texts : List (List ℕ)) → AreStrings payload texts
    → strings_of payload ≡ Ok texts
unfolding strings_of
strings_of-again payload texts is =
    let parts : payload ≡ is.count ++ (is.rest ++ []) = is.whole
    ∙ ap (λ (w : List ℕ). is.count ++ w) (sym (append-nil is.rest)) in
    rw (
      parts,
      number_at-again misfit 4 is.count (is.rest ++ []) is.count_is.len_is,
      is.count_is.value,
      strings_at-again is.rest [] texts is.texts_are,
    ) refl

strings_of-stops : (payload : List ℕ) → StopsAt misfit (strings_of payload)
unfolding strings_of
strings_of-stops payload = bind-stops misfit (number_at misfit 4 payload) _ (number_at-stops misfit 4 payload)
    (λ count. bind-stops misfit (strings_at count.0 count.1) _ (strings_at-stops count.0 count.1)
    (λ texts. bind-stops misfit (unless (not (eqb (length texts.1) 0)) Misfit) _
    (unless-stops (not (eqb (length texts.1) 0)) Misfit) (λ ended. ok-stops misfit texts.0)))

-- ---- values of each type

-- a payload of this length
length-takes : (n : ℕ) (made value : LogValue) (payload : List ℕ) → of_length n made payload ≡ Ok value
    → (length payload ≡ n) × (made ≡ value)
length-takes n made value payload e =
    let p = pass_ok (eqb (length payload) n) misfit (Ok made) value e in
    (eqb-true (length payload) n p.0, ok_is made value p.1)

length-again : (n : ℕ) (made : LogValue) (payload : List ℕ) → length payload ≡ n → of_length n made payload ≡ Ok made
length-again n made payload len = let test : eqb (length payload) n ≡ true = eq-eqb _ _ len in rw test refl

length-stops : (n : ℕ) (made : LogValue) (payload : List ℕ) → StopsAt misfit (of_length n made payload)
length-stops n made payload = cond-stops misfit (eqb (length payload) n) (Ok made) (Err misfit) (ok-stops misfit made)
    (err-stops misfit)

-- a payload of a whole count of elements
elements-takes : (n : ℕ) (made value : LogValue) (payload : List ℕ) → of_elements n made payload ≡ Ok value
    → (length payload % n ≡ 0) × (made ≡ value)
elements-takes n made value payload e =
    let p = pass_ok (eqb (length payload % n) 0) misfit (Ok made) value e in
    (eqb-true (length payload % n) 0 p.0, ok_is made value p.1)

elements-again : (n : ℕ) (made : LogValue) (payload : List ℕ) → length payload % n ≡ 0
    → of_elements n made payload ≡ Ok made
elements-again n made payload len = let test : eqb (length payload % n) 0 ≡ true = eq-eqb _ _ len in rw test refl

elements-stops : (n : ℕ) (made : LogValue) (payload : List ℕ) → StopsAt misfit (of_elements n made payload)
elements-stops n made payload = cond-stops misfit (eqb (length payload % n) 0) (Ok made) (Err misfit)
    (ok-stops misfit made) (err-stops misfit)

-- a value that is read is of its type
pub typed_value-takes : (typ : LogType) (payload : List ℕ) (value : LogValue) → typed_value typ payload ≡ Ok value
    → Holds typ payload value
unfolding typed_value
typed_value-takes types.Boolean payload value e = one_boolean-takes payload value e
typed_value-takes types.Int64 payload value e =
    let t = length-takes 8 (Int64 (cast_signed w64 (number payload))) value payload e in
    subst (Holds types.Int64 payload) t.1 (refl, (t.0, refl))
typed_value-takes types.Float payload value e =
    let t = length-takes 4 (Float (number payload)) value payload e in
    subst (Holds types.Float payload) t.1 (refl, record { len_is = t.0; value = refl })
typed_value-takes types.Double payload value e =
    let t = length-takes 8 (Double (number payload)) value payload e in
    subst (Holds types.Double payload) t.1 (refl, record { len_is = t.0; value = refl })
typed_value-takes types.Booleans payload value e =
    let a = bind_ok (booleans_of payload) (λ truths. Ok (Booleans truths)) value e in
    subst (Holds types.Booleans payload) (ok_is (Booleans a.0) value a.2) (refl, booleans_of-takes payload a.0 a.1)
typed_value-takes types.Int64s payload value e =
    let t = elements-takes 8 (Int64s (map (cast_signed w64) (numbers 8 (length payload / 8) payload))) value payload e
    in
    subst (Holds types.Int64s payload) t.1 (refl, ints-are (length payload / 8) payload (omega (arith, t.0)))
typed_value-takes types.Floats payload value e =
    let t = elements-takes 4 (Floats (numbers 4 (length payload / 4) payload)) value payload e in
    subst (Holds types.Floats payload) t.1 (refl, numbers-are 4 (length payload / 4) payload (omega (arith, t.0)))
typed_value-takes types.Doubles payload value e =
    let t = elements-takes 8 (Doubles (numbers 8 (length payload / 8) payload)) value payload e in
    subst (Holds types.Doubles payload) t.1 (refl, numbers-are 8 (length payload / 8) payload (omega (arith, t.0)))
typed_value-takes types.Strings payload value e =
    let a = bind_ok (strings_of payload) (λ texts. Ok (Strings texts)) value e in
    subst (Holds types.Strings payload) (ok_is (Strings a.0) value a.2) (refl, strings_of-takes payload a.0 a.1)
typed_value-takes types.Other payload value e =
    subst (Holds types.Other payload) (ok_is (Bytes payload) value e) (refl, refl)

-- a value's payload is read as it, at its own type
own_value-again : (payload : List ℕ) (value : LogValue) → IsPayload payload value
    → typed_value (value_type value) payload ≡ Ok value
unfolding typed_value
own_value-again payload (Boolean truth) h = ap one_boolean (boolean-bit payload truth h) ∙ one_boolean-bit truth
own_value-again payload (Int64 n) h = length-again 8 (Int64 (cast_signed w64 (number payload))) payload h.0
    ∙ ap (λ (z : ℤ). done (Int64 z)) (sym h.1)
own_value-again payload (Float bits) h = length-again 4 (Float (number payload)) payload h.len_is
    ∙ ap (λ (n : ℕ). done (Float n)) h.value
own_value-again payload (Double bits) h = length-again 8 (Double (number payload)) payload h.len_is
    ∙ ap (λ (n : ℕ). done (Double n)) h.value
own_value-again payload (Bytes bytes) h = ap (λ (w : List ℕ). done (Bytes w)) h
own_value-again payload (Booleans truths) h = rw (booleans_of-again payload truths h) refl
own_value-again payload (Int64s zs) h =
    let o = ints-only payload zs h in
    let count : length payload / 8 ≡ length zs = omega (arith, o.0) in
    elements-again 8 (Int64s (map (cast_signed w64) (numbers 8 (length payload / 8) payload))) payload
    (omega (arith, o.0))
    ∙ ap (λ (n : ℕ). done (Int64s (map (cast_signed w64) (numbers 8 n payload)))) count
    ∙ ap (λ (w : List ℤ). done (Int64s w)) o.1
own_value-again payload (Floats xs) h =
    let o = numbers-only 4 payload xs h in
    let count : length payload / 4 ≡ length xs = omega (arith, o.0) in
    elements-again 4 (Floats (numbers 4 (length payload / 4) payload)) payload (omega (arith, o.0))
    ∙ ap (λ (n : ℕ). done (Floats (numbers 4 n payload))) count ∙ ap (λ (w : List ℕ). done (Floats w)) o.1
own_value-again payload (Doubles xs) h =
    let o = numbers-only 8 payload xs h in
    let count : length payload / 8 ≡ length xs = omega (arith, o.0) in
    elements-again 8 (Doubles (numbers 8 (length payload / 8) payload)) payload (omega (arith, o.0))
    ∙ ap (λ (n : ℕ). done (Doubles (numbers 8 n payload))) count ∙ ap (λ (w : List ℕ). done (Doubles w)) o.1
own_value-again payload (Strings texts) h = rw (strings_of-again payload texts h) refl

-- a payload of the type is read
pub typed_value-again : (typ : LogType) (payload : List ℕ) (value : LogValue) → value_type value ≡ typ
    → IsPayload payload value → typed_value typ payload ≡ Ok value
typed_value-again typ payload value same h = ap (λ (t : LogType). typed_value t payload) (sym same)
    ∙ own_value-again payload value h

-- another is a misfit
pub typed_value-stops : (typ : LogType) (payload : List ℕ) → StopsAt misfit (typed_value typ payload)
unfolding typed_value
typed_value-stops types.Boolean payload = one_boolean-stops payload
typed_value-stops types.Int64 payload = length-stops 8 _ payload
typed_value-stops types.Float payload = length-stops 4 _ payload
typed_value-stops types.Double payload = length-stops 8 _ payload
typed_value-stops types.Booleans payload = bind-stops misfit (booleans_of payload) _ (booleans_of-stops payload)
    (λ truths. ok-stops misfit (Booleans truths))
typed_value-stops types.Int64s payload = elements-stops 8 _ payload
typed_value-stops types.Floats payload = elements-stops 4 _ payload
typed_value-stops types.Doubles payload = elements-stops 8 _ payload
typed_value-stops types.Strings payload = bind-stops misfit (strings_of payload) _ (strings_of-stops payload)
    (λ texts. ok-stops misfit (Strings texts))
typed_value-stops types.Other payload = ok-stops misfit (Bytes payload)
