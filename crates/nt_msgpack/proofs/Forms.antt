-- What is read of a format is exactly what fills it.
use Rattle.std.proofs.Common.{◌≡◌, ℕ, suc, ◌+◌, ◌<◌, ◌≤◌, Bool, true, false, cond, ltb, ◌⊎◌, inl, inr, List, ◌++◌, length, take, drop, refl, sym, ap, ◌∙◌, append_assoc, arith}
use Rattle.std.specs.Str.{IsUtf8, is_utf8}
use Rattle.std.proofs.lemmas.Bool.{ltb-true, ltb-false, le-ltb, lt-ltb}
use Rattle.std.proofs.lemmas.List.{length-append, length-take-le, length-drop, take_at, drop_at, take-append-drop}
use Rattle.std.proofs.lemmas.Str.{IsUtf8-from_is_utf8, is_utf8-from_IsUtf8}
use Rattle.nt_msgpack.specs.Atoms.{AtomValue, int, boolean, float32, float64, text, binary, array_head, map_head, number, Format, fixed, counted, Fills, IsText}
use Rattle.nt_msgpack.specs.Reading.{got, short, bad, stated, checked, fixed_at, format_at}

-- ---- texts

-- an atom that holds no text but UTF-8 is got
pub checked-text : (first : ℕ) (atom : AtomValue) (used : ℕ) → IsText atom → checked first atom used ≡ got atom used
checked-text first (int z) used h = refl
checked-text first (boolean b) used h = refl
checked-text first (float32 bits) used h = refl
checked-text first (float64 bits) used h = refl
checked-text first (text bs) used h = rw (is_utf8-from_IsUtf8 bs h) refl
checked-text first (binary bs) used h = refl
checked-text first (array_head n) used h = refl
checked-text first (map_head n) used h = refl

-- a text that isn't UTF-8 is bad
pub checked-other : (first : ℕ) (bs : List ℕ) (used : ℕ) → ¬ (IsUtf8 bs) → checked first (text bs) used ≡ bad first
checked-other first bs used h = by_test (is_utf8 bs) refl where
  by_test : (b : Bool) → is_utf8 bs ≡ b → cond b (got (text bs) used) (bad first) ≡ bad first
  by_test true e = absurd (h (IsUtf8-from_is_utf8 bs e))
  by_test false e = refl

-- a text that isn't UTF-8
pub record IsNoText (atom : AtomValue) : Type 0 where
  pub body : List ℕ
  pub is : atom ≡ text body
  pub not_utf8 : ¬ (IsUtf8 body)

-- bytes are UTF-8 or not
pub text_or : (atom : AtomValue) → (IsText atom) ⊎ (IsNoText atom)
text_or (int z) = inl tt
text_or (boolean b) = inl tt
text_or (float32 bits) = inl tt
text_or (float64 bits) = inl tt
text_or (text bs) = by_test (is_utf8 bs) refl where
  by_test : (b : Bool) → is_utf8 bs ≡ b → (IsUtf8 bs) ⊎ (IsNoText (text bs))
  by_test true e = inl (IsUtf8-from_is_utf8 bs e)
  by_test false e = inr (record {
    body = bs;
    is = refl;
    not_utf8 = λ h. let yes = is_utf8-from_IsUtf8 bs h in
        absurd cc;
  })
text_or (binary bs) = inl tt
text_or (array_head n) = inl tt
text_or (map_head n) = inl tt

-- ---- what fills a format is read

-- so many bytes are read, whatever follows
fixed_at-fills : (first n : ℕ) (make : List ℕ → AtomValue) (x rest : List ℕ) (before : ℕ) → length x ≡ n
    → fixed_at first n make (x ++ rest) before ≡ checked first (make x) (before + n)
fixed_at-fills first n make x rest before len =
    let long : ltb (length (x ++ rest)) n ≡ false = le-ltb _ _ (omega (arith, length-append x rest)) in
    rw (long, take_at x rest n len) refl

-- bytes that are all there, and UTF-8, are got as a text
pub fixed_at-text : (first n : ℕ) (bytes body : List ℕ) (before : ℕ) → n ≤ length bytes → body ≡ take n bytes
    → IsUtf8 body
    → fixed_at first n text bytes before ≡ got (text body) (before + n)
fixed_at-text first n bytes body before long is h =
    let test : ltb (length bytes) n ≡ false = le-ltb _ _ long in
    rw (test, ← is) (checked-text first (text body) (before + n) h)

-- bytes that are all there, and not UTF-8, are bad as a text
pub fixed_at-no_text : (first n : ℕ) (bytes body : List ℕ) (before : ℕ) → n ≤ length bytes → body ≡ take n bytes
    → ¬ (IsUtf8 body)
    → fixed_at first n text bytes before ≡ bad first
fixed_at-no_text first n bytes body before long is h =
    let test : ltb (length bytes) n ≡ false = le-ltb _ _ long in
    rw (test, ← is) (checked-other first body (before + n) h)

-- what fills a format is read, whatever follows
pub format_at-fills : (first : ℕ) (format : Format) (atom : AtomValue) (x rest : List ℕ) → Fills format atom x
    → format_at first format (x ++ rest) ≡ checked first atom (suc (length x))
format_at-fills first (fixed n make) atom x rest h =
    let used : 1 + n ≡ suc (length x) = omega (arith, h.0) in
    fixed_at-fills first n make x rest 1 h.0 ∙ ap (λ (w : ℕ). checked first (make x) w) used
    ∙ ap (λ (a : AtomValue). checked first a (suc (length x))) (sym h.1)
format_at-fills first (counted n make) atom x rest (len, body, parts, len_is, value, is) =
    let regrouped : x ++ rest ≡ len ++ (body ++ rest) = ap (λ (w : List ℕ). w ++ rest) parts
    ∙ append_assoc len body rest in
    let long : ltb (length (len ++ (body ++ rest))) n
    ≡ false = le-ltb _ _ (omega (arith, length-append len (body ++ rest))) in
    let used : 1 + n + length body ≡ suc (length x) = omega (arith, ap length parts, length-append len body) in
    rw (regrouped, long, take_at len (body ++ rest) n len_is, drop_at len (body ++ rest) n len_is, value)
    (fixed_at-fills first (length body) make body rest (1 + n) refl ∙ ap (λ (w : ℕ). checked first (make body) w) used
    ∙ ap (λ (a : AtomValue). checked first a (suc (length x))) (sym is))

-- ---- what is read fills the format

-- bytes that begin with what fills a format
pub record Begins (first : ℕ) (format : Format) (bytes : List ℕ) : Type 0 where
  pub atom : AtomValue
  pub prefix : List ℕ
  pub rest : List ℕ
  pub parts : bytes ≡ prefix ++ rest
  pub fills : Fills format atom prefix

-- bytes that are too few for a format are short
pub format_at-short : (first : ℕ) (format : Format) (bytes : List ℕ) → length bytes < stated format bytes
    → format_at first format bytes ≡ short
format_at-short first (fixed n make) bytes few = let test : ltb (length bytes) n ≡ true = lt-ltb _ _ few in rw test refl
format_at-short first (counted n make) bytes few = by_len (ltb (length bytes) n) refl where
  by_len : (b : Bool) → ltb (length bytes) n ≡ b
      → cond b short (fixed_at first (number (take n bytes)) make (drop n bytes) (1 + n)) ≡ short
  by_len true e = refl
  by_len false e =
      let whole = ltb-false _ _ e in
      let test : ltb (length (drop n bytes)) (number (take n bytes))
      ≡ true = lt-ltb _ _ (omega (arith, length-drop n bytes)) in
      rw test refl

-- bytes are too few for a format, or begin with what fills it
pub begins_or : (first : ℕ) (format : Format) (bytes : List ℕ)
    → (length bytes < stated format bytes) ⊎ (Begins first format bytes)
begins_or first (fixed n make) bytes = by_test (ltb (length bytes) n) refl where
  by_test : (b : Bool) → ltb (length bytes) n ≡ b → (length bytes < n) ⊎ (Begins first (fixed n make) bytes)
  by_test true e = inl (ltb-true _ _ e)
  by_test false e =
      inr (record {
        atom = make (take n bytes);
        prefix = take n bytes;
        rest = drop n bytes;
        parts = sym (take-append-drop n bytes);
        fills = (length-take-le n bytes (ltb-false _ _ e), refl);
      })
begins_or first (counted n make) bytes = by_len (ltb (length bytes) n) refl where
  by_body : n ≤ length bytes → (b : Bool) → ltb (length (drop n bytes)) (number (take n bytes)) ≡ b
      → (length bytes < n + number (take n bytes)) ⊎ (Begins first (counted n make) bytes)
  by_body whole true e = let few = ltb-true _ _ e in inl (omega (arith, length-drop n bytes))
  by_body whole false e =
      let m = number (take n bytes) in
      let body : List ℕ = take m (drop n bytes) in
      let parts : bytes ≡ (take n bytes ++ body) ++ drop m (drop n bytes) =
      sym (take-append-drop n bytes) ∙ ap (λ (w : List ℕ). take n bytes ++ w)
      (sym (take-append-drop m (drop n bytes))) ∙ sym (append_assoc (take n bytes) body (drop m (drop n bytes))) in
      inr (record {
        atom = make body;
        prefix = take n bytes ++ body;
        rest = drop m (drop n bytes);
        parts = parts;
        fills = (
          take n bytes,
          body,
          refl,
          length-take-le n bytes whole,
          sym (length-take-le m (drop n bytes) (ltb-false _ _ e)),
          refl,
        );
      })

  by_len : (b : Bool) → ltb (length bytes) n ≡ b
      → (length bytes < n + number (take n bytes)) ⊎ (Begins first (counted n make) bytes)
  by_len true e = let few = ltb-true _ _ e in inl (omega arith)
  by_len false e = by_body (ltb-false _ _ e) (ltb (length (drop n bytes)) (number (take n bytes))) refl
