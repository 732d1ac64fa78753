-- An atom that bytes spell can be written: a whole number has at most 64 bits, and a length at most 32.
use Rattle.std.proofs.Common.{◌≡◌, ℕ, ◌-◌, ◌*◌, ◌^◌, ◌<◌, ◌≤◌, cond, eqb, ltb, inl, inr, pos, negsuc, List, ◌∷◌, ◌++◌, length, Option, None, Some, refl, subst, sym, arith}
use Rattle.std.specs.Prelude.{All}
use Rattle.std.proofs.lemmas.Bool.{cases_eq, cond_both, ltb-true, ltb-false}
use Rattle.std.proofs.lemmas.List.{take_at}
use Rattle.std.proofs.lemmas.List.Elements.{All-tail, All-take}
use Rattle.nt_msgpack.specs.Atoms.{AtomValue, int, boolean, float32, float64, text, binary, array_head, map_head, IsByte, number, signed_number, Format, fixed, counted, alone, format_of, Fills, Spells, Fits}
use Rattle.nt_msgpack.proofs.Numbers.{number-below}

-- what fills a format can be written
abbrev Bounds : Format → Type 0
Bounds format = (a : AtomValue) (x : List ℕ) → All IsByte x → Fills format a x → Fits a

alone-bounds : (a : AtomValue) → Fits a → Bounds (alone a)
alone-bounds a h b x bytes (len, is) = rw is h

fixed-bounds : (n : ℕ) (make : List ℕ → AtomValue) → ((x : List ℕ) → All IsByte x → length x ≡ n → Fits (make x))
    → Bounds (fixed n make)
fixed-bounds n make h a x bytes (len, is) = rw is (h x bytes len)

counted-bounds : (n : ℕ) (make : List ℕ → AtomValue) → 256 ^ n ≤ 2 ^ 32
    → ((body : List ℕ) → length body < 2 ^ 32 → Fits (make body))
    → Bounds (counted n make)
counted-bounds n make most h a x bytes (len, body, parts, len_is, value, is) =
    let all : All IsByte (len ++ body) = subst (λ (w : List ℕ). All IsByte w) parts bytes in
    let prefix : All IsByte len = subst (λ (w : List ℕ). All IsByte w) (take_at len body (length len) refl)
    (All-take IsByte (length len) (len ++ body) all) in
    let top : number len < 256 ^ n = subst (λ (k : ℕ). number len < 256 ^ k) len_is (number-below len prefix) in
    rw is (h body (omega (arith, top, most, value)))

-- the widths of lengths and numbers
at_width : (P : ℕ → Type 0) (k : ℕ) → k < 4 → P 1 → P 2 → P 4 → P 8 → P (2 ^ k)
at_width P k h one two four eight = elim (cases_eq k 0) [
  | inl e ↦ rw e one
  | inr a ↦ elim (cases_eq k 1) [
    | inl e ↦ rw e two
    | inr b ↦ elim (cases_eq k 2) [
      | inl e ↦ rw e four
      | inr d ↦ let e : k ≡ 3 = omega arith in rw e eight
    ]
  ]
]

-- how many numbers a width has
abbrev IsWidth : ℕ → Type 0
IsWidth n = (0 < 256 ^ n) × (256 ^ n ≤ 2 ^ 64)

width : (k : ℕ) → k < 4 → IsWidth (2 ^ k)
width k h = at_width IsWidth k h (omega arith, omega arith) (omega arith, omega arith) (omega arith, omega arith)
    (omega arith, omega arith)

length_width : (k : ℕ) → k < 3 → 256 ^ (2 ^ k) ≤ 2 ^ 32
length_width k h = elim (cases_eq k 0) [
  | inl e ↦ rw e (omega arith)
  | inr a ↦ elim (cases_eq k 1) [
    | inl e ↦ rw e (omega arith)
    | inr b ↦ let e : k ≡ 2 = omega arith in rw e (omega arith)
  ]
]

unsigned-bounds : (k : ℕ) → k < 4 → Bounds (fixed (2 ^ k) (λ bs. int (pos (number bs))))
unsigned-bounds k h = fixed-bounds (2 ^ k) (λ bs. int (pos (number bs))) (λ x bytes len.
    let top : number x < 256 ^ (2 ^ k) = subst (λ (j : ℕ). number x < 256 ^ j) len (number-below x bytes) in
    let most = (width k h).1 in omega (arith, top, most))

signed-bounds : (k : ℕ) → k < 4 → Bounds (fixed (2 ^ k) (λ bs. int (signed_number bs)))
signed-bounds k h = fixed-bounds (2 ^ k) (λ bs. int (signed_number bs)) (λ x bytes len.
    let top : number x < 256 ^ length x = number-below x bytes in
    let most : 256 ^ length x ≤ 2 ^ 64 = subst (λ (j : ℕ). 256 ^ j ≤ 2 ^ 64) (sym len) (width k h).1 in
    cond_both (ltb (2 * number x) (256 ^ length x)) (pos (number x)) (negsuc (256 ^ length x - 1 - number x))
    (λ z. Fits (int z))
    (λ e. omega (arith, top, most))
    (λ e. let above = ltb-false (2 * number x) (256 ^ length x) e in omega (arith, top, most, above)))

-- what holds of a format, where there is one
abbrev IfFormat : Option Format → Type 0
IfFormat None = Unit {0}
IfFormat (Some format) = Bounds format

every-bounds : (first : ℕ) → IfFormat (format_of first)
unfolding format_of
every-bounds first =
    row 0x80 _ _ (λ a. alone-bounds (int (pos first)) (omega arith)) (λ a.
    row 0x90 _ _ (λ b. alone-bounds (map_head (first - 0x80)) tt) (λ b.
    row 0xa0 _ _ (λ c. alone-bounds (array_head (first - 0x90)) tt) (λ c.
    row 0xc0 _ _ (λ d. fixed-bounds (first - 0xa0) text (λ x bytes len. omega arith)) (λ d.
    row 0xc2 _ _ (λ e. tt) (λ e.
    row 0xc4 _ _ (λ f. alone-bounds (boolean (eqb first 0xc3)) tt) (λ f.
    row 0xc7 _ _ (λ g. counted-bounds (2 ^ (first - 0xc4)) binary (length_width (first - 0xc4) (omega arith))
    (λ body l. l)) (λ g.
    row 0xca _ _ (λ h. tt) (λ h.
    row 0xcb _ _ (λ i. fixed-bounds 4 (λ bs. float32 (number bs)) (λ x bytes len. tt)) (λ i.
    row 0xcc _ _ (λ j. fixed-bounds 8 (λ bs. float64 (number bs)) (λ x bytes len. tt)) (λ j.
    row 0xd0 _ _ (λ k. unsigned-bounds (first - 0xcc) (omega arith)) (λ k.
    row 0xd4 _ _ (λ l. signed-bounds (first - 0xd0) (omega arith)) (λ l.
    row 0xd9 _ _ (λ m. tt) (λ m.
    row 0xdc _ _ (λ n. counted-bounds (2 ^ (first - 0xd9)) text (length_width (first - 0xd9) (omega arith))
    (λ body l. l)) (λ n.
    row 0xde _ _ (λ o. fixed-bounds (2 ^ (first - 0xdb)) (λ bs. array_head (number bs)) (λ x bytes len. tt)) (λ o.
    row 0xe0 _ _ (λ p. fixed-bounds (2 ^ (first - 0xdd)) (λ bs. map_head (number bs)) (λ x bytes len. tt)) (λ p.
    row 0x100 _ _ (λ q. alone-bounds (int (negsuc (255 - first))) (omega arith)) (λ q. tt))))))))))))))))) where
      row : (bound : ℕ) (x y : Option Format) → (first < bound → IfFormat x) → (bound ≤ first → IfFormat y)
          → IfFormat (cond (ltb first bound) x y)
      row bound x y below above = cond_both (ltb first bound) x y IfFormat (λ e. below (ltb-true first bound e))
          (λ e. above (ltb-false first bound e))

-- an atom that bytes spell can be written
pub spelled-fits : (a : AtomValue) (x : List ℕ) → All IsByte x → Spells a x → Fits a
spelled-fits a x bytes h =
    let form = h.form in
    let all : All IsByte (form.first ∷ form.after) = subst (λ (w : List ℕ). All IsByte w) form.whole bytes in
    let bounds : Bounds form.format = subst IfFormat form.format_is (every-bounds form.first) in
    bounds a form.after (All-tail IsByte form.first form.after all) form.fills
