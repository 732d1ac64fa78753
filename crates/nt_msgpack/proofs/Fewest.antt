-- No spelling of an atom has fewer bytes than the shortest.
use Rattle.std.proofs.Common.{◌≡◌, ℕ, suc, ◌+◌, ◌-◌, ◌*◌, ◌^◌, ◌<◌, ◌≤◌, Bool, cond, eqb, ltb, inl, inr, pos, negsuc, List, ◌∷◌, ◌++◌, length, Option, None, Some, refl, ap, subst, arith}
use Rattle.std.specs.Prelude.{All}
use Rattle.std.proofs.lemmas.Bool.{cases_eq, cond_both, ltb-true, ltb-false}
use Rattle.std.proofs.lemmas.List.{length-append, take_at}
use Rattle.std.proofs.lemmas.List.Elements.{All-tail, All-take}
use Rattle.nt_msgpack.specs.Atoms.{AtomValue, int, boolean, float32, float64, text, binary, array_head, map_head, IsByte, number, Format, signed, unsigned, fixed, counted, alone, format_of, Fills, Spells, length_spelling, head_spelling, shortest}
use Rattle.nt_msgpack.proofs.Numbers.{number-below}

-- ---- how long the shortest spellings are: at most 1 + width bytes, where the width holds the number

-- bytes are at most so many
abbrev AtMost : ℕ → List ℕ → Type 0
AtMost n bytes = length bytes ≤ n

unsigned-length : (n width : ℕ) → (0x80 ≤ n → 1 ≤ width) → (0x100 ≤ n → 2 ≤ width) → (0x1_0000 ≤ n → 4 ≤ width)
    → (0x1_0000_0000 ≤ n → 8 ≤ width)
    → length (shortest (int (pos n))) ≤ suc width
unfolding shortest
unsigned-length n width one two four eight =
    cond_both (ltb n 0x80) _ _ (AtMost (suc width)) (λ e. omega arith) (λ e. let a = one (ltb-false n 0x80 e) in
    cond_both (ltb n 0x100) _ _ (AtMost (suc width)) (λ f. omega arith) (λ f. let b = two (ltb-false n 0x100 f) in
    cond_both (ltb n 0x1_0000) _ _ (AtMost (suc width)) (λ g. omega arith)
    (λ g. let c = four (ltb-false n 0x1_0000 g) in
    cond_both (ltb n 0x1_0000_0000) _ _ (AtMost (suc width)) (λ h. omega arith)
    (λ h. let d = eight (ltb-false n 0x1_0000_0000 h) in omega arith))))

negative-length : (n width : ℕ) → (32 ≤ n → 1 ≤ width) → (0x80 ≤ n → 2 ≤ width) → (0x8000 ≤ n → 4 ≤ width)
    → (0x8000_0000 ≤ n → 8 ≤ width)
    → length (shortest (int (negsuc n))) ≤ suc width
unfolding shortest
negative-length n width one two four eight =
    cond_both (ltb n 32) _ _ (AtMost (suc width)) (λ e. omega arith) (λ e. let a = one (ltb-false n 32 e) in
    cond_both (ltb n 0x80) _ _ (AtMost (suc width)) (λ f. omega arith) (λ f. let b = two (ltb-false n 0x80 f) in
    cond_both (ltb n 0x8000) _ _ (AtMost (suc width)) (λ g. omega arith) (λ g. let c = four (ltb-false n 0x8000 g) in
    cond_both (ltb n 0x8000_0000) _ _ (AtMost (suc width)) (λ h. omega arith)
    (λ h. let d = eight (ltb-false n 0x8000_0000 h) in omega arith))))

length_spelling-length : (n in_one in_two in_four width : ℕ) → 1 ≤ width → (0x100 ≤ n → 2 ≤ width)
    → (0x1_0000 ≤ n → 4 ≤ width)
    → length (length_spelling n in_one in_two in_four) ≤ suc width
length_spelling-length n in_one in_two in_four width one two four =
    cond_both (ltb n 0x100) _ _ (AtMost (suc width)) (λ e. omega arith) (λ e. let a = two (ltb-false n 0x100 e) in
    cond_both (ltb n 0x1_0000) _ _ (AtMost (suc width)) (λ f. omega arith)
    (λ f. let b = four (ltb-false n 0x1_0000 f) in omega arith))

head_spelling-length : (n alone_from in_two in_four width : ℕ) → (16 ≤ n → 2 ≤ width) → (0x1_0000 ≤ n → 4 ≤ width)
    → length (head_spelling n alone_from in_two in_four) ≤ suc width
head_spelling-length n alone_from in_two in_four width two four =
    cond_both (ltb n 16) _ _ (AtMost (suc width)) (λ e. omega arith) (λ e. let a = two (ltb-false n 16 e) in
    cond_both (ltb n 0x1_0000) _ _ (AtMost (suc width)) (λ f. omega arith)
    (λ f. let b = four (ltb-false n 0x1_0000 f) in omega arith))

text-length : (bs : List ℕ) (width : ℕ) → (32 ≤ length bs → 1 ≤ width) → (0x100 ≤ length bs → 2 ≤ width)
    → (0x1_0000 ≤ length bs → 4 ≤ width)
    → length (shortest (text bs)) ≤ suc (width + length bs)
unfolding shortest
text-length bs width one two four =
    cond_both (ltb (length bs) 32) _ _ (AtMost (suc (width + length bs))) (λ e. omega arith) (λ e.
    let prefix = length_spelling-length (length bs) 0xd9 0xda 0xdb width (one (ltb-false _ 32 e)) two four in
    omega (arith, length-append (length_spelling (length bs) 0xd9 0xda 0xdb) bs))

binary-length : (bs : List ℕ) (width : ℕ) → 1 ≤ width → (0x100 ≤ length bs → 2 ≤ width)
    → (0x1_0000 ≤ length bs → 4 ≤ width)
    → length (shortest (binary bs)) ≤ suc (width + length bs)
unfolding shortest
binary-length bs width one two four =
    let prefix = length_spelling-length (length bs) 0xc4 0xc5 0xc6 width one two four in
    omega (arith, length-append (length_spelling (length bs) 0xc4 0xc5 0xc6) bs)

-- ---- formats

-- what fills a format is no shorter than the shortest spelling of its atom
abbrev IsLongEnough : Format → Type 0
IsLongEnough format = (a : AtomValue) (x : List ℕ) → All IsByte x → Fills format a x
    → length (shortest a) ≤ suc (length x)

fixed-enough : (n : ℕ) (make : List ℕ → AtomValue)
    → ((x : List ℕ) → All IsByte x → length x ≡ n → length (shortest (make x)) ≤ suc n) → IsLongEnough (fixed n make)
fixed-enough n make h a x bytes (len, is) = let k : length (shortest (make x)) ≤ suc n = h x bytes len in rw (is, len) k

counted-enough : (n : ℕ) (make : List ℕ → AtomValue)
    → ((len body : List ℕ) → All IsByte len → length len ≡ n → number len ≡ length body
    → length (shortest (make body)) ≤ suc (n + length body))
    → IsLongEnough (counted n make)
counted-enough n make h a x bytes (len, body, parts, len_is, value, is) =
    let all : All IsByte (len ++ body) = subst (λ (w : List ℕ). All IsByte w) parts bytes in
    let prefix : All IsByte len = subst (λ (w : List ℕ). All IsByte w) (take_at len body (length len) refl)
    (All-take IsByte (length len) (len ++ body) all) in
    let k : length (shortest (make body)) ≤ suc (n + length body) = h len body prefix len_is value in
    let total : length x ≡ n + length body = omega (arith, ap length parts, length-append len body) in
    rw (is, total) k

-- an atom in one byte
alone-enough : (a : AtomValue) → length (shortest a) ≤ 1 → IsLongEnough (alone a)
alone-enough a h = fixed-enough 0 (λ _. a) (λ x bytes len. h)

-- the widths of a format family
at_width : (P : ℕ → Type 0) (k : ℕ) → k < 4 → (k ≡ 0 → P 1) → (k ≡ 1 → P 2) → (k ≡ 2 → P 4) → (k ≡ 3 → P 8) → P (2 ^ k)
at_width P k h one two four eight = elim (cases_eq k 0) [
  | inl e ↦ rw e (one e)
  | inr a ↦ elim (cases_eq k 1) [
    | inl e ↦ rw e (two e)
    | inr b ↦ elim (cases_eq k 2) [
      | inl e ↦ rw e (four e)
      | inr d ↦ let e : k ≡ 3 = omega arith in rw e (eight e)
    ]
  ]
]

-- a number in so many bytes is below their end
number-top : (bs : List ℕ) (n : ℕ) → All IsByte bs → length bs ≡ n → number bs < 256 ^ n
number-top bs n bytes len = subst (λ (k : ℕ). number bs < 256 ^ k) len (number-below bs bytes)

-- a whole number from 0 on in bytes
abbrev unsigned_in : List ℕ → AtomValue
unsigned_in bs = unsigned (number bs)

unsigned-enough : (k : ℕ) → k < 4 → IsLongEnough (fixed (2 ^ k) unsigned_in)
unsigned-enough k h = at_width (λ n. IsLongEnough (fixed n unsigned_in)) k h
    (λ e. fixed-enough 1 unsigned_in (λ x bytes len. let top : number x < 256 ^ 1 = number-top x 1 bytes len in
    unsigned-length (number x) 1 (λ _. omega arith) (λ p. omega arith) (λ p. omega arith) (λ p. omega arith)))
    (λ e. fixed-enough 2 unsigned_in (λ x bytes len. let top : number x < 256 ^ 2 = number-top x 2 bytes len in
    unsigned-length (number x) 2 (λ _. omega arith) (λ p. omega arith) (λ p. omega arith) (λ p. omega arith)))
    (λ e. fixed-enough 4 unsigned_in (λ x bytes len. let top : number x < 256 ^ 4 = number-top x 4 bytes len in
    unsigned-length (number x) 4 (λ _. omega arith) (λ p. omega arith) (λ p. omega arith) (λ p. omega arith)))
    (λ e. fixed-enough 8 unsigned_in (λ x bytes len. unsigned-length (number x) 8 (λ _. omega arith)
    (λ p. omega arith) (λ p. omega arith) (λ p. omega arith)))

-- the shortest spelling of a number in two's complement, by its sign
signed-length : (x : List ℕ) (width end : ℕ) → 256 ^ length x ≡ end → 0 < end
    → ((n : ℕ) → 2 * n < end → length (shortest (int (pos n))) ≤ suc width)
    → ((n : ℕ) → 2 * n < end → length (shortest (int (negsuc n))) ≤ suc width)
    → length (shortest (signed x)) ≤ suc width
signed-length x width end is some positive negative =
    cond_both (ltb (2 * number x) (256 ^ length x)) (pos (number x)) (negsuc (256 ^ length x - 1 - number x))
    (λ z. length (shortest (int z)) ≤ suc width)
    (λ e. let below = ltb-true _ _ e in positive (number x) (omega arith))
    (λ e. let above = ltb-false _ _ e in negative (256 ^ length x - 1 - number x) (omega arith))

-- the end of a width
end_of : (x : List ℕ) (n : ℕ) → length x ≡ n → 256 ^ length x ≡ 256 ^ n
end_of x n e = ap (λ (k : ℕ). 256 ^ k) e

signed-enough : (k : ℕ) → k < 4 → IsLongEnough (fixed (2 ^ k) signed)
signed-enough k h = at_width (λ n. IsLongEnough (fixed n signed)) k h
    (λ e. fixed-enough 1 signed (λ x bytes len. signed-length x 1 (256 ^ 1) (end_of x 1 len) (omega arith)
    (λ n top. unsigned-length n 1 (λ _. omega arith) (λ p. omega arith) (λ p. omega arith) (λ p. omega arith))
    (λ n top. negative-length n 1 (λ _. omega arith) (λ p. omega arith) (λ p. omega arith) (λ p. omega arith))))
    (λ e. fixed-enough 2 signed (λ x bytes len. signed-length x 2 (256 ^ 2) (end_of x 2 len) (omega arith)
    (λ n top. unsigned-length n 2 (λ _. omega arith) (λ p. omega arith) (λ p. omega arith) (λ p. omega arith))
    (λ n top. negative-length n 2 (λ _. omega arith) (λ p. omega arith) (λ p. omega arith) (λ p. omega arith))))
    (λ e. fixed-enough 4 signed (λ x bytes len. signed-length x 4 (256 ^ 4) (end_of x 4 len) (omega arith)
    (λ n top. unsigned-length n 4 (λ _. omega arith) (λ p. omega arith) (λ p. omega arith) (λ p. omega arith))
    (λ n top. negative-length n 4 (λ _. omega arith) (λ p. omega arith) (λ p. omega arith) (λ p. omega arith))))
    (λ e. fixed-enough 8 signed (λ x bytes len. signed-length x 8 (256 ^ 8) (end_of x 8 len) (omega arith)
    (λ n top. unsigned-length n 8 (λ _. omega arith) (λ p. omega arith) (λ p. omega arith) (λ p. omega arith))
    (λ n top. negative-length n 8 (λ _. omega arith) (λ p. omega arith) (λ p. omega arith) (λ p. omega arith))))

-- what a length of 1, 2 or 4 bytes holds
holds_below : (len body : List ℕ) (n : ℕ) → All IsByte len → length len ≡ n → number len ≡ length body
    → length body < 256 ^ n
holds_below len body n bytes is value = let top : number len < 256 ^ n = number-top len n bytes is in omega arith

-- texts and bytes, by how long their shortest spelling is at these widths
counted-family : (make : List ℕ → AtomValue)
    → ((bs : List ℕ) (width : ℕ) → 1 ≤ width → (0x100 ≤ length bs → 2 ≤ width) → (0x1_0000 ≤ length bs → 4 ≤ width)
    → length (shortest (make bs)) ≤ suc (width + length bs))
    → (k : ℕ) → k < 3 → IsLongEnough (counted (2 ^ k) make)
counted-family make most k h = at_width (λ n. IsLongEnough (counted n make)) k (omega arith)
    (λ e. counted-enough 1 make (λ len body bytes is value.
    let top : length body < 256 ^ 1 = holds_below len body 1 bytes is value in
    most body 1 (omega arith) (λ p. omega arith) (λ p. omega arith)))
    (λ e. counted-enough 2 make (λ len body bytes is value.
    let top : length body < 256 ^ 2 = holds_below len body 2 bytes is value in
    most body 2 (omega arith) (λ p. omega arith) (λ p. omega arith)))
    (λ e. counted-enough 4 make (λ len body bytes is value. most body 4 (omega arith) (λ p. omega arith)
    (λ p. omega arith)))
    (λ e. absurd (omega arith))

-- heads, by how long their shortest spelling is at these widths
head-family : (make : ℕ → AtomValue)
    → ((n width : ℕ) → (16 ≤ n → 2 ≤ width) → (0x1_0000 ≤ n → 4 ≤ width) → length (shortest (make n)) ≤ suc width)
    → (k : ℕ) → 0 < k → k < 3 → IsLongEnough (fixed (2 ^ k) (λ bs. make (number bs)))
head-family make most k some h = at_width (λ n. IsLongEnough (fixed n (λ bs. make (number bs)))) k (omega arith)
    (λ e. absurd (omega arith))
    (λ e. fixed-enough 2 _ (λ x bytes len. let top : number x < 256 ^ 2 = number-top x 2 bytes len in
    most (number x) 2 (λ p. omega arith) (λ p. omega arith)))
    (λ e. fixed-enough 4 _ (λ x bytes len. most (number x) 4 (λ p. omega arith) (λ p. omega arith)))
    (λ e. absurd (omega arith))

array-length : (n width : ℕ) → (16 ≤ n → 2 ≤ width) → (0x1_0000 ≤ n → 4 ≤ width)
    → length (shortest (array_head n)) ≤ suc width
unfolding shortest
array-length n width two four = head_spelling-length n 0x90 0xdc 0xdd width two four

map-length : (n width : ℕ) → (16 ≤ n → 2 ≤ width) → (0x1_0000 ≤ n → 4 ≤ width)
    → length (shortest (map_head n)) ≤ suc width
unfolding shortest
map-length n width two four = head_spelling-length n 0x80 0xde 0xdf width two four

boolean-length : (b : Bool) → length (shortest (boolean b)) ≤ 1
unfolding shortest
boolean-length b = omega arith

float32-length : (bits : ℕ) → length (shortest (float32 bits)) ≤ 5
unfolding shortest
float32-length bits = omega arith

float64-length : (bits : ℕ) → length (shortest (float64 bits)) ≤ 9
unfolding shortest
float64-length bits = omega arith

-- a text whose length stands in its first byte
fixstr-enough : (n : ℕ) → n < 32 → IsLongEnough (fixed n text)
fixstr-enough n h = fixed-enough n text (λ x bytes len. let most = text-length x 0 (λ p. omega arith)
    (λ p. omega arith) (λ p. omega arith) in omega arith)

-- ---- every format

-- what holds of a format, where there is one
abbrev IfFormat : Option Format → Type 0
IfFormat None = Unit {0}
IfFormat (Some format) = IsLongEnough format

every-enough : (first : ℕ) → IfFormat (format_of first)
unfolding format_of
every-enough first =
    row 0x80 _ _ (λ a. alone-enough (int (pos first))
    (unsigned-length first 0 (λ p. omega arith) (λ p. omega arith) (λ p. omega arith) (λ p. omega arith))) (λ a.
    row 0x90 _ _ (λ b. alone-enough (map_head (first - 0x80))
    (map-length (first - 0x80) 0 (λ p. omega arith) (λ p. omega arith))) (λ b.
    row 0xa0 _ _ (λ c. alone-enough (array_head (first - 0x90))
    (array-length (first - 0x90) 0 (λ p. omega arith) (λ p. omega arith))) (λ c.
    row 0xc0 _ _ (λ d. fixstr-enough (first - 0xa0) (omega arith)) (λ d.
    row 0xc2 _ _ (λ e. tt) (λ e.
    row 0xc4 _ _ (λ f. alone-enough (boolean (eqb first 0xc3)) (boolean-length (eqb first 0xc3))) (λ f.
    row 0xc7 _ _ (λ g. counted-family binary binary-length (first - 0xc4) (omega arith)) (λ g.
    row 0xca _ _ (λ h. tt) (λ h.
    row 0xcb _ _ (λ i. fixed-enough 4 _ (λ x bytes len. float32-length (number x))) (λ i.
    row 0xcc _ _ (λ j. fixed-enough 8 _ (λ x bytes len. float64-length (number x))) (λ j.
    row 0xd0 _ _ (λ k. unsigned-enough (first - 0xcc) (omega arith)) (λ k.
    row 0xd4 _ _ (λ l. signed-enough (first - 0xd0) (omega arith)) (λ l.
    row 0xd9 _ _ (λ m. tt) (λ m.
    row 0xdc _ _ (λ n. counted-family text (λ bs width one. text-length bs width (λ p. one)) (first - 0xd9)
    (omega arith)) (λ n.
    row 0xde _ _ (λ o. head-family array_head array-length (first - 0xdb) (omega arith) (omega arith)) (λ o.
    row 0xe0 _ _ (λ p. head-family map_head map-length (first - 0xdd) (omega arith) (omega arith)) (λ p.
    row 0x100 _ _ (λ q. alone-enough (int (negsuc (255 - first)))
    (negative-length (255 - first) 0 (λ r. omega arith) (λ r. omega arith) (λ r. omega arith) (λ r. omega arith)))
    (λ q. tt))))))))))))))))) where
      row : (bound : ℕ) (x y : Option Format) → (first < bound → IfFormat x) → (bound ≤ first → IfFormat y)
          → IfFormat (cond (ltb first bound) x y)
      row bound x y below above = cond_both (ltb first bound) x y IfFormat (λ e. below (ltb-true first bound e))
          (λ e. above (ltb-false first bound e))

-- no spelling of an atom has fewer bytes than the shortest
pub shortest-fewest : (a : AtomValue) (x : List ℕ) → All IsByte x → Spells a x → length (shortest a) ≤ length x
shortest-fewest a x bytes h =
    let form = h.form in
    let all : All IsByte (form.first ∷ form.after) = subst (λ (w : List ℕ). All IsByte w) form.whole bytes in
    let enough : IsLongEnough form.format = subst IfFormat form.format_is (every-enough form.first) in
    let k : length (shortest a) ≤ suc (length form.after) = enough a form.after
    (All-tail IsByte form.first form.after all) form.fills in
    rw form.whole k
