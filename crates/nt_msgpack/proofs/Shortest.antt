-- The shortest spelling of an atom spells it.
use Rattle.std.proofs.Common.{◌≡◌, ℕ, ◌+◌, ◌-◌, ◌*◌, ◌^◌, ◌<◌, ◌≤◌, Bool, true, false, inl, inr, pos, negsuc, List, [], ◌∷◌, ◌++◌, length, Some, refl, sym, ap, arith}
use Rattle.std.specs.Str.{IsUtf8}
use Rattle.std.specs.Int.{w16, w32, w64, to_be_bytes}
use Rattle.std.proofs.lemmas.Bool.{cases_lt, lt-ltb, le-ltb}
use Rattle.nt_msgpack.specs.Atoms.{AtomValue, int, boolean, float32, float64, text, binary, array_head, map_head, number, signed_number, Format, fixed, counted, alone, format_of, Fills, IsText, Spells, length_spelling, head_spelling, shortest, Fits, IsTyped}
use Rattle.nt_msgpack.proofs.Numbers.{number-w16, number-w32, number-w64, signed_number-negative}

-- a first byte, and what fills its format
spelled : (first : ℕ) (format : Format) (atom : AtomValue) (bytes : List ℕ) → format_of first ≡ Some format
    → Fills format atom bytes → IsText atom
    → Spells atom (first ∷ bytes)
spelled first format atom bytes is fills utf8 = record {
  form = record { first = first; after = bytes; format = format; whole = refl; format_is = is; fills = fills };
  utf8 = utf8;
}

-- a first byte that spells an atom alone
spelled-alone : (first : ℕ) (atom : AtomValue) → format_of first ≡ Some (alone atom) → IsText atom
    → Spells atom (first ∷ [])
spelled-alone first atom is utf8 = spelled first (alone atom) atom [] is (refl, refl) utf8

-- ---- first bytes of ranges

positive_fixint : (n : ℕ) → n < 0x80 → format_of n ≡ Some (alone (int (pos n)))
unfolding format_of
positive_fixint n h = rw (lt-ltb n 0x80 h) refl

fixmap : (n : ℕ) → n < 16 → format_of (0x80 + n) ≡ Some (alone (map_head n))
unfolding format_of
fixmap n h =
    let same : 0x80 + n - 0x80 ≡ n = omega arith in
    rw (le-ltb (0x80 + n) 0x80 (omega arith), lt-ltb (0x80 + n) 0x90 (omega arith), same) refl

fixarray : (n : ℕ) → n < 16 → format_of (0x90 + n) ≡ Some (alone (array_head n))
unfolding format_of
fixarray n h =
    let same : 0x90 + n - 0x90 ≡ n = omega arith in
    rw (
      le-ltb (0x90 + n) 0x80 (omega arith),
      le-ltb (0x90 + n) 0x90 (omega arith),
      lt-ltb (0x90 + n) 0xa0 (omega arith),
      same,
    ) refl

fixstr : (n : ℕ) → n < 32 → format_of (0xa0 + n) ≡ Some (fixed n text)
unfolding format_of
fixstr n h =
    let same : 0xa0 + n - 0xa0 ≡ n = omega arith in
    rw (
      le-ltb (0xa0 + n) 0x80 (omega arith),
      le-ltb (0xa0 + n) 0x90 (omega arith),
      le-ltb (0xa0 + n) 0xa0 (omega arith),
      lt-ltb (0xa0 + n) 0xc0 (omega arith),
      same,
    ) refl

negative_fixint : (n : ℕ) → n < 32 → format_of (0xff - n) ≡ Some (alone (int (negsuc n)))
unfolding format_of
negative_fixint n h =
    let first = 0xff - n in
    let same : 255 - first ≡ n = omega arith in
    rw (
      le-ltb first 0x80 (omega arith),
      le-ltb first 0x90 (omega arith),
      le-ltb first 0xa0 (omega arith),
      le-ltb first 0xc0 (omega arith),
      le-ltb first 0xc2 (omega arith),
      le-ltb first 0xc4 (omega arith),
      le-ltb first 0xc7 (omega arith),
      le-ltb first 0xca (omega arith),
      le-ltb first 0xcb (omega arith),
      le-ltb first 0xcc (omega arith),
      le-ltb first 0xd0 (omega arith),
      le-ltb first 0xd4 (omega arith),
      le-ltb first 0xd9 (omega arith),
      le-ltb first 0xdc (omega arith),
      le-ltb first 0xde (omega arith),
      le-ltb first 0xe0 (omega arith),
      lt-ltb first 0x100 (omega arith),
      same,
    ) refl

-- ---- whole numbers

unsigned-spelled : (n : ℕ) → n < 2 ^ 64 → Spells (int (pos n)) (shortest (int (pos n)))
unfolding shortest format_of
unsigned-spelled n fits = elim (cases_lt n 0x80) [
  | inl a ↦ rw (lt-ltb n 0x80 a) (spelled-alone n (int (pos n)) (positive_fixint n a) tt)
  | inr a ↦ elim (cases_lt n 0x100) [
    | inl b ↦ rw (le-ltb n 0x80 a, lt-ltb n 0x100 b)
        (spelled 0xcc _ (int (pos n)) (n ∷ []) refl (refl, ap (λ (m : ℕ). int (pos m)) (omega arith)) tt)
    | inr b ↦ elim (cases_lt n 0x1_0000) [
      | inl d ↦ rw (le-ltb n 0x80 a, le-ltb n 0x100 b, lt-ltb n 0x1_0000 d)
          (spelled 0xcd _ (int (pos n)) (to_be_bytes w16 n) refl
          (refl, ap (λ (m : ℕ). int (pos m)) (sym (number-w16 n d))) tt)
      | inr d ↦ elim (cases_lt n 0x1_0000_0000) [
        | inl e ↦ rw (le-ltb n 0x80 a, le-ltb n 0x100 b, le-ltb n 0x1_0000 d, lt-ltb n 0x1_0000_0000 e)
            (spelled 0xce _ (int (pos n)) (to_be_bytes w32 n) refl
            (refl, ap (λ (m : ℕ). int (pos m)) (sym (number-w32 n e))) tt)
        | inr e ↦ rw (le-ltb n 0x80 a, le-ltb n 0x100 b, le-ltb n 0x1_0000 d, le-ltb n 0x1_0000_0000 e)
            (spelled 0xcf _ (int (pos n)) (to_be_bytes w64 n) refl
            (refl, ap (λ (m : ℕ). int (pos m)) (sym (number-w64 n fits))) tt)
      ]
    ]
  ]
]

-- bytes that spell -1 - n
negative : (bs : List ℕ) (n end : ℕ) → 256 ^ length bs ≡ end → number bs + n + 1 ≡ end → 2 * n + 2 ≤ end
    → int (negsuc n) ≡ int (signed_number bs)
negative bs n end width is low = ap int (sym (signed_number-negative bs n end width is low))

signed-spelled : (n : ℕ) → n < 2 ^ 63 → Spells (int (negsuc n)) (shortest (int (negsuc n)))
unfolding shortest format_of
signed-spelled n fits = elim (cases_lt n 32) [
  | inl a ↦ rw (lt-ltb n 32 a) (spelled-alone (0xff - n) (int (negsuc n)) (negative_fixint n a) tt)
  | inr a ↦ elim (cases_lt n 0x80) [
    | inl b ↦ rw (le-ltb n 32 a, lt-ltb n 0x80 b)
        (spelled 0xd0 _ (int (negsuc n)) ((0xff - n) ∷ []) refl
        (refl, negative ((0xff - n) ∷ []) n 0x100 refl (omega arith) (omega arith)) tt)
    | inr b ↦ elim (cases_lt n 0x8000) [
      | inl d ↦
          let bs : List ℕ = to_be_bytes w16 (0xffff - n) in
          let value : number bs ≡ 0xffff - n = number-w16 (0xffff - n) (omega arith) in
          rw (le-ltb n 32 a, le-ltb n 0x80 b, lt-ltb n 0x8000 d)
          (spelled 0xd1 _ (int (negsuc n)) bs refl (refl, negative bs n 0x1_0000 refl (omega arith) (omega arith))
          tt)
      | inr d ↦ elim (cases_lt n 0x8000_0000) [
        | inl e ↦
            let bs : List ℕ = to_be_bytes w32 (0xffff_ffff - n) in
            let value : number bs ≡ 0xffff_ffff - n = number-w32 (0xffff_ffff - n) (omega arith) in
            rw (le-ltb n 32 a, le-ltb n 0x80 b, le-ltb n 0x8000 d, lt-ltb n 0x8000_0000 e)
            (spelled 0xd2 _ (int (negsuc n)) bs refl (
              refl,
              negative bs n 0x1_0000_0000 refl (omega arith) (omega arith),
            ) tt)
        | inr e ↦
            let bs : List ℕ = to_be_bytes w64 (0xffff_ffff_ffff_ffff - n) in
            let value : number bs ≡ 0xffff_ffff_ffff_ffff - n = number-w64 (0xffff_ffff_ffff_ffff - n) (omega arith) in
            rw (le-ltb n 32 a, le-ltb n 0x80 b, le-ltb n 0x8000 d, le-ltb n 0x8000_0000 e)
            (spelled 0xd3 _ (int (negsuc n)) bs refl (
              refl,
              negative bs n 0x1_0000_0000_0000_0000 refl (omega arith) (omega arith),
            ) tt)
      ]
    ]
  ]
]

-- ---- texts, bytes and heads

-- a body after its length in 1, 2 or 4 bytes
counted-spelled : (make : List ℕ → AtomValue) (body : List ℕ) (in_one in_two in_four : ℕ)
    → format_of in_one ≡ Some (counted 1 make) → format_of in_two ≡ Some (counted 2 make)
    → format_of in_four ≡ Some (counted 4 make)
    → length body < 2 ^ 32 → IsText (make body) → Spells (make body)
    (length_spelling (length body) in_one in_two in_four ++ body)
counted-spelled make body in_one in_two in_four one two four fits utf8 =
    let n = length body in
    elim (cases_lt n 0x100) [
      | inl a ↦
          let value : number (n ∷ []) ≡ n = omega arith in
          rw (lt-ltb n 0x100 a) (spelled in_one _ (make body) (n ∷ body) one
          (n ∷ [], body, refl, refl, value, refl) utf8)
      | inr a ↦ elim (cases_lt n 0x1_0000) [
        | inl b ↦ rw (le-ltb n 0x100 a, lt-ltb n 0x1_0000 b)
            (spelled in_two _ (make body) (to_be_bytes w16 n ++ body) two
            (to_be_bytes w16 n, body, refl, refl, number-w16 n b, refl) utf8)
        | inr b ↦ rw (le-ltb n 0x100 a, le-ltb n 0x1_0000 b)
            (spelled in_four _ (make body) (to_be_bytes w32 n ++ body) four
            (to_be_bytes w32 n, body, refl, refl, number-w32 n fits, refl) utf8)
      ]
    ]

-- a head in 1, 3 or 5 bytes
head-spelled : (make : ℕ → AtomValue) (n alone_from in_two in_four : ℕ)
    → (n < 16 → format_of (alone_from + n) ≡ Some (alone (make n)))
    → format_of in_two ≡ Some (fixed 2 (λ bs. make (number bs)))
    → format_of in_four ≡ Some (fixed 4 (λ bs. make (number bs)))
    → n < 2 ^ 32 → IsText (make n) → Spells (make n) (head_spelling n alone_from in_two in_four)
head-spelled make n alone_from in_two in_four one two four fits utf8 = elim (cases_lt n 16) [
  | inl a ↦ rw (lt-ltb n 16 a) (spelled-alone (alone_from + n) (make n) (one a) utf8)
  | inr a ↦ elim (cases_lt n 0x1_0000) [
    | inl b ↦ rw (le-ltb n 16 a, lt-ltb n 0x1_0000 b)
        (spelled in_two _ (make n) (to_be_bytes w16 n) two (refl, ap make (sym (number-w16 n b))) utf8)
    | inr b ↦ rw (le-ltb n 16 a, le-ltb n 0x1_0000 b)
        (spelled in_four _ (make n) (to_be_bytes w32 n) four (refl, ap make (sym (number-w32 n fits))) utf8)
  ]
]

text-spelled : (bs : List ℕ) → length bs < 2 ^ 32 → IsUtf8 bs → Spells (text bs) (shortest (text bs))
unfolding shortest format_of
text-spelled bs fits utf8 = elim (cases_lt (length bs) 32) [
  | inl a ↦ rw (lt-ltb (length bs) 32 a) (spelled (0xa0 + length bs) _ (text bs) bs (fixstr (length bs) a)
      (refl, refl) utf8)
  | inr a ↦ rw (le-ltb (length bs) 32 a) (counted-spelled text bs 0xd9 0xda 0xdb refl refl refl fits utf8)
]

boolean-spelled : (b : Bool) → Spells (boolean b) (shortest (boolean b))
unfolding shortest format_of
boolean-spelled true = spelled-alone 0xc3 (boolean true) refl tt
boolean-spelled false = spelled-alone 0xc2 (boolean false) refl tt

float32-spelled : (bits : ℕ) → bits < 2 ^ 32 → Spells (float32 bits) (shortest (float32 bits))
unfolding shortest format_of
float32-spelled bits h = spelled 0xca _ (float32 bits) (to_be_bytes w32 bits) refl
    (refl, ap float32 (sym (number-w32 bits h))) tt

float64-spelled : (bits : ℕ) → bits < 2 ^ 64 → Spells (float64 bits) (shortest (float64 bits))
unfolding shortest format_of
float64-spelled bits h = spelled 0xcb _ (float64 bits) (to_be_bytes w64 bits) refl
    (refl, ap float64 (sym (number-w64 bits h))) tt

binary-spelled : (bs : List ℕ) → length bs < 2 ^ 32 → Spells (binary bs) (shortest (binary bs))
unfolding shortest format_of
binary-spelled bs fits = counted-spelled binary bs 0xc4 0xc5 0xc6 refl refl refl fits tt

array-spelled : (n : ℕ) → n < 2 ^ 32 → Spells (array_head n) (shortest (array_head n))
unfolding shortest format_of
array-spelled n fits = head-spelled array_head n 0x90 0xdc 0xdd (fixarray n) refl refl fits tt

map-spelled : (n : ℕ) → n < 2 ^ 32 → Spells (map_head n) (shortest (map_head n))
unfolding shortest format_of
map-spelled n fits = head-spelled map_head n 0x80 0xde 0xdf (fixmap n) refl refl fits tt

-- the shortest spelling of an atom spells it
pub shortest-spelled : (a : AtomValue) → Fits a → IsTyped a → Spells a (shortest a)
shortest-spelled (int (pos n)) fits typed = unsigned-spelled n fits
shortest-spelled (int (negsuc n)) fits typed = signed-spelled n fits
shortest-spelled (boolean b) fits typed = boolean-spelled b
shortest-spelled (float32 bits) fits typed = float32-spelled bits typed
shortest-spelled (float64 bits) fits typed = float64-spelled bits typed
shortest-spelled (text bs) fits typed = text-spelled bs fits typed
shortest-spelled (binary bs) fits typed = binary-spelled bs fits
shortest-spelled (array_head n) fits typed = array-spelled n typed
shortest-spelled (map_head n) fits typed = map-spelled n typed
