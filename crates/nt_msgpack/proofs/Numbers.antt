-- Numbers and the bytes that spell them, the greatest first.
use Rattle.std.proofs.Common.{◌≡◌, ℕ, zero, suc, ◌+◌, ◌*◌, ◌%◌, ◌^◌, ◌<◌, ◌≤◌, false, ltb, negsuc, List, [], ◌∷◌, length, refl, ap, ◌∙◌, arith, pow-suc, mul_comm}
use Rattle.std.specs.Prelude.{All}
use Rattle.std.specs.Int.{w16, w32, w64, bytes_high_first, byte_at, to_be_bytes}
use Rattle.std.proofs.Math.Nat.{pow-le-pow_right}
use Rattle.std.proofs.Math.Arith.{mod-mul}
use Rattle.std.proofs.lemmas.Nat.{mul-add-lt}
use Rattle.std.proofs.lemmas.Bool.{le-ltb}
use Rattle.std.proofs.lemmas.List.Elements.{All-head, All-tail}
use Rattle.nt_msgpack.specs.Atoms.{IsByte, number, signed_number}

-- so many bytes are written
pub length-bytes : (k n : ℕ) → length (bytes_high_first k n) ≡ k
length-bytes zero n = refl
length-bytes (suc k) n = ap suc (length-bytes k n)

-- one more byte before the low k bytes
byte_on : (k n : ℕ) → byte_at k n * 256 ^ k + n % 256 ^ k ≡ n % 256 ^ suc k
byte_on zero n = omega arith
byte_on (suc k) n =
    let unit = 256 ^ suc k in
    let wider : 256 ^ suc (suc k) ≡ 256 * unit = pow-suc 256 (suc k) ∙ mul_comm unit 256 in
    let some : 0 < unit = pow-le-pow_right {n = 256} (omega arith) {i = 0} {j = suc k} (omega arith) in
    rw (wider, mod-mul n {m = 256} {c = unit} (omega arith) some) refl

-- the low bytes of a number spell what is left of it
number-bytes : (k n : ℕ) → number (bytes_high_first k n) ≡ n % 256 ^ k
number-bytes zero n = omega arith
number-bytes (suc k) n = rw (length-bytes k n, number-bytes k n) (byte_on k n)

-- a number of 2, 4 or 8 bytes is spelled by them
pub number-w16 : (n : ℕ) → n < 2 ^ 16 → number (to_be_bytes w16 n) ≡ n
number-w16 n h = number-bytes 2 n ∙ omega arith

pub number-w32 : (n : ℕ) → n < 2 ^ 32 → number (to_be_bytes w32 n) ≡ n
number-w32 n h = number-bytes 4 n ∙ omega arith

pub number-w64 : (n : ℕ) → n < 2 ^ 64 → number (to_be_bytes w64 n) ≡ n
number-w64 n h = number-bytes 8 n ∙ omega arith

-- bytes spell -1 - n in two's complement where they spell that much below the end of their width
pub signed_number-negative : (bs : List ℕ) (n end : ℕ) → 256 ^ length bs ≡ end → number bs + n + 1 ≡ end
    → 2 * n + 2 ≤ end
    → signed_number bs ≡ negsuc n
signed_number-negative bs n end width is low =
    let test : ltb (2 * number bs) (256 ^ length bs) ≡ false = le-ltb _ _ (omega arith) in
    rw test (ap negsuc (omega arith))

-- bytes spell a number below the end of their width
pub number-below : (bs : List ℕ) → All IsByte bs → number bs < 256 ^ length bs
number-below [] bytes = omega arith
number-below (b ∷ bs) bytes =
    let more : number bs < 256 ^ length bs = number-below bs (All-tail IsByte b bs bytes) in
    let here : b < 256 = All-head IsByte b bs bytes in
    let wider : 256 ^ suc (length bs) ≡ 256 ^ length bs * 256 = pow-suc 256 (length bs) in
    rw wider (mul-add-lt b (256 ^ length bs) (number bs) 256 here more)
