-- Numbers and the bytes that spell them, the least first.
use Rattle.std.proofs.Common.{◌≡◌, ℕ, zero, suc, ◌+◌, ◌-◌, ◌*◌, ◌/◌, ◌%◌, ◌^◌, ◌≤◌, ◌<◌, ltb, List, [], ◌∷◌, ◌++◌, length, take, get_or, refl, sym, ap, subst, ◌∙◌, arith, pow-suc, div-one, mod-eq_of_lt, lt_of_not-le}
use Rattle.std.specs.List.{flat_map}
use Rattle.std.proofs.Math.Arith.{mod-mul}
use Rattle.std.proofs.Math.Nat.{pow-le-pow_right, div-div-eq-div-mul}
use Rattle.std.proofs.lemmas.Bool.{cond_both, ltb-true, ltb-false}
use Rattle.std.proofs.lemmas.List.{take_more, flat_map_more}
use Rattle.std.proofs.lemmas.List.Elements.{All-head, All-tail}
use Rattle.std.specs.Int.{w64, bytes_low_first, byte_at, to_le_bytes}
use Rattle.wpilog_write.specs.Log.{number}
use Rattle.wpilog_write.specs.Written.{least, shortest}
use Rattle.wpilog_write.specs.Fits.{AreBytes}

-- the first of the bytes of a number
take-bytes : (i k more n : ℕ) → take k (bytes_low_first i (k + more) n) ≡ bytes_low_first i k n
take-bytes i zero more n = refl
take-bytes i (suc k) more n =
    let more_is : suc k + more ≡ suc (k + more) = omega arith in
    rw more_is (ap (λ (w : List ℕ). byte_at i n ∷ w) (take-bytes (suc i) k more n))

-- the same of a number of 8 bytes
pub first_bytes : (k n : ℕ) → k ≤ 8 → take k (to_le_bytes w64 n) ≡ bytes_low_first 0 k n
first_bytes k n le =
    let all : k + (8 - k) ≡ 8 = omega arith in
    subst (λ (m : ℕ). take k (bytes_low_first 0 m n) ≡ bytes_low_first 0 k n) all (take-bytes 0 k (8 - k) n)

-- what is written of the items of a list so far, and of one more
pub row-more : (X : Type 0) (f : X → List ℕ) (xs : List X) (i : ℕ) (d : X) (base : List ℕ) → i < length xs
    → (base ++ flat_map f (take i xs)) ++ f (get_or xs i d) ≡ base ++ flat_map f (take (i + 1) xs)
row-more X f xs i d base within = flat_map_more f base (take i xs) (get_or xs i d)
    ∙ ap (λ (w : List X). base ++ flat_map f w) (sym (take_more xs i d within))

-- ---- what bytes spell

-- so many bytes are written
pub length-bytes : (i k n : ℕ) → length (bytes_low_first i k n) ≡ k
length-bytes i zero n = refl
length-bytes i (suc k) n = ap suc (length-bytes (suc i) k n)

-- a byte of a number
byte-is : (i n : ℕ) → byte_at i n ≡ n / 256 ^ i % 256
byte-is zero n = ap (λ (w : ℕ). w % 256) (sym (div-one n))
byte-is (suc i) n = refl

-- the low digit before the others, and after them
digits-turned : (low high : ℕ) → low + 256 * high ≡ high * 256 + low
digits-turned low high = omega arith

-- bytes from one on spell what they hold of a number
number-at : (i k n : ℕ) → number (bytes_low_first i k n) ≡ n / 256 ^ i % 256 ^ k
number-at i zero n = omega arith
number-at i (suc k) n =
    let some : 0 < 256 ^ k = pow-le-pow_right {n = 256} (omega arith) {i = 0} {j = k} (omega arith) in
    let higher : n / 256 ^ suc i ≡ n / 256 ^ i / 256 = ap (λ (w : ℕ). n / w) (pow-suc 256 i)
    ∙ sym (div-div-eq-div-mul n (256 ^ i) 256) in
    let after : number (bytes_low_first (suc i) k n) ≡ n / 256 ^ i / 256 % 256 ^ k = number-at (suc i) k n
    ∙ ap (λ (w : ℕ). w % 256 ^ k) higher in
    rw (byte-is i n, after, pow-suc 256 k, mod-mul (n / 256 ^ i) {m = 256 ^ k} {c = 256} some (omega arith))
    (digits-turned (n / 256 ^ i % 256) (n / 256 ^ i / 256 % 256 ^ k))

-- the low bytes of a number spell what is left of it
pub number-bytes : (k n : ℕ) → number (bytes_low_first 0 k n) ≡ n % 256 ^ k
number-bytes k n = number-at 0 k n ∙ ap (λ (w : ℕ). w % 256 ^ k) (div-one n)

-- a number that so many bytes can spell is spelled by them
pub number-fits : (k n : ℕ) → n < 256 ^ k → number (bytes_low_first 0 k n) ≡ n
number-fits k n below = number-bytes k n ∙ mod-eq_of_lt below

-- bytes spell a number below the end of their width
pub number-below : (bytes : List ℕ) → AreBytes bytes → number bytes < 256 ^ length bytes
number-below [] are = omega arith
number-below (b ∷ bytes) are =
    let more : number bytes < 256 ^ length bytes = number-below bytes (All-tail (λ b. b < 256) b bytes are) in
    let here : b < 256 = All-head (λ b. b < 256) b bytes are in
    rw (pow-suc 256 (length bytes)) (omega arith)

-- ---- the shortest spelling

-- a fact of how many bytes a number needs, by where it lies
by_least : (P : ℕ → Type 0) (n : ℕ) → (n < 256 ^ 1 → P 1) → (256 ^ 1 ≤ n → n < 256 ^ 2 → P 2)
    → (256 ^ 2 ≤ n → n < 256 ^ 3 → P 3) → (256 ^ 3 ≤ n → n < 256 ^ 4 → P 4) → (256 ^ 4 ≤ n → n < 256 ^ 5 → P 5)
    → (256 ^ 5 ≤ n → n < 256 ^ 6 → P 6) → (256 ^ 6 ≤ n → n < 256 ^ 7 → P 7) → (256 ^ 7 ≤ n → P 8) → P (least n)
by_least P n one two three four five six seven eight =
    cond_both (ltb n (2 ^ 8)) _ _ P (λ e. one (ltb-true n (2 ^ 8) e)) (λ e. let a = ltb-false n (2 ^ 8) e in
    cond_both (ltb n (2 ^ 16)) _ _ P (λ f. two a (ltb-true n (2 ^ 16) f)) (λ f. let b = ltb-false n (2 ^ 16) f in
    cond_both (ltb n (2 ^ 24)) _ _ P (λ g. three b (ltb-true n (2 ^ 24) g)) (λ g. let c = ltb-false n (2 ^ 24) g in
    cond_both (ltb n (2 ^ 32)) _ _ P (λ h. four c (ltb-true n (2 ^ 32) h)) (λ h. let d = ltb-false n (2 ^ 32) h in
    cond_both (ltb n (2 ^ 40)) _ _ P (λ i. five d (ltb-true n (2 ^ 40) i)) (λ i. let e = ltb-false n (2 ^ 40) i in
    cond_both (ltb n (2 ^ 48)) _ _ P (λ j. six e (ltb-true n (2 ^ 48) j)) (λ j. let f = ltb-false n (2 ^ 48) j in
    cond_both (ltb n (2 ^ 56)) _ _ P (λ k. seven f (ltb-true n (2 ^ 56) k))
    (λ k. eight (ltb-false n (2 ^ 56) k))))))))

-- at least one byte is needed
pub least-some : (n : ℕ) → 1 ≤ least n
least-some n = by_least (λ k. 1 ≤ k) n (λ _. omega arith) (λ _ _. omega arith) (λ _ _. omega arith)
    (λ _ _. omega arith) (λ _ _. omega arith) (λ _ _. omega arith) (λ _ _. omega arith) (λ _. omega arith)

-- what is needed is enough for a number of eight bytes
pub least-fits : (n : ℕ) → n < 2 ^ 64 → n < 256 ^ least n
least-fits n below = by_least (λ k. n < 256 ^ k) n (λ h. h) (λ _ h. h) (λ _ h. h) (λ _ h. h) (λ _ h. h) (λ _ h. h)
    (λ _ h. h) (λ _. below)

-- a number that m bytes cannot spell needs more
more-bytes : (k m n : ℕ) → n < 256 ^ k → 256 ^ m ≤ n → m < k
more-bytes k m n below above = lt_of_not-le (λ le.
    let high : 256 ^ k ≤ 256 ^ m = pow-le-pow_right {n = 256} (omega arith) {i = k} {j = m} le in omega arith)

-- no fewer bytes are enough
pub least-fewest : (k n : ℕ) → 1 ≤ k → n < 256 ^ k → least n ≤ k
least-fewest k n some below = by_least (λ j. j ≤ k) n (λ _. some) (λ h _. more-bytes k 1 n below h)
    (λ h _. more-bytes k 2 n below h) (λ h _. more-bytes k 3 n below h) (λ h _. more-bytes k 4 n below h)
    (λ h _. more-bytes k 5 n below h) (λ h _. more-bytes k 6 n below h) (λ h. more-bytes k 7 n below h)

-- the shortest spelling of a number
pub shortest-length : (n : ℕ) → length (shortest n) ≡ least n
shortest-length n = length-bytes 0 (least n) n

pub shortest-number : (n : ℕ) → n < 2 ^ 64 → number (shortest n) ≡ n
shortest-number n below = number-fits (least n) n (least-fits n below)
