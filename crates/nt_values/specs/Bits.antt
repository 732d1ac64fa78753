-- What the bit patterns of floats and doubles stand for, and which pattern is nearest to a number.
-- The sections are those of IEEE 754-2019. A pattern is a number.
use Rattle.std.specs.Prelude.{◌≡◌, ◌≢◌, ℕ, ◌+◌, ◌-◌, ◌*◌, ◌/◌, ◌%◌, ◌^◌, ◌<◌, ◌≤◌, min, ◌==◌, if◌then◌else◌, bit_or, ℤ, pos, negsuc, unsigned_abs}
use Rattle.std.specs.Int.{abs_diff}

-- ---- 3.4 "Binary interchange format encodings"

-- From its top bit down a pattern is the sign, the exponent field and the fraction field. The
-- exponent that a field stands for is the field less the bias.
pub record Format : Type 0 where
  pub exponent_bits : ℕ
  pub fraction_bits : ℕ
  pub bias : ℕ

-- binary32
abbrev pub float_format : Format
float_format = record { exponent_bits = 8; fraction_bits = 23; bias = 127 }

-- binary64
abbrev pub double_format : Format
double_format = record { exponent_bits = 11; fraction_bits = 52; bias = 1023 }

-- how many patterns there are without their sign
abbrev pub magnitudes : Format → ℕ
magnitudes f = 2 ^ (f.exponent_bits + f.fraction_bits)

-- 0 for plus and 1 for minus
abbrev pub sign_of : Format → ℕ → ℕ
sign_of f bits = bits / magnitudes f

-- the pattern without its sign
abbrev pub magnitude_of : Format → ℕ → ℕ
magnitude_of f bits = bits % magnitudes f

abbrev pub fraction_of : Format → ℕ → ℕ
fraction_of f bits = bits % 2 ^ f.fraction_bits

-- the greatest exponent field over an empty fraction
abbrev pub infinity : Format → ℕ
infinity f = (2 ^ f.exponent_bits - 1) * 2 ^ f.fraction_bits

abbrev pub IsFinite : Format → ℕ → Type 0
IsFinite f bits = magnitude_of f bits < infinity f

abbrev pub IsInfinite : Format → ℕ → Type 0
IsInfinite f bits = magnitude_of f bits ≡ infinity f

abbrev pub IsNan : Format → ℕ → Type 0
IsNan f bits = infinity f < magnitude_of f bits

-- ---- what a pattern is worth, counted in units of 2 ^ -1074

-- The unit is the least positive double, and each float, double and whole number is a whole number
-- of units. A fraction has a leading 1 in front where the exponent field isn't 0; at 0 (zero and the
-- subnormals) it has none, and the exponent is that of field 1.
unfoldable pub worth : Format → ℕ → ℕ
worth f magnitude =
    let exponent = magnitude / 2 ^ f.fraction_bits in
    let fraction = magnitude % 2 ^ f.fraction_bits in
    if exponent == 0
    then fraction * 2 ^ (1075 - (f.bias + f.fraction_bits))
    else (2 ^ f.fraction_bits + fraction) * 2 ^ (1074 + exponent - (f.bias + f.fraction_bits))

-- a format whose patterns are all worth whole numbers of units
abbrev pub IsMeasured : Format → Type 0
IsMeasured f = f.bias + f.fraction_bits ≤ 1075

-- what a whole number is worth
unfoldable pub worth_of_whole : ℕ → ℕ
worth_of_whole n = n * 2 ^ 1074

-- ---- 4.3.1 "Rounding-direction attributes to nearest": roundTiesToEven

-- All patterns are read as if the format had one exponent more: the greatest exponent field is one
-- like the others. None of them is at less distance from x than p is, and where another is at the
-- same distance p is even, which is its fraction's last bit.
pub record IsNearest (f : Format) (x p : ℕ) : Type 0 where
  pub within : p < magnitudes f
  pub none_nearer : (q : ℕ) → q < magnitudes f
      → abs_diff x (worth f p) ≤ abs_diff x (worth f q)
  pub even_in_tie : (q : ℕ) → q < magnitudes f → q ≢ p
      → abs_diff x (worth f q) ≡ abs_diff x (worth f p) → p % 2 ≡ 0

-- the nearest pattern, or the infinity where that has the greatest exponent field
pub record IsRounded (f : Format) (x magnitude : ℕ) : Type 0 where
  pub pattern : ℕ
  pub nearest : IsNearest f x pattern
  pub is : magnitude ≡ min pattern (infinity f)

-- n / 2 ^ k, rounded to the nearest whole number, and to the even one of two
pub record IsRoundedOff (n k r : ℕ) : Type 0 where
  pub below : 2 * (n % 2 ^ k) < 2 ^ k → r ≡ n / 2 ^ k
  pub tie : 2 * (n % 2 ^ k) ≡ 2 ^ k → r ≡ n / 2 ^ k + n / 2 ^ k % 2
  pub above : 2 ^ k < 2 * (n % 2 ^ k) → r ≡ n / 2 ^ k + 1

-- ---- 5.4.1: formatOf-convertFromInt

abbrev pub sign_of_int : ℤ → ℕ
sign_of_int (pos n) = 0
sign_of_int (negsuc n) = 1

-- the pattern of a format that is nearest to a whole number; 0 is the positive zero
pub record IsNearestToInt (f : Format) (n : ℤ) (bits : ℕ) : Type 0 where
  pub sign : sign_of f bits ≡ sign_of_int n
  pub nearest : IsRounded f (worth_of_whole (unsigned_abs n)) (magnitude_of f bits)
  pub zero : n ≡ pos 0 → bits ≡ 0

-- ---- 5.4.2: formatOf-convertFormat

-- the double of the same value as a float
pub record IsDoubleOfFloat (float double : ℕ) : Type 0 where
  pub sign : sign_of double_format double ≡ sign_of float_format float
  pub zero : magnitude_of float_format float ≡ 0 → magnitude_of double_format double ≡ 0
  pub finite : IsFinite float_format float → IsFinite double_format double
  pub value : IsFinite float_format float
      → worth double_format (magnitude_of double_format double)
      ≡ worth float_format (magnitude_of float_format float)
  pub infinite : IsInfinite float_format float → IsInfinite double_format double
  pub nan : IsNan float_format float → IsNan double_format double
  pub nan_fraction : IsNan float_format float
      → fraction_of double_format double ≡ fraction_of float_format float * 2 ^ 29

-- the float that is nearest to a double
pub record IsFloatOfDouble (double float : ℕ) : Type 0 where
  pub sign : sign_of float_format float ≡ sign_of double_format double
  pub zero : magnitude_of double_format double ≡ 0 → magnitude_of float_format float ≡ 0
  pub nearest : IsFinite double_format double
      → IsRounded float_format (worth double_format (magnitude_of double_format double))
      (magnitude_of float_format float)
  pub infinite : IsInfinite double_format double → IsInfinite float_format float
  pub nan : IsNan double_format double → IsNan float_format float
  -- the top bit of a fraction marks a quiet NaN
  pub nan_fraction : IsNan double_format double
      → fraction_of float_format float ≡ bit_or (fraction_of double_format double / 2 ^ 29) (2 ^ 22)
