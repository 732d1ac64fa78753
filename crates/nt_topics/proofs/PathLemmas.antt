-- The client's name in a target, case by case.
use Rattle.std.proofs.Common.{◌≡◌, ℕ, ◌<◌, ◌≤◌, List, length, Ok, Err, Bool, true, false, refl, arith}
use Rattle.std.specs.Str.{IsUtf8, is_utf8}
use Rattle.std.proofs.lemmas.Grind.{common_steps}
use Rattle.std.proofs.lemmas.Str.{IsUtf8-from_is_utf8, is_utf8-from_IsUtf8}
use Rattle.nt_topics.specs.Paths.{client_name}
use Rattle.nt_topics.specs.declared.path.PathFault.TheVariants.{NotText, Empty, TooLong}

-- bytes that are no text
pub not_text : (bytes : List ℕ) → ¬ (IsUtf8 bytes) → Err NotText ≡ client_name bytes
not_text bytes never = by (is_utf8 bytes) refl
  where
    by : (b : Bool) → is_utf8 bytes ≡ b → Err NotText ≡ client_name bytes
    by true e = absurd (never (IsUtf8-from_is_utf8 bytes e))
    by false e = rw (e) refl

-- no bytes
pub empty : (bytes : List ℕ) → IsUtf8 bytes → length bytes ≡ 0 → Err Empty ≡ client_name bytes
empty bytes text none = rw (is_utf8-from_IsUtf8 bytes text, none) refl

-- too many bytes
pub too_long : (bytes : List ℕ) → IsUtf8 bytes → 256 < length bytes → Err TooLong ≡ client_name bytes
too_long bytes text many = let t = is_utf8-from_IsUtf8 bytes text in grind (arith, common_steps)

-- the name
pub fits : (bytes : List ℕ) → IsUtf8 bytes → 0 < length bytes → length bytes ≤ 256 → Ok bytes
    ≡ client_name bytes
fits bytes text some few = let t = is_utf8-from_IsUtf8 bytes text in grind (arith, common_steps)
