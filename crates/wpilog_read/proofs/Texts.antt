-- A test for text and what it says.
use Rattle.std.proofs.Common.{◌≡◌, ℕ, Bool, true, false, List, refl, cond, Ok, Err}
use Rattle.std.specs.Str.{IsUtf8, is_utf8}
use Rattle.std.proofs.lemmas.Str.{IsUtf8-from_is_utf8, is_utf8-from_IsUtf8}
use Rattle.wpilog_read.specs.declared.fault.LogKind.TheVariants.{BadText}
use Rattle.wpilog_read.specs.declared.fault.Stop.TheVariants.{Known}
use Rattle.wpilog_read.specs.Reading.{text_of}

-- a text is read as it is
pub text_of-text : (bytes text : List ℕ) → IsUtf8 bytes → text ≡ bytes → text_of bytes ≡ Ok text
unfolding text_of
text_of-text bytes text h e = rw (is_utf8-from_IsUtf8 bytes h, e) refl

-- other bytes are not read as text
pub text_of-other : (bytes : List ℕ) → ¬ (IsUtf8 bytes) → text_of bytes ≡ Err (Known BadText)
unfolding text_of
text_of-other bytes h = by_test (is_utf8 bytes) refl where
  by_test : (b : Bool) → is_utf8 bytes ≡ b → cond b (Ok bytes) (Err (Known BadText)) ≡ Err (Known BadText)
  by_test true e = absurd (h (IsUtf8-from_is_utf8 bytes e))
  by_test false e = refl
