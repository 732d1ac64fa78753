-- What a turn's note does.
--     fails-more, refused-fails, found-fails, why-fails     when it has failed after the turn
--     long-told                                             the list that is kept then is as long as the count
--     few-more                                              a turn makes at most one entry
--     made-more-is, some-more                               how many it makes, by whether it made one
--     tells-same                                            what is told tells itself
use Rattle.std.proofs.Common.{◌≡◌, ℕ, ◌+◌, ◌≤◌, List, [], ◌∷◌, length, sym, refl, ◌∙◌, arith, length-append, Bool, true}
use Rattle.std.specs.Prelude.{Option, Some, None, IfSome}
use mir.Val.{bool_byte}
use Rattle.nt_rules.specs.declared.act.Entry.{Entry}
use Rattle.nt_lock.specs.declared.view.Note.{Note}
use Rattle.nt_lock.specs.declared.view.Note.TheVariants.{Made, Refused, Looked, Unmarked}
use Rattle.nt_lock.specs.declared.view.Kept.{Kept}
use Rattle.nt_lock.specs.Turns.{is_refused, found_failed}
use Rattle.nt_lock.specs.Notes.{is_made, more, grown, fails, MayNote, Tells}
use Rattle.nt_lock.proofs.Lists.{false-is-not-true}

pub fails-more : (note : Note) (failed : Bool) → failed ≡ true → fails note failed ≡ true
fails-more (Made e) failed h = h
fails-more Refused failed h = refl
fails-more (Looked found) failed h = h
fails-more Unmarked failed h = h

pub refused-fails : (note : Note) (failed : Bool) → is_refused note ≡ true → fails note failed ≡ true
refused-fails (Made e) failed h = absurd (false-is-not-true h)
refused-fails Refused failed h = refl
refused-fails (Looked found) failed h = absurd (false-is-not-true h)
refused-fails Unmarked failed h = absurd (false-is-not-true h)

pub found-fails : (worker : ℕ) (note : Note) (failed : Bool) → MayNote worker failed note → found_failed note ≡ true
    → fails note failed ≡ true
found-fails worker (Made e) failed m h = absurd (false-is-not-true h)
found-fails worker Refused failed m h = refl
found-fails worker (Looked found) failed m h = sym m ∙ h
found-fails worker Unmarked failed m h = absurd (false-is-not-true h)

pub why-fails : {X : Type 0} (note : Note) (failed : Bool) → fails note failed ≡ true → (failed ≡ true → X)
    → (is_refused note ≡ true → X) → X
why-fails (Made e) failed h f g = f h
why-fails Refused failed h f g = g refl
why-fails (Looked found) failed h f g = f h
why-fails Unmarked failed h f g = f h

pub long-told : (note : Note) (count : ℕ) (told : Option (List Entry)) → IfSome told (λ l. length l ≡ count)
    → IfSome (grown note told) (λ l. length l ≡ count + more note)
long-told (Made e) count (Some list) h = omega (arith, length-append list (e ∷ []))
long-told Refused count (Some list) h = omega arith
long-told (Looked found) count (Some list) h = omega arith
long-told Unmarked count (Some list) h = omega arith
long-told (Made e) count None h = tt
long-told Refused count None h = tt
long-told (Looked found) count None h = tt
long-told Unmarked count None h = tt

pub few-more : (note : Note) → more note ≤ 1
few-more (Made e) = omega arith
few-more Refused = omega arith
few-more (Looked found) = omega arith
few-more Unmarked = omega arith

pub made-more-is : (note : Note) → bool_byte (is_made note) ≡ more note
made-more-is (Made e) = refl
made-more-is Refused = refl
made-more-is (Looked found) = refl
made-more-is Unmarked = refl

pub some-more : (note : Note) → 1 ≤ more note → is_made note ≡ true
some-more (Made e) h = refl
some-more Refused h = absurd (omega arith)
some-more (Looked found) h = absurd (omega arith)
some-more Unmarked h = absurd (omega arith)

pub tells-same : (k : Kept) → Tells k k
tells-same k = record { origin = refl; count = refl; failed = refl; entries = itself k.told }
  where
    itself : (o : Option (List Entry)) → IfSome o (λ list. o ≡ Some list)
    itself (Some x) = refl
    itself None = tt
