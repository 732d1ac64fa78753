-- What one side of a stream leaves alone.
use Rattle.std.proofs.Common.{◌≡◌, ℕ, List, sym, ap, ◌∙◌}
use Rattle.std.specs.Prelude.{Option}
use Rattle.nt_link.specs.Causes.{Aside}

module _ {S : Type 0} (aside : S → Aside) (bytes : S → Option (List ℕ)) (faults : S → ℕ)
    (law : (s : S)
    → aside s ≡ record { bytes = bytes s; faults = faults s }) (before now : S)
    (same : aside now ≡ aside before) where
  pub same-bytes : bytes now ≡ bytes before
  same-bytes = ap (λ (a : Aside). a.bytes) (sym (law now) ∙ same ∙ law before)

  pub same-faults : faults now ≡ faults before
  same-faults = ap (λ (a : Aside). a.faults) (sym (law now) ∙ same ∙ law before)
