-- What a saving does to the bytes that are kept.
use Rattle.std.specs.Prelude.{◌≡◌, ◌⊎◌, ℕ, List, Option, Some, None, Result, MatchResult}
use Rattle.nt_wire.specs.declared.link.LinkFault.{LinkFault}

-- these bytes alone, where it is told what is kept
abbrev pub replaced : Option (Option (List ℕ)) → List ℕ → Option (Option (List ℕ))
replaced None bytes = None
replaced (Some kept) bytes = Some (Some bytes)

-- the bytes are kept, or, where the saving failed, either they or those before
abbrev pub Saves : {T : Type 0} → Option (Option (List ℕ)) → List ℕ → Result T LinkFault → Option (Option (List ℕ)) → Type 0
Saves before bytes result now =
    MatchResult result (λ _. now ≡ replaced before bytes) (λ _. (now ≡ before) ⊎ (now ≡ replaced before bytes))
