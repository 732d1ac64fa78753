-- What a turn does to what is kept of a history.
use Rattle.std.specs.Prelude.{◌≡◌, ℕ, ◌+◌, List, [], ◌∷◌, ◌++◌, Bool, true, false, Option, Some, None, IfSome}
use Rattle.nt_rules.specs.declared.act.Entry.{Entry}
use Rattle.nt_lock.specs.declared.view.Note.{Note}
use Rattle.nt_lock.specs.declared.view.Note.TheVariants.{Made, Refused, Looked, Unmarked}
use Rattle.nt_lock.specs.declared.view.Kept.{Kept}

abbrev pub is_made : Note → Bool
is_made (Made e) = true
is_made Refused = false
is_made (Looked failed) = false
is_made Unmarked = false

-- how many entries a turn makes
abbrev pub more : Note → ℕ
more (Made e) = 1
more Refused = 0
more (Looked failed) = 0
more Unmarked = 0

-- an entry goes to the end of the list
abbrev pub grown : Note → Option (List Entry) → Option (List Entry)
grown (Made e) (Some list) = Some (list ++ e ∷ [])
grown (Made e) None = None
grown Refused told = told
grown (Looked failed) told = told
grown Unmarked told = told

-- a refused turn is remembered
abbrev pub fails : Note → Bool → Bool
fails (Made e) failed = failed
fails Refused failed = true
fails (Looked found) failed = failed
fails Unmarked failed = failed

-- what is kept after a turn
abbrev pub after : Note → Kept → Kept
after note k =
    record {
      origin = k.origin;
      told = grown note k.told;
      count = k.count + more note;
      failed = fails note k.failed;
    }

-- a worker makes its own entries, and a look finds what there is
abbrev pub MayNote : ℕ → Bool → Note → Type 0
MayNote worker failed (Made e) = e.worker ≡ worker
MayNote worker failed Refused = Unit {0}
MayNote worker failed (Looked found) = found ≡ failed
MayNote worker failed Unmarked = Unit {0}

-- what is told is what is kept, but that the entries may be told no longer
pub record Tells (k told : Kept) : Type 0 where
  pub origin : told.origin ≡ k.origin
  pub count : told.count ≡ k.count
  pub failed : told.failed ≡ k.failed
  pub entries : IfSome told.told (λ list. k.told ≡ Some list)
