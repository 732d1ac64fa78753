-- Members of a list, and fields of a name, one at a time.
use Rattle.std.proofs.Common.{◌≡◌, ℕ, Bool, ◌||◌, List, [], ◌∷◌, map, refl, ap}
use Rattle.std.specs.Prelude.{◌==◌, Option, None, Some}
use Rattle.std.specs.List.{list_any, slice_split}
use Rattle.httparse.specs.Grammar.{trim_ows}
use Rattle.nt_ws.specs.Fields.{members}

any-map : {X Y : Type 0} (p : Y → Bool) (f : X → Y) (xs : List X)
    → list_any (λ (x : X). p (f x)) xs ≡ list_any p (map f xs)
any-map p f [] = refl
any-map p f (x ∷ xs) = ap (λ (t : Bool). p (f x) || t) (any-map p f xs)

-- a part between commas whose trimmed bytes pass is a member that passes
pub any-member : (p : List ℕ → Bool) (value : List ℕ)
    → list_any (λ (part : List ℕ). p (trim_ows part)) (slice_split (λ b. b == 44) value) ≡ list_any p
    (members value)
unfolding members
any-member p value = any-map p trim_ows (slice_split (λ b. b == 44) value)

-- the value that was found, and those of the other fields
abbrev pub with_found : Option (List ℕ) → List (List ℕ) → List (List ℕ)
with_found None values = values
with_found (Some value) values = value ∷ values
