-- The whole lines of a list of bytes, and what stands after them.
use Rattle.std.proofs.Common.{◌≡◌, ℕ, Bool, true, false, cond, ◌||◌, List, [], ◌∷◌, ◌++◌, refl, sym, ap, ◌∙◌, append-nil}
use Rattle.std.proofs.lemmas.Bool.{true≢false}
use Rattle.nt_tools.specs.LineReading.{is_feed, IsUnbroken}
use Rattle.nt_cli.specs.Desk.{is_empty, before_first, whole_lines, last_line}

-- ---- the lines after bytes without a line feed

neither : (a b : Bool) → (a || b) ≡ false → (a ≡ false) × (b ≡ false)
neither true b h = absurd (true≢false h)
neither false b h = (refl, h)

-- bytes before the first line, where there is one
abbrev pub all_before_first : List ℕ → List (List ℕ) → List (List ℕ)
all_before_first prefix [] = []
all_before_first prefix (line ∷ lines) = (prefix ++ line) ∷ lines

none_before_first : (lines : List (List ℕ)) → lines ≡ all_before_first [] lines
none_before_first [] = refl
none_before_first (line ∷ lines) = refl

one_more : (b : ℕ) (prefix : List ℕ) (lines : List (List ℕ)) → before_first b (all_before_first prefix lines)
    ≡ all_before_first (b ∷ prefix) lines
one_more b prefix [] = refl
one_more b prefix (line ∷ lines) = refl

as_empty : (prefix : List ℕ) (lines : List (List ℕ)) → is_empty (all_before_first prefix lines) ≡ is_empty lines
as_empty prefix [] = refl
as_empty prefix (line ∷ lines) = refl

with_byte : (b : ℕ) (lines : List (List ℕ)) → is_empty (before_first b lines) ≡ is_empty lines
with_byte b [] = refl
with_byte b (line ∷ lines) = refl

-- the whole lines of bytes without a line feed, and more
pub whole_lines-append : (prefix xs : List ℕ) → IsUnbroken prefix
    → whole_lines (prefix ++ xs) ≡ all_before_first prefix (whole_lines xs)
whole_lines-append [] xs h = none_before_first (whole_lines xs)
whole_lines-append (b ∷ prefix) xs h =
    let parts = neither _ _ h in
    let here : is_feed b ≡ false = parts.0 in
    rw (here, whole_lines-append prefix xs parts.1) (one_more b prefix (whole_lines xs))

-- bytes without a whole line are all after the last line feed
last_alone : (xs : List ℕ) → is_empty (whole_lines xs) ≡ true → last_line xs ≡ xs
last_alone [] h = refl
last_alone (b ∷ xs) h = by (is_feed b) refl
  where
    in_line : (e : Bool) → is_empty (whole_lines xs) ≡ e → is_empty (before_first b (whole_lines xs)) ≡ true
        → cond e (b ∷ xs) (last_line xs) ≡ b ∷ xs
    in_line true is all = refl
    in_line false is all = absurd (true≢false (sym all ∙ with_byte b (whole_lines xs) ∙ is))

    by : (f : Bool) → is_feed b ≡ f → cond f (last_line xs) (cond (is_empty (whole_lines xs)) (b ∷ xs) (last_line xs))
        ≡ b ∷ xs
    by true is = absurd (true≢false (sym (rw is at h)))
    by false is = in_line _ refl (rw is at h)

-- and what is after the last line feed of bytes without one, and more
pub last_line-append : (prefix xs : List ℕ) → IsUnbroken prefix
    → last_line (prefix ++ xs) ≡ cond (is_empty (whole_lines xs)) (prefix ++ xs) (last_line xs)
last_line-append [] xs h = by _ refl
  where
    by : (e : Bool) → is_empty (whole_lines xs) ≡ e → last_line xs ≡ cond e xs (last_line xs)
    by true is = last_alone xs is
    by false is = refl
last_line-append (b ∷ prefix) xs h =
    let parts = neither _ _ h in
    let here : is_feed b ≡ false = parts.0 in
    let same : is_empty (whole_lines (prefix ++ xs)) ≡ is_empty (whole_lines xs) =
    ap is_empty (whole_lines-append prefix xs parts.1) ∙ as_empty prefix (whole_lines xs) in
    rw (here, same, last_line-append prefix xs parts.1) (by (is_empty (whole_lines xs)))
  where
    by : (e : Bool) → cond e (b ∷ (prefix ++ xs)) (cond e (prefix ++ xs) (last_line xs))
        ≡ cond e (b ∷ (prefix ++ xs)) (last_line xs)
    by true = refl
    by false = refl

-- bytes without a line feed have no whole line, and are all after the last line feed
pub whole_lines-unbroken : (xs : List ℕ) → IsUnbroken xs → whole_lines xs ≡ []
whole_lines-unbroken xs h = ap whole_lines (sym (append-nil xs)) ∙ whole_lines-append xs [] h

pub last_line-unbroken : (xs : List ℕ) → IsUnbroken xs → last_line xs ≡ xs
last_line-unbroken xs h = last_alone xs (ap is_empty (whole_lines-unbroken xs h))
