-- Reading hexadecimal digits from the prefix.
use Rattle.std.proofs.Common.{◌≡◌, ◌≤◌, ◌-◌, ℕ, Bool, false, cond, List, [], ◌∷◌, ◌++◌, length, take, drop, get_or, Option, Some, None, refl, ap, sym, ◌∙◌, append_assoc, arith}
use Rattle.std.proofs.lemmas.List.{take_all}
use Rattle.nt_cli.specs.Hexadecimal.{is_blank, digit_of, byte_of, with_byte, spaced_bytes}

-- the bytes that were read before others
abbrev pub after : List ℕ → Option (List ℕ) → Option (List ℕ)
after done None = None
after done (Some bytes) = Some (done ++ bytes)

pub after-nothing : (more : Option (List ℕ)) → after [] more ≡ more
after-nothing None = refl
after-nothing (Some bytes) = refl

-- one more
pub after-more : (done : List ℕ) (byte : ℕ) (more : Option (List ℕ))
    → after (done ++ byte ∷ []) more ≡ after done (with_byte (Some byte) more)
after-more done byte None = refl
after-more done byte (Some bytes) = ap (λ (l : List ℕ). Some l) (append_assoc done (byte ∷ []) bytes)

-- one more byte was read
pub spaced-more : (s done : List ℕ) (byte : ℕ) (read : Option ℕ) (whole : Option (List ℕ)) → 2 ≤ length s
    → false ≡ is_blank (get_or s 0 0)
    → read ≡ byte_of (digit_of (get_or s 0 0)) (digit_of (get_or s 1 0)) → read ≡ Some byte
    → after done (spaced_bytes s) ≡ whole
    → after (done ++ byte ∷ []) (spaced_bytes (take (length s - 2) (drop 2 s))) ≡ whole
spaced-more [] done byte read whole two blank read_is some so_far = absurd (omega arith)
spaced-more (a ∷ []) done byte read whole two blank read_is some so_far = absurd (omega arith)
spaced-more (a ∷ b ∷ text) done byte read whole two blank read_is some so_far =
    let rest : take (length (a ∷ b ∷ text) - 2) text ≡ text = take_all (length (a ∷ b ∷ text) - 2) text (omega arith) in
    let same : Some byte ≡ byte_of (digit_of a) (digit_of b) = sym some ∙ read_is in
    let first : with_byte (Some byte) (spaced_bytes text) ≡ spaced_bytes (a ∷ b ∷ text)
    = ap (λ (o : Option ℕ). with_byte o (spaced_bytes text)) same
    ∙ ap (λ (t : Bool). cond t (spaced_bytes (b ∷ text)) (with_byte (byte_of (digit_of a) (digit_of b))
    (spaced_bytes text))) blank in
    ap (λ (l : List ℕ). after (done ++ byte ∷ []) (spaced_bytes l)) rest ∙ after-more done byte (spaced_bytes text)
    ∙ ap (after done) first ∙ so_far
