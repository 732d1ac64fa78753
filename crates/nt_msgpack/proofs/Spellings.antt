-- What stands at the start of bytes is read exactly: an atom where they begin with a spelling of it, and else too few
-- bytes or no atom.
use Rattle.std.proofs.Common.{◌≡◌, ℕ, suc, ◌<◌, ◌≤◌, ◌⊎◌, inl, inr, List, [], ◌∷◌, ◌++◌, length, take, drop, Option, None, Some, refl, sym, ap, subst, ◌∙◌, append_assoc, arith}
use Rattle.std.specs.Prelude.{IsSomeAnd, ◌↔◌}
use Rattle.std.proofs.lemmas.List.{length-append, take_at, take-append-drop, length-take-le}
use Rattle.nt_msgpack.specs.Atoms.{AtomValue, text, Format, format_of, HasForm, IsText, Spells}
use Rattle.nt_msgpack.specs.Reading.{got, short, bad, stated, IsShort, BeginsNoText, IsBad, checked, after_first, atom_at}
use Rattle.nt_msgpack.proofs.Forms.{checked-text, checked-other, IsNoText, text_or, format_at-fills, format_at-short, Begins, begins_or}

-- what has the form of an atom is read, whatever follows
form-read : (a : AtomValue) (x rest : List ℕ) (h : HasForm a x) → atom_at (x ++ rest) ≡ checked h.first a (length x)
unfolding atom_at
form-read a x rest h =
    let len : suc (length h.after) ≡ length x = sym (ap length h.whole) in
    rw (h.whole, h.format_is) (format_at-fills h.first h.format a h.after rest h.fills)

-- a spelling is read, whatever follows
pub atom_at-spelled : (a : AtomValue) (x rest : List ℕ) → Spells a x → atom_at (x ++ rest) ≡ got a (length x)
atom_at-spelled a x rest h = form-read a x rest h.form ∙ checked-text h.form.first a (length x) h.utf8

-- too few bytes are short
pub atom_at-short : (bytes : List ℕ) → IsShort bytes → atom_at bytes ≡ short
unfolding atom_at
atom_at-short [] h = refl
atom_at-short (first ∷ bytes) h = by_format (format_of first) h where
  by_format : (o : Option Format) → IsSomeAnd o (λ format. length bytes < stated format bytes)
      → after_first first o bytes ≡ short
  by_format None h = absurd h
  by_format (Some format) h = format_at-short first format bytes h

-- no atom is bad
pub atom_at-bad : (bytes : List ℕ) (first : ℕ) → IsBad bytes first → atom_at bytes ≡ bad first
unfolding atom_at
atom_at-bad bytes first h = elim h.cause [
  | inl none ↦ rw (h.whole, none) refl
  | inr t ↦
      let e : first ∷ h.rest ≡ t.form.first ∷ (t.form.after ++ t.rest) = sym h.whole ∙ t.whole
      ∙ ap (λ (w : List ℕ). w ++ t.rest) t.form.whole in
      let same : t.form.first ≡ first = cc in
      ap atom_at t.whole ∙ form-read (text t.body) t.prefix t.rest t.form
      ∙ checked-other t.form.first t.body (length t.prefix) t.not_utf8 ∙ ap bad same
]

-- ---- each byte string is of one of the three kinds

-- bytes that begin with a spelling
pub record Holds (bytes : List ℕ) : Type 0 where
  pub atom : AtomValue
  pub prefix : List ℕ
  pub rest : List ℕ
  pub parts : bytes ≡ prefix ++ rest
  pub spells : Spells atom prefix

-- bytes are short, bad, or begin with a spelling
pub kind_of : (bytes : List ℕ) → (IsShort bytes) ⊎ (((first : ℕ) × IsBad bytes first) ⊎ (Holds bytes))
kind_of [] = inl tt
kind_of (first ∷ bytes) = by_format (format_of first) refl where
  form : (format : Format) → format_of first ≡ Some format → (b : Begins first format bytes)
      → HasForm b.atom (first ∷ b.prefix)
  form format is b = record {
    first = first;
    after = b.prefix;
    format = format;
    whole = refl;
    format_is = is;
    fills = b.fills;
  }

  whole : (format : Format) (b : Begins first format bytes) → first ∷ bytes ≡ (first ∷ b.prefix) ++ b.rest
  whole format b = ap (λ (w : List ℕ). first ∷ w) b.parts

  by_text : (format : Format) → format_of first ≡ Some format → (b : Begins first format bytes)
      → (IsText b.atom) ⊎ (IsNoText b.atom) → (IsShort (first ∷ bytes))
      ⊎ (((byte : ℕ) × IsBad (first ∷ bytes) byte) ⊎ (Holds (first ∷ bytes)))
  by_text format is b (inl t) = inr (inr (record {
    atom = b.atom;
    prefix = first ∷ b.prefix;
    rest = b.rest;
    parts = whole format b;
    spells = record { form = form format is b; utf8 = t };
  }))
  by_text format is b (inr t) =
      let no_text : BeginsNoText (first ∷ bytes) = record {
        prefix = first ∷ b.prefix;
        rest = b.rest;
        body = t.body;
        whole = whole format b;
        form = subst (λ (a : AtomValue). HasForm a (first ∷ b.prefix)) t.is (form format is b);
        not_utf8 = t.not_utf8;
      } in
      inr (inl (first, record { rest = bytes; whole = refl; cause = inr no_text }))

  by_format : (o : Option Format) → format_of first ≡ o
      → (IsShort (first ∷ bytes)) ⊎ (((byte : ℕ) × IsBad (first ∷ bytes) byte) ⊎ (Holds (first ∷ bytes)))
  by_format None is = inr (inl (first, record { rest = bytes; whole = refl; cause = inl is }))
  by_format (Some format) is = elim (begins_or first format bytes) [
    | inl few ↦ inl (subst (λ (o : Option Format). IsSomeAnd o (λ f. length bytes < stated f bytes)) (sym is) few)
    | inr b ↦ by_text format is b (text_or b.atom)
  ]

-- a spelling has a byte
pub spelling-some : (a : AtomValue) (x : List ℕ) → Spells a x → 0 < length x
spelling-some a x h = omega (arith, ap length h.form.whole)

-- an atom is got exactly where the bytes begin with a spelling of it
pub atom_at-got : (bytes : List ℕ) (a : AtomValue) (used : ℕ)
    → (atom_at bytes ≡ got a used) ↔ ((0 < used) × (used ≤ length bytes) × Spells a (take used bytes))
atom_at-got bytes a used = (to, from) where
  to : atom_at bytes ≡ got a used → (0 < used) × (used ≤ length bytes) × Spells a (take used bytes)
  to e = elim (kind_of bytes) [
    | inl h ↦ let is = atom_at-short bytes h in absurd cc
    | inr (inl h) ↦ let is = atom_at-bad bytes h.0 h.1 in absurd cc
    | inr (inr h) ↦
        let is : atom_at bytes ≡ got h.atom (length h.prefix) = ap atom_at h.parts
        ∙ atom_at-spelled h.atom h.prefix h.rest h.spells in
        let same : h.atom ≡ a = cc in
        let len : length h.prefix ≡ used = cc in
        let prefix : take used bytes ≡ h.prefix = ap (take used) h.parts ∙ take_at h.prefix h.rest used len in
        let some = spelling-some h.atom h.prefix h.spells in (
          omega (arith, some),
          omega (arith, ap length h.parts, length-append h.prefix h.rest),
          subst (λ (w : List ℕ). Spells a w) (sym prefix)
              (subst (λ (w : AtomValue). Spells w h.prefix) same h.spells),
        )
  ]

  from : (0 < used) × (used ≤ length bytes) × Spells a (take used bytes) → atom_at bytes ≡ got a used
  from h = ap atom_at (sym (take-append-drop used bytes)) ∙ atom_at-spelled a (take used bytes) (drop used bytes) h.2
      ∙ ap (got a) (length-take-le used bytes h.1)

-- short is answered exactly where too few bytes are there
pub atom_at-is_short : (bytes : List ℕ) → (atom_at bytes ≡ short) ↔ IsShort bytes
atom_at-is_short bytes = (to, atom_at-short bytes) where
  to : atom_at bytes ≡ short → IsShort bytes
  to e = elim (kind_of bytes) [
    | inl h ↦ h
    | inr (inl h) ↦ let is = atom_at-bad bytes h.0 h.1 in absurd cc
    | inr (inr h) ↦ let is = ap atom_at h.parts ∙ atom_at-spelled h.atom h.prefix h.rest h.spells in absurd cc
  ]

-- bad is answered exactly where no atom is there
pub atom_at-is_bad : (bytes : List ℕ) (first : ℕ) → (atom_at bytes ≡ bad first) ↔ IsBad bytes first
atom_at-is_bad bytes first = (to, atom_at-bad bytes first) where
  to : atom_at bytes ≡ bad first → IsBad bytes first
  to e = elim (kind_of bytes) [
    | inl h ↦ let is = atom_at-short bytes h in absurd cc
    | inr (inl h) ↦ let is = atom_at-bad bytes h.0 h.1 in let same : h.0 ≡ first = cc in
        subst (λ (w : ℕ). IsBad bytes w) same h.1
    | inr (inr h) ↦ let is = ap atom_at h.parts ∙ atom_at-spelled h.atom h.prefix h.rest h.spells in absurd cc
  ]

-- ---- what follows of spellings

-- no spelling is a proper prefix of another, and each spells one atom
pub spelling-one : (a b : AtomValue) (x y r s : List ℕ) → Spells a x → Spells b y → x ++ r ≡ y ++ s → (a ≡ b) × (x ≡ y)
spelling-one a b x y r s p q e =
    let left = atom_at-spelled a x r p in
    let right = atom_at-spelled b y s q in
    let both : got a (length x) ≡ got b (length y) = sym left ∙ ap atom_at e ∙ right in
    let same : a ≡ b = cc in
    let len : length x ≡ length y = cc in
    (same, sym (take_at x r (length x) refl) ∙ ap (take (length x)) e ∙ take_at y s (length x) (sym len))

-- no prefix of too few bytes is a spelling
pub short-no_spelling : (bytes x rest : List ℕ) (a : AtomValue) → IsShort bytes → bytes ≡ x ++ rest → ¬ (Spells a x)
short-no_spelling bytes x rest a h e p = let is = atom_at-short bytes h in
    let other = ap atom_at e ∙ atom_at-spelled a x rest p in cc

-- what is no atom stays none, whatever follows
IsBad-append : (bytes more : List ℕ) (first : ℕ) → IsBad bytes first → IsBad (bytes ++ more) first
IsBad-append bytes more first h =
    record {
      rest = h.rest ++ more;
      whole = ap (λ (w : List ℕ). w ++ more) h.whole;
      cause = elim h.cause [
        | inl none ↦ inl none
        | inr t ↦ inr (record {
          prefix = t.prefix;
          rest = t.rest ++ more;
          body = t.body;
          whole = ap (λ (w : List ℕ). w ++ more) t.whole ∙ append_assoc t.prefix t.rest more;
          form = t.form;
          not_utf8 = t.not_utf8;
        })
      ];
    }

-- no prefix of what is no atom is a spelling, whatever follows
pub bad-no_spelling : (bytes more x rest : List ℕ) (first : ℕ) (a : AtomValue) → IsBad bytes first
    → bytes ++ more ≡ x ++ rest → ¬ (Spells a x)
bad-no_spelling bytes more x rest first a h e p = let is = atom_at-bad (bytes ++ more) first
    (IsBad-append bytes more first h) in let other = ap atom_at e ∙ atom_at-spelled a x rest p in cc
