-- Atoms that are spelled in a row.
use Rattle.std.proofs.Common.{◌≡◌, ◌⊎◌, inl, inr, ℕ, List, [], ◌∷◌, ◌++◌, refl, ap, sym, ◌∙◌, subst, append_assoc, append-nil}
use Rattle.std.proofs.lemmas.List.{append_cancel_left}
use Rattle.nt_msgpack.specs.Atoms.{AtomValue, Spells}
use Rattle.nt_msgpack.proofs.Spellings.{spelling-one}
use Rattle.nt_frames.specs.Frames.{AreSpelled}

pub spelled-one : (atom : AtomValue) (x : List ℕ) → Spells atom x → AreSpelled (atom ∷ []) x
spelled-one atom x s = (x, [], sym (append-nil x), s, refl)

-- two rows, one after the other
pub spelled-append : (ps qs : List AtomValue) (x y : List ℕ) → AreSpelled ps x → AreSpelled qs y
    → AreSpelled (ps ++ qs) (x ++ y)
spelled-append [] qs x y s t = rw s t
spelled-append (a ∷ ps) qs x y s t =
    (s.0, s.1 ++ y, ap (λ z. z ++ y) s.2 ∙ append_assoc s.0 s.1 y, s.3, spelled-append ps qs s.1 y s.4 t)

-- one row goes on where the other ends: `r` is left after the shorter and `s` after the longer
pub record Overlaps (ps qs : List AtomValue) (r s : List ℕ) : Type 0 where
  pub more : List AtomValue
  pub between : List ℕ
  pub whole : qs ≡ ps ++ more
  pub spelled : AreSpelled more between
  pub left : r ≡ between ++ s

overlap-more : (a b : AtomValue) (ps qs : List AtomValue) (r s : List ℕ) → a ≡ b → Overlaps ps qs r s
    → Overlaps (a ∷ ps) (b ∷ qs) r s
overlap-more a b ps qs r s e o =
    record { more = o.more; between = o.between; whole = (let w = o.whole in cc); spelled = o.spelled; left = o.left }

-- of two rows that the same bytes begin with, one goes on where the other ends
pub rows-meet : (ps qs : List AtomValue) (x y r s : List ℕ) → AreSpelled ps x → AreSpelled qs y → x ++ r ≡ y ++ s
    → (Overlaps ps qs r s) ⊎ (Overlaps qs ps s r)
rows-meet [] qs x y r s p q e =
    inl (record { more = qs; between = y; whole = refl; spelled = q; left = subst (λ z. z ++ r ≡ y ++ s) p e })
rows-meet (a ∷ ps) [] x y r s p q e =
    inr (record {
      more = a ∷ ps;
      between = x;
      whole = refl;
      spelled = p;
      left = sym (subst (λ z. x ++ r ≡ z ++ s) q e);
    })
rows-meet (a ∷ ps) (b ∷ qs) x y r s p q e =
    let same : p.0 ++ (p.1 ++ r) ≡ q.0 ++ (q.1 ++ s) =
    sym (append_assoc p.0 p.1 r) ∙ sym (ap (λ z. z ++ r) p.2) ∙ e ∙ ap (λ z. z ++ s) q.2 ∙ append_assoc q.0 q.1 s in
    let one = spelling-one a b p.0 q.0 (p.1 ++ r) (q.1 ++ s) p.3 q.3 same in
    let rest : p.1 ++ r ≡ q.1 ++ s = append_cancel_left q.0 (p.1 ++ r) (q.1 ++ s)
    (subst (λ z. z ++ (p.1 ++ r) ≡ q.0 ++ (q.1 ++ s)) one.1 same) in
    elim (rows-meet ps qs p.1 q.1 r s p.4 q.4 rest) [
      | inl o ↦ inl (overlap-more a b ps qs r s one.0 o)
      | inr o ↦ inr (overlap-more b a qs ps s r (sym one.0) o)
    ]
