-- The atoms of whole messages.
use Rattle.std.proofs.Common.{◌≡◌, ℕ, ◌-◌, Bool, true, false, MatchBool, List, [], ◌∷◌, ◌++◌, length, refl, ap, sym, ◌∙◌, subst, length-append, arith}
use Rattle.nt_msgpack.specs.Atoms.{AtomValue, array_head}
use Rattle.nt_frames.specs.Frames.{is_single, IsSingle, IsArray, IsWire, IsWhole, atoms_of}

nothing : {A : Type 0} (xs : List A) → length xs ≡ 0 → xs ≡ []
nothing [] e = refl
nothing (x ∷ xs) e = absurd (cc)

single-once : (n : ℕ) (w more : List AtomValue) → IsSingle n w → IsSingle n (w ++ more) → more ≡ []
single-once n w more p q =
    let whole : p.0 ∷ more ≡ q.0 ∷ [] = sym (ap (λ z. z ++ more) p.1) ∙ q.1 in cc

array-once : (n : ℕ) (w more : List AtomValue) → IsArray n w → IsArray n (w ++ more) → more ≡ []
array-once n w more p q =
    let whole : array_head (length p.0) ∷ (p.0 ++ more) ≡ array_head (length q.0)
    ∷ q.0 = sym (ap (λ z. z ++ more) p.1) ∙ q.1 in
    let count : length p.0 ≡ length q.0 = cc in
    let elements : p.0 ++ more ≡ q.0 = cc in
    nothing more (omega (arith, count, ap length elements, length-append p.0 more))

wire-once : (b : Bool) (n m : ℕ) (w more : List AtomValue) → MatchBool b (IsSingle n w) (IsArray m w)
    → MatchBool b (IsSingle n (w ++ more)) (IsArray m (w ++ more)) → more ≡ []
wire-once true n m w more p q = single-once n w more p q
wire-once false n m w more p q = array-once m w more p q

-- no message goes on after a whole one
pub whole-once : (ps more : List AtomValue) → IsWhole ps → IsWhole (ps ++ more) → more ≡ []
whole-once ps more p q =
    let same : atoms_of p.id p.time p.number (p.wire ++ more) ≡ atoms_of q.id q.time q.number q.wire
    = sym (ap (λ z. z ++ more) p.whole) ∙ q.whole in
    let number : q.number ≡ p.number = cc in
    let wire : q.wire ≡ p.wire ++ more = cc in
    wire-once (is_single p.number) p.number (p.number - 16) p.wire more p.lawful.wire_is
    (subst (λ n. IsWire n (p.wire ++ more)) number (subst (λ w. IsWire q.number w) wire q.lawful.wire_is))
