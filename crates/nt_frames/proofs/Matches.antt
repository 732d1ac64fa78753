-- What functions of the code returned, and what bytes mean.
use Rattle.std.proofs.Common.{◌≡◌, ℕ, List, ◌∷◌, ◌++◌, Result, Ok, Err, IsOkAnd, refl, ap, sym, ◌∙◌, subst}
use Rattle.std.specs.List.{AllZip}
use Rattle.nt_values.specs.Types.{value_number}
use Rattle.nt_msgpack.specs.Atoms.{AtomValue, array_head}
use Rattle.nt_frames.specs.declared.message.ValueMsg.{ValueMsg}
use Rattle.nt_frames.specs.declared.message.FrameKind.TheVariants.{BadValue}
use Rattle.nt_frames.specs.declared.error.ReadError.{ReadError}
use Rattle.nt_frames.specs.declared.error.ReadError.TheVariants.{Memory, Fault}
use Rattle.nt_frames.specs.Frames.{Each, IsLawful, IsMessage, IsFault, AreSpelled, atoms_of}
use Rattle.nt_frames.specs.Reading.{atom_if, elements_at, array_at, message_at, is_array_head, Fails, Matches, IfFault, Tells}
use Rattle.nt_frames.proofs.Steps.{picked}
use Rattle.nt_frames.proofs.Stages.{elements_at-ok}
use Rattle.nt_frames.proofs.Messages.{message_at-ok, message_at-err}

-- elements after the head of an array
pub array_at-of : {X A : Type 0} (R : A → AtomValue → Type 0) (items : X → List A) (rest : X → List ℕ)
    (number count : ℕ)
    (bytes left : List ℕ) (result : Result X ReadError)
    → atom_if BadValue is_array_head bytes ≡ Ok (array_head count, left)
    → Matches (λ x y. AllZip R (items x) y.0 × (y.1 ≡ rest x)) result (elements_at number count left)
    → Matches (λ x y. Each R (items x) y.0 × (y.1 ≡ rest x)) result (array_at number bytes)
unfolding array_at
array_at-of {X} {A} R items rest number count bytes left (Ok x) e h =
    let p : (y : List AtomValue × List ℕ) × (elements_at number count left ≡ Ok y)
    × (AllZip R (items x) y.0 × (y.1 ≡ rest x)) =
    picked (λ y. AllZip R (items x) y.0 × (y.1 ≡ rest x)) (elements_at number count left) h in
    let all = elements_at-ok number count left p.0 p.1 in
    rw e (rw p.1 ((p.0.0, ap (λ n. array_head n ∷ p.0.0) (sym all.count), p.2.0), p.2.1))
array_at-of {X} {A} R items rest number count bytes left (Err Memory) e h = tt
array_at-of {X} {A} R items rest number count bytes left (Err (Fault kind)) e h = rw e (rw h refl)

-- a message that was read
pub told : (bytes rest : List ℕ) (m : ValueMsg) → IsOkAnd (message_at bytes) (λ y. Tells m y.0 × (y.1 ≡ rest))
    → (prefix : List ℕ) × (bytes ≡ prefix ++ rest) × IsMessage m prefix
told bytes rest m h =
    let p : (y : List AtomValue × List ℕ) × (message_at bytes ≡ Ok y) × (Tells m y.0 × (y.1 ≡ rest)) =
    picked (λ y. Tells m y.0 × (y.1 ≡ rest)) (message_at bytes) h in
    let t = p.2.0 in
    let r = message_at-ok bytes p.0 p.1 in
    let w = r.whole in
    let same : atoms_of w.id w.time w.number w.wire ≡ atoms_of m.id m.time (value_number m.value) t.0 = sym w.whole
    ∙ t.1 in
    let id : w.id ≡ m.id = cc in
    let time : w.time ≡ m.time = cc in
    let number : w.number ≡ value_number m.value = cc in
    let wire : w.wire ≡ t.0 = cc in
    let lawful : IsLawful m.id m.time (value_number m.value) t.0 =
    subst (λ z. IsLawful z m.time (value_number m.value) t.0) id
    (subst (λ z. IsLawful w.id z (value_number m.value) t.0) time
    (subst (λ z. IsLawful w.id w.time z t.0) number
    (subst (λ z. IsLawful w.id w.time w.number z) wire w.lawful))) in (
      r.prefix.prefix,
      r.prefix.whole ∙ ap (λ z. r.prefix.prefix ++ z) p.2.1,
      record {
        wire = t.0;
        lawful = lawful;
        value = t.2;
        spelled = subst (λ z. AreSpelled z r.prefix.prefix) t.1 r.prefix.spelled;
      },
    )

-- where reading stopped the message is at fault
pub fails-fault : (most : ℕ) (bytes : List ℕ) (e : ReadError) → Fails e (message_at bytes)
    → IfFault (IsFault most bytes) e
fails-fault most bytes Memory h = tt
fails-fault most bytes (Fault kind) h = message_at-err most bytes kind h
