-- What steps in a row give.
use Rattle.std.proofs.Common.{◌≡◌, ℕ, suc, List, [], ◌∷◌, ◌++◌, Result, Ok, Err, IsOkAnd, refl, ap, sym, ◌∙◌, append_assoc, append-nil}
use Rattle.std.specs.List.{AllZip}
use Rattle.nt_msgpack.specs.Atoms.{AtomValue}
use Rattle.nt_frames.specs.declared.message.FrameKind.{FrameKind}
use Rattle.nt_frames.specs.declared.message.FrameKind.TheVariants.{BadValue}
use Rattle.nt_frames.specs.Frames.{may_stand}
use Rattle.nt_frames.specs.declared.error.ReadError.{ReadError}
use Rattle.nt_frames.specs.declared.error.ReadError.TheVariants.{Memory, Fault}
use Rattle.nt_frames.specs.Reading.{Step, ◌>>=◌, atom_if, elements_at, Fails}

-- what is known of a step that gave something
pub picked : {Y : Type 0} (P : Y → Type 0) (step : Result Y FrameKind) → IsOkAnd step P → (y : Y) × (step ≡ Ok y) × P y
picked P (Ok y) h = (y, refl, h)
picked P (Err kind) h = absurd h

-- one more pair
pub AllZip-more : {A B : Type 0} (R : A → B → Type 0) (xs : List A) (ys : List B) (x : A) (y : B)
    → AllZip R xs ys → R x y → AllZip R (xs ++ x ∷ []) (ys ++ y ∷ [])
AllZip-more R [] [] x y h r = (r, tt)
AllZip-more R [] (b ∷ ys) x y h r = absurd h
AllZip-more R (a ∷ xs) [] x y h r = absurd h
AllZip-more R (a ∷ xs) (b ∷ ys) x y h r = (h.0, AllZip-more R xs ys x y h.1 r)

-- the atoms of a step after others
abbrev pub after_atoms : List AtomValue → Step (List AtomValue) → Step (List AtomValue)
after_atoms done step = step >>= λ y. Ok (done ++ y.0, y.1)

pub after-nothing : (step : Step (List AtomValue)) → step ≡ after_atoms [] step
after-nothing (Ok y) = refl
after-nothing (Err kind) = refl

-- one more element
pub after-more : (number n : ℕ) (done : List AtomValue) (bytes : List ℕ) (atom : AtomValue) (rest : List ℕ)
    → atom_if BadValue (may_stand number) bytes ≡ Ok (atom, rest)
    → after_atoms done (elements_at number (suc n) bytes) ≡ after_atoms (done ++ atom ∷ []) (elements_at number n rest)
unfolding elements_at
after-more number n done bytes atom rest e = rw e (by (elements_at number n rest))
  where
    by : (step : Step (List AtomValue)) → after_atoms done (step >>= λ y. Ok (atom ∷ y.0, y.1))
        ≡ after_atoms (done ++ atom ∷ []) step
    by (Ok y) = ap (λ z. Ok (z, y.1)) (sym (append_assoc done (atom ∷ []) y.0))
    by (Err kind) = refl

-- one that is refused
pub after-refused : (number n : ℕ) (done : List AtomValue) (bytes : List ℕ) (kind : FrameKind)
    → atom_if BadValue (may_stand number) bytes ≡ Err kind
    → after_atoms done (elements_at number (suc n) bytes) ≡ Err kind
unfolding elements_at
after-refused number n done bytes kind e = rw e refl

-- a step that stops at the next element stops there after others
pub fails-element : (number n k : ℕ) (done : List AtomValue) (bytes : List ℕ) (whole : Step (List AtomValue))
    (e : ReadError)
    → k ≡ suc n → whole ≡ after_atoms done (elements_at number k bytes)
    → Fails e (atom_if BadValue (may_stand number) bytes) → Fails e whole
fails-element number n k done bytes whole Memory s goes_on h = tt
fails-element number n k done bytes whole (Fault kind) s goes_on h =
    goes_on ∙ ap (λ j. after_atoms done (elements_at number j bytes)) s ∙ after-refused number n done bytes kind h

-- one more element was read
pub element-more : {A : Type 0} (R : A → AtomValue → Type 0) (number k n : ℕ) (list : List A) (value : A)
    (done : List AtomValue)
    (bytes after : List ℕ) (whole : Step (List AtomValue)) → k ≡ suc n
    → AllZip R list done → whole ≡ after_atoms done (elements_at number k bytes)
    → IsOkAnd (atom_if BadValue (may_stand number) bytes) (λ y. R value y.0 × (y.1 ≡ after))
    → (more : List AtomValue) × AllZip R (list ++ value ∷ []) more
    × (whole ≡ after_atoms more (elements_at number n after))
element-more R number k n list value done bytes after whole s stand goes_on h =
    let one : (y : AtomValue × List ℕ) × (atom_if BadValue (may_stand number) bytes ≡ Ok y)
    × (R value y.0 × (y.1 ≡ after))
    = picked (λ y. R value y.0 × (y.1 ≡ after)) (atom_if BadValue (may_stand number) bytes) h in
    let took : atom_if BadValue (may_stand number) bytes ≡ Ok (one.0.0, after)
    = one.1 ∙ ap (λ z. Ok (one.0.0, z)) one.2.1 in (
      done ++ one.0.0 ∷ [],
      AllZip-more R list done value one.0.0 stand one.2.0,
      goes_on ∙ ap (λ j. after_atoms done (elements_at number j bytes)) s
          ∙ after-more number n done bytes one.0.0 after took,
    )

-- all elements were read
pub elements-all : {A : Type 0} (R : A → AtomValue → Type 0) (number k : ℕ) (list : List A) (done : List AtomValue)
    (rest : List ℕ) (whole : Step (List AtomValue)) → k ≡ 0
    → AllZip R list done → whole ≡ after_atoms done (elements_at number k rest)
    → IsOkAnd whole (λ y. AllZip R list y.0 × (y.1 ≡ rest))
unfolding elements_at
elements-all R number k list done rest whole z stand goes_on =
    rw (goes_on ∙ ap (λ j. after_atoms done (elements_at number j rest)) z) (rw append-nil (stand, refl))

pub elements-none : (number k n : ℕ) (bytes : List ℕ) → k ≡ n
    → elements_at number n bytes ≡ after_atoms [] (elements_at number k bytes)
elements-none number k n bytes e = rw e (after-nothing (elements_at number n bytes))
