-- The words of a generator, one after another.
use Rattle.std.proofs.Common.{◌≡◌, ℕ, zero, suc, ◌+◌, List, [], ◌∷◌, ◌++◌, length, refl, ap, arith}
use Rattle.rand_core.specs.Steps.{first_words}

-- the generator after so many words
pub state_at : {S : Type 0} → (S → ℕ × S) → ℕ → S → S
state_at step zero s = s
state_at step (suc k) s = state_at step k (step s).1

-- one word more
pub words-more : (S : Type 0) (step : S → ℕ × S) (k : ℕ) (s : S)
    → first_words step (suc k) s ≡ first_words step k s ++ (step (state_at step k s)).0 ∷ []
unfolding first_words state_at
words-more S step zero s = refl
words-more S step (suc k) s = ap (λ (w : List ℕ). (step s).0 ∷ w) (words-more S step k (step s).1)

pub state-more : (S : Type 0) (step : S → ℕ × S) (k : ℕ) (s : S)
    → state_at step (suc k) s ≡ (step (state_at step k s)).1
unfolding state_at
state-more S step zero s = refl
state-more S step (suc k) s = state-more S step k (step s).1

pub state-none : (S : Type 0) (step : S → ℕ × S) (s : S) → state_at step 0 s ≡ s
unfolding state_at
state-none S step s = refl

-- the first words, and those behind them
pub words-parts : (S : Type 0) (step : S → ℕ × S) (k m : ℕ) (s : S)
    → first_words step (k + m) s ≡ first_words step k s ++ first_words step m (state_at step k s)
unfolding first_words state_at
words-parts S step zero m s =
    let sum : 0 + m ≡ m = omega arith in ap (λ (n : ℕ). first_words step n s) sum
words-parts S step (suc k) m s =
    let sum : suc k + m ≡ suc (k + m) = omega arith in
    rw sum (ap (λ (w : List ℕ). (step s).0 ∷ w) (words-parts S step k m (step s).1))

-- how many there are
pub words-length : (S : Type 0) (step : S → ℕ × S) (k : ℕ) (s : S) → length (first_words step k s) ≡ k
unfolding first_words
words-length S step zero s = refl
words-length S step (suc k) s = ap suc (words-length S step k (step s).1)
