-- What a link gives is taken.
use Rattle.std.proofs.Common.{◌≡◌, ℕ, List, [], ◌∷◌, ◌++◌, refl, sym, ap, subst, ◌∙◌, inl, inr}
use Rattle.std.specs.Prelude.{Result, Ok, Err, IfErr, IsErrAnd}
use Rattle.nt_link.specs.declared.frame.Frame.{Frame}
use Rattle.nt_wire.specs.declared.link.LinkFault.{LinkFault}
use Rattle.nt_serve.specs.declared.served.Break.{Break}
use Rattle.nt_serve.specs.Steps.{Step, receives, Standing, Moves, Reaches}
use Rattle.nt_serve.specs.Rounds.{IsTaken, IsHeard}
use Rattle.nt_serve.specs.Sessions.{last_turn, break_of, IsCut}
use Rattle.nt_serve.proofs.Moving.{moves-append}
use Rattle.nt_serve.proofs.Taking.{no-turn}

pub heard-none : (a b : Standing) (conn : ℕ) → Moves a b [] → Reaches a b (IsHeard conn)
heard-none a b conn m = record { steps = []; moves = m; such = record { either = inl refl } }

pub heard-end : (a b : Standing) → Moves a b [] → Reaches a b (λ steps. steps ≡ [])
heard-end a b m = record { steps = []; moves = m; such = refl }

pub heard-frame : (a m z : Standing) (conn : ℕ) (f g : Frame) → g ≡ f → Moves a m (receives f ∷ [])
    → Reaches m z (IsTaken conn g) → Reaches a z (IsHeard conn)
heard-frame a m z conn f g e p q =
    record {
      steps = receives f ∷ q.steps;
      moves = moves-append a m z (receives f ∷ []) q.steps p q.moves;
      such = record {
        either = inr (f, q.steps, subst (λ (x : Frame). IsTaken conn x q.steps) e q.such, refl);
      };
    }

pub cut-quiet : {U : Type 0} (r : Result U Break) (fault : LinkFault) (a b : Standing) (conn : ℕ)
    → IsErrAnd r (λ e. e ≡ break_of fault) → Moves a b [] → IfErr r (λ e. Reaches a b (IsCut e (IsHeard conn)))
cut-quiet (Ok x) fault a b conn h m = absurd h
cut-quiet (Err e) fault a b conn h m =
    record {
      steps = [];
      moves = m;
      such = record {
        front = [];
        rest = [];
        whole = record { either = inl refl };
        steps_are = sym (ap last_turn h ∙ no-turn fault);
      };
    }

pub cut-frame : {U : Type 0} (r : Result U Break) (b : Break) (a m z : Standing) (conn : ℕ) (f g : Frame) → g ≡ f
    → IsErrAnd r (λ e. e ≡ b) → Moves a m (receives f ∷ []) → Reaches m z (IsCut b (IsTaken conn g))
    → IfErr r (λ e. Reaches a z (IsCut e (IsHeard conn)))
cut-frame (Ok x) b a m z conn f g same h p q = absurd h
cut-frame (Err e) b a m z conn f g same h p q =
    record {
      steps = receives f ∷ q.steps;
      moves = moves-append a m z (receives f ∷ []) q.steps p q.moves;
      such = record {
        front = receives f ∷ q.such.front;
        rest = q.such.rest;
        whole = record {
          either = inr (
            f,
            q.such.front ++ q.such.rest,
            subst (λ (x : Frame). IsTaken conn x (q.such.front ++ q.such.rest)) same q.such.whole,
            refl,
          );
        };
        steps_are = ap (λ (l : List Step). receives f ∷ l) q.such.steps_are
            ∙ ap (λ (w : Break). receives f ∷ (q.such.front ++ last_turn w)) (sym h);
      };
    }
