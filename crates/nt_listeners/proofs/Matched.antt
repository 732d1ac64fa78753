-- What listeners heard after several tellings.
use Rattle.std.proofs.Common.{◌≡◌, inl, inr, ◌∙◌, ℕ, Bool, true, false, cond, List, [], ◌∷◌, Option, Some, None, Result, refl, sym, ap, subst, append_assoc, append-nil}
use Rattle.std.specs.Prelude.{MatchBool}
use Rattle.nt_rules.specs.declared.topic.Change.{Change}
use Rattle.nt_listeners.specs.declared.listener.Refused.{Refused}
use Rattle.nt_listeners.specs.declared.row.Row.{Row}
use Rattle.nt_listeners.specs.Matching.{is_for, matching, with_change, with_changes}
use Rattle.nt_listeners.specs.Telling.{HasHeard, IsTold, AreTold}
use Rattle.nt_listeners.specs.Tellings.{HeardMatching, AreLeft, AreToldAll}

-- one more change in front of those that were heard
with-front : (c : Change) (cs : List Change) (heard : Option (List Change))
    → with_changes cs (with_change c heard) ≡ with_changes (c ∷ cs) heard
with-front c cs None = refl
with-front c cs (Some list) = ap Some (append_assoc list (c ∷ []) cs)

with-none : (heard : Option (List Change)) → with_changes [] heard ≡ heard
with-none None = refl
with-none (Some list) = ap Some (append-nil list)

module _ {L : Type 0} (heard : L → Option (List Change)) (refusals : L → ℕ)
    (may_answer : L → Change → Result (Unit {0}) Refused → Type 0) where
  -- a listener that stayed at the first change, and then heard the others
  onward : (c : Change) (cs : List Change) (before now last : Row L)
      → IsTold heard refusals may_answer c before true now → HeardMatching heard cs now last
      → HeardMatching heard (c ∷ cs) before last
  onward c cs before now last told all = by (is_for before.prefix c) refl told
    where
      by : (b : Bool) → is_for before.prefix c ≡ b
          → MatchBool b (HasHeard heard refusals may_answer c before now) ((true ≡ true) × (now ≡ before))
          → HeardMatching heard (c ∷ cs) before last
      by true is one =
          record {
            id = all.id ∙ one.id;
            prefix = all.prefix ∙ one.prefix;
            told = all.told ∙ ap (λ p. with_changes (matching cs p) (heard now.listener)) one.prefix
                ∙ ap (with_changes (matching cs before.prefix)) one.told
                ∙ with-front c (matching cs before.prefix) (heard before.listener)
                ∙ ap (λ b. with_changes (cond b (c ∷ matching cs before.prefix) (matching cs before.prefix)) (heard before.listener)) (sym is);
          }
      by false is one =
          let rest = subst (λ row. HeardMatching heard cs row last) one.1 all in
          record {
            id = rest.id;
            prefix = rest.prefix;
            told = rest.told
                ∙ ap (λ b. with_changes (cond b (c ∷ matching cs before.prefix) (matching cs before.prefix)) (heard before.listener)) (sym is);
          }

  -- with no change, all are left as they were
  all-left : (rows : List (Row L)) → AreLeft heard [] rows rows
  all-left [] = refl
  all-left (row ∷ rows) =
      inr (row, record { id = refl; prefix = refl; told = sym (with-none (heard row.listener)) }, rows, all-left rows, refl)

  -- a telling and then the others
  told-then : (c : Change) (cs : List Change) (rows mid left : List (Row L))
      → AreTold heard refusals may_answer c rows mid → AreLeft heard cs mid left → AreLeft heard (c ∷ cs) rows left
  told-then c cs [] mid left told rest = subst (λ mid. AreLeft heard cs mid left) told rest
  told-then c cs (before ∷ rows) mid left told rest =
      by (λ left others. told-then c cs rows told.3 left told.4 others) told.0 told.2
      (subst (λ mid. AreLeft heard cs mid left) told.5 rest)
    where
      by : ((left : List (Row L)) → AreLeft heard cs told.3 left → AreLeft heard (c ∷ cs) rows left)
          → (b : Bool) → IsTold heard refusals may_answer c before b told.1
          → AreLeft heard cs (cond b (told.1 ∷ told.3) told.3) left → AreLeft heard (c ∷ cs) (before ∷ rows) left
      by more false one rest = inl (more left rest)
      by more true one (inl rest) = inl (more left rest)
      by more true one (inr rest) =
          inr (rest.0, onward c cs before told.1 rest.0 one rest.1, rest.2, more rest.2 rest.3, rest.4)

  pub heard-matching : (cs : List Change) (rows left : List (Row L))
      → AreToldAll heard refusals may_answer cs rows left → AreLeft heard cs rows left
  heard-matching [] rows left same = subst (λ left. AreLeft heard [] rows left) (sym same) (all-left rows)
  heard-matching (c ∷ cs) rows left told = told-then c cs rows told.0 left told.1 (heard-matching cs told.0 left told.2)
