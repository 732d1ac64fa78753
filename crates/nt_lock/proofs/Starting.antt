-- The lock as it opens.
--     starts        the rule holds of a value without entries at home, and of the first seat
use Rattle.std.proofs.Common.{◌≡◌, ℕ, zero, suc, ◌+◌, ◌≤◌, inl, [], ◌∷◌, length, sym, refl, ap, ◌∙◌, subst, arith, sum_by, Bool, true, false, eqb, if◌then◌else◌}
use Rattle.std.specs.List.{AllByRecursion}
use mathlib.Core.Option.{some, some-injective, some-ne-none}
use lib.ListN.{get_elem?}
use Rattle.atomic_table.specs.Table.{opening}
use Rattle.nt_lock.specs.declared.view.Kept.{Kept}
use Rattle.nt_lock.specs.declared.view.Stage.TheVariants.{Idle}
use Rattle.nt_lock.specs.declared.view.Known.{Known}
use Rattle.nt_lock.specs.declared.view.Origin.{Origin}
use Rattle.nt_lock.specs.declared.view.View.{View}
use Rattle.nt_lock.specs.Turns.{is_refused, found_failed, any_hand}
use Rattle.nt_lock.specs.Tickets.{number, inside}
use Rattle.nt_lock.specs.Knowledge.{Agrees, IsPast, times_in, AllAgree, Flagged}
use Rattle.nt_lock.specs.Rule.{stage_of, LockRule}
use Rattle.nt_lock.specs.Steps.{opener, new_hand}
use Rattle.nt_lock.specs.Seats.{IsNew}
use Rattle.nt_lock.proofs.Lists.{none-is-not-some, if-some, false-is-not-true}
use Rattle.nt_lock.proofs.Growth.{begins-none}
use Rattle.nt_lock.proofs.Hands.{counts-none}

-- the one item of a list
only-one : {A : Type 0} (j : ℕ) (a b : A) → get_elem? (a ∷ []) j ≡ some b → (j ≡ 0) × (a ≡ b)
only-one zero a b e = (refl, some-injective a b e)
only-one (suc j) a b e = absurd (some-ne-none b (sym e))

module _ {L : Type 0} (kept : L → Kept) (o : Origin) where
  abbrev first : Known
  first = (opener o).known

  -- what holds of what the first seat knows holds of each
  each-first : (P : Known → Type 0) → P first → (j : ℕ) (x : Known) → get_elem? (first ∷ []) j ≡ some x → P x
  each-first P mine j x e = subst P (only-one j first x e).1 mine

  start-agrees : AllAgree (first ∷ []) []
  start-agrees =
      record {
        each = each-first (λ x. AllByRecursion (Agrees []) x.hands) ((begins-none [], refl), tt);
        others = λ w none. refl;
      }

  start-flags : Flagged (first ∷ []) false
  start-flags =
      record {
        why = λ h. absurd (false-is-not-true h);
        refused = each-first (λ x. any_hand is_refused x.hands ≡ true → false ≡ true) (λ h. h);
        found = each-first (λ x. any_hand found_failed x.hands ≡ true → false ≡ true) (λ h. h);
      }

  pub starts : (x : L) → (kept x).origin ≡ o → IsNew (kept x)
      → LockRule kept o (opening (0 ∷ 0 ∷ 0 ∷ []) (x ∷ []) (opener o))
  starts x from new =
      record {
        next = 0;
        now = 0;
        wide = refl;
        ticket = refl;
        serving = refl;
        queue = record {
          total = refl;
          few = omega arith;
          within = λ j n y e f. absurd (none-is-not-some n (ap number (only-one j Idle y e).1 ∙ f));
          all_out = λ n from below. absurd (omega arith);
          apart = λ i j n y z e f g h. absurd (none-is-not-some n (ap number (only-one i Idle y e).1 ∙ g));
          serves = λ j y k e f. absurd (none-is-not-some k (ap inside (only-one j Idle y e).1 ∙ f));
        };
        named = record {
          once = once;
          no_zero = refl;
          none_above = λ w past. let c = counts-none w (new_hand 1) (λ e. omega arith) in omega arith;
          counts = λ j y e p.
              let at = only-one j first y e in
              (at.0, ap (λ (z : Known). z.opened) (sym at.1));
        };
        spent = λ j y e _. ap stage_of (sym (only-one j (opener o) y e).1);
        origins = λ j y e _. ap (λ (v : View). v.origin) (sym (only-one j (opener o) y e).1);
        slot = inl record {
          value = x;
          here = refl;
          origin = from;
          nobody = λ j y e. ap inside (sym (only-one j Idle y e).1);
          fits = record {
            count = new.count;
            long = if-some (kept x).told new.told (λ list _ e. ap length e ∙ sym new.count);
            agree = if-some (kept x).told new.told (λ list _ e. subst (AllAgree (first ∷ [])) (sym e) start-agrees);
            past = each-first (λ y. AllByRecursion (IsPast (kept x).count) y.hands) (tt, tt);
            flagged = subst (Flagged (first ∷ [])) (sym new.failed) start-flags;
          };
        };
      }
    where
      once-if : (b : Bool) → 0 + (if◌then◌else◌ {A = ℕ} b 1 0 + 0) ≤ 1
      once-if true = omega arith
      once-if false = omega arith

      once : (w : ℕ) → sum_by (times_in w) (first ∷ []) ≤ 1
      once w = once-if (eqb 1 w)
