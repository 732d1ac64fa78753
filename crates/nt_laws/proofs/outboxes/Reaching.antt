-- An outbox that came to a place before the calls there.
use Rattle.std.proofs.Common.{◌≡◌, ◌≤◌, ℕ, Bool, true, false, cond, ltb, List, [], ◌∷◌, Option, Some, None, length, refl, sym, ◌∙◌, ap, subst, arith}
use Rattle.std.specs.Prelude.{is_some}
use Rattle.std.proofs.lemmas.Bool.Decides.{nat_tests}
use Rattle.nt_rules.specs.outbox.Marks.{Mark, weight}
use Rattle.nt_rules.specs.outbox.Calls.{OutboxState, fallen, behind, unless_behind, with_call, reached}
use Rattle.nt_rules.specs.declared.act.Entry.{Entry}
use Rattle.nt_rules.specs.declared.start.Start.{Start}
use Rattle.nt_rules.specs.history.Marks.{marks_owed}
use Rattle.nt_rules.specs.history.Step.{Owes}
use Rattle.nt_laws.proofs.outboxes.OutboxCalls.{Op, at_op, called_all}

-- the outbox as it comes to a place, by whether that is a later one, and by the weight with which it fell behind
abbrev came : ℕ → OutboxState → Bool → Option ℕ → OutboxState
came place b later fell = cond later (record b { place = place; fell = fell; marks = unless_behind fell b.marks }) b

abbrev emptied : OutboxState → OutboxState
emptied b = record b { marks = cond (is_some b.fell) [] b.marks }

irreflexive : (n : ℕ) → ltb n n ≡ false
irreflexive n = grind (arith, nat_tests)

-- a call at a place is the same where the outbox came there before
pub call-reached : (place : ℕ) (f : List Mark → List Mark) (b : OutboxState)
    → with_call place f (reached place b) ≡ with_call place f b
call-reached place f b = by (ltb b.place place) refl (behind b)
  where
    cleared : (c : OutboxState) (fell : Option ℕ)
        → record c { marks = cond (is_some fell) [] (f (cond (is_some fell) [] c.marks)) }
        ≡ record c { marks = cond (is_some fell) [] (f c.marks) }
    cleared c None = refl
    cleared c (Some w) = refl

    again : (c : OutboxState) → ltb c.place place ≡ false
        → with_call place f (emptied c) ≡ record c { marks = cond (is_some c.fell) [] (f c.marks) }
    again c there =
        ap (λ later. record (came place (emptied c) later (behind (emptied c))) {
          marks = cond (is_some (came place (emptied c) later (behind (emptied c))).fell) []
              (f (came place (emptied c) later (behind (emptied c))).marks);
        }) there
        ∙ cleared c c.fell

    by : (later : Bool) → ltb b.place place ≡ later → (fell : Option ℕ)
        → with_call place f (emptied (came place b later fell))
        ≡ record (came place b later fell) {
          marks = cond (is_some (came place b later fell).fell) [] (f (came place b later fell).marks);
        }
    by true e fell = again (came place b true fell) (irreflexive place)
    by false e fell = again b e

-- it is owed the same after a call there that tells nothing
pub reached-owes : (start : Start) (past : List Entry) (conn place : ℕ) (b : OutboxState) → place ≤ length past
    → Owes start past conn b → Owes start past conn (reached place b)
reached-owes start past conn place b within owes = by (ltb b.place place) (behind b) refl
  where
    same-fall : (fell : Option ℕ) (w : ℕ) → fallen fell w ≡ None → fallen None w ≡ None
    same-fall None w e = e
    same-fall (Some v) w e = absurd (cc)

    kept : (fell : Option ℕ) → b.fell ≡ fell
        → Owes start past conn (record b { marks = cond (is_some fell) [] b.marks })
    kept None e = owes
    kept (Some w) e =
        record {
          is_well = owes.is_well;
          not_later = owes.not_later;
          behind_is = ap (λ fell. fallen fell 0) e ∙ sym (ap (λ fell. fallen fell (weight b.marks)) e) ∙ owes.behind_is;
          marks_are = subst (λ fell. unless_behind (fallen fell 0) [] ≡ unless_behind (fallen fell 0) (marks_owed start past conn))
              (sym e) refl;
        }

    by : (later : Bool) (fell : Option ℕ) → behind b ≡ fell
        → Owes start past conn (emptied (came place b later fell))
    by true (Some w) e =
        record {
          is_well = owes.is_well;
          not_later = within;
          behind_is = sym e ∙ owes.behind_is;
          marks_are = refl;
        }
    by true None e =
        let none : fallen None (weight b.marks) ≡ None = same-fall b.fell (weight b.marks) e in
        record {
          is_well = owes.is_well;
          not_later = within;
          behind_is = none ∙ sym e ∙ owes.behind_is;
          marks_are = subst (λ fell. unless_behind fell b.marks ≡ unless_behind fell (marks_owed start past conn))
              (e ∙ sym none) owes.marks_are;
        }
    by false fell e = kept b.fell refl

-- calls at a place leave it owed the same where it came there before them
pub calls-reached : (start : Start) (past : List Entry) (conn place : ℕ) (ops : List Op) (b : OutboxState)
    → place ≤ length past → Owes start past conn (called_all place ops b)
    → Owes start past conn (called_all place ops (reached place b))
calls-reached start past conn place [] b within owes = reached-owes start past conn place b within owes
calls-reached start past conn place (o ∷ ops) b within owes =
    subst (λ c. Owes start past conn (called_all place ops c)) (sym (call-reached place (at_op o) b)) owes
