use Rattle.std.proofs.Common.{◌≡◌, ◌<◌, ◌⊎◌, inl, inr, ◌+◌, ◌-◌, ◌^◌, ◌++◌, [], ◌∷◌, ◌||◌, ℕ, suc, ℤ, Bool, false, true, List, Vec, Global, add-one, drop, drop-cons, filter, get_or, length, refl, sym, ◌∙◌, ap, subst, w64, rules}
use Rattle.std.specs.Prelude.{FitsSigned, negsuc}
use Rattle.std.specs.Ordering.{int_eq}
use Rattle.std.proofs.lemmas.Bool.Decides.{Decides-int_eq}
use Rattle.std.proofs.lemmas.Int.{to_z-of_z}
use Rattle.std.proofs.lemmas.List.{drop_all}
use mir.Val.{of_z, to_z}
use Rattle.nt_frames.specs.declared.message.ValueMsg.{ValueMsg}
use Rattle.nt_client.specs.Taking.{is_clock}
use Rattle.nt_client.proofs.Takes.{clock-step}
use Rattle.nt_client.proofs.ValueSteps.{TellsOn, tells-changes, tells-clock, tells-first, tells-ignored, tells-step}
use Rattle.nt_client.proofs.values.tell_all.Goals as goal
use Rattle.nt_client.proofs.values.tell_all.Goals.{then-is_answer+in_ok-copy+in_ok-push, else-is_answer, then-not-branch+then-not-is_answer, else-not-branch}

-- the code's test of an id

answers : (id : ℤ) → FitsSigned w64 id → of_z w64 id ≡ 2 ^ 64 - 1 → int_eq id (negsuc 0) ≡ true
answers id fits e = (Decides-int_eq id (negsuc 0)).1 (sym (to_z-of_z w64 id fits) ∙ ap (to_z w64) e)

by-none : (b : Bool) → (b ≡ true → ⊥) → b ≡ false
by-none true h = absurd (h refl)
by-none false h = refl

no-answer : (id : ℤ) → (of_z w64 id ≡ 2 ^ 64 - 1 → ⊥) → int_eq id (negsuc 0) ≡ false
no-answer id other =
    by-none (int_eq id (negsuc 0)) (λ e. other (ap (of_z w64) ((Decides-int_eq id (negsuc 0)).0 e)))

unknown : (a b : Bool) → a ≡ false → b ≡ false → false ≡ (a || b)
unknown true b none none-2 = sym none
unknown false b none none-2 = sym none-2

known-right : (a b : Bool) → b ≡ true → true ≡ (a || b)
known-right true b e = refl
known-right false b e = sym e

known-by : (id : ℤ) (b : Bool) → FitsSigned w64 id → ((b ≡ false) × (of_z w64 id ≡ 2 ^ 64 - 1)) ⊎ (b ≡ true)
    → true ≡ (int_eq id (negsuc 0) || b)
known-by id b fits (inl h) = ap (λ (a : Bool). a || b) (sym (answers id fits h.1))
known-by id b fits (inr e) = known-right (int_eq id (negsuc 0)) b e

-- the values that are left begin with this one
next : (msgs : List ValueMsg) (i : ℕ) (v : ValueMsg) → i < length msgs → v ≡ get_or msgs i v
    → drop i msgs ≡ v ∷ drop (i + 1) msgs
next msgs i v lt e = rw (add-one) (drop-cons msgs i v lt ∙ ap (λ z. z ∷ drop (suc i) msgs) (sym e))

pub loop-msg-init : goal.loop-msg-init
loop-msg-init c =
    tells-first c.args.held.now c.args.changes.now c.args.ignored c.args.clock.now.items c.args.msgs.now
    c.ranges.ignored.fits

pub loop-msg-preserved : goal.loop-msg-preserved
loop-msg-preserved c =
    let at = c.loop-msg in
    let msg : ValueMsg = c.msg-item.result in
    let rest : List ValueMsg = drop (at.msg-index + 1) c.args.msgs.now in
    let tells = subst (λ (ms : List ValueMsg). TellsOn c.args.held.now c.args.changes.now c.args.ignored
    c.args.clock.now.items c.args.msgs.now at.changes at.ignored at.clock.items ms)
    (next c.args.msgs.now at.msg-index msg c.loop-msg-test.true c.msg-item.is) at.invariant in
    let fits : FitsSigned w64 msg.id = search rules in
    let clock : c.if-is_answer.clock.items ++ filter is_clock rest ≡ at.clock.items ++ filter is_clock (msg ∷ rest) =
    elim c.if-is_answer.branch [
      | then-is_answer+in_ok-copy+in_ok-push w ↦
          let items : w.push.new.self.items ≡ at.clock.items ++ msg ∷ [] = search rules in
          clock-step msg rest at.clock.items _ true (answers msg.id fits w.if-is_answer.true)
          (ap (λ (v : Vec ValueMsg Global). v.items) w.clock-is ∙ items)
      | else-is_answer w ↦
          clock-step msg rest at.clock.items _ false (no-answer msg.id w.if-is_answer.false)
          (ap (λ (v : Vec ValueMsg Global). v.items) w.clock-is)
    ] in
    elim c.if-not-branch.branch [
      | then-not-branch+then-not-is_answer w ↦
          tells-step _ _ _ _ _ at.changes at.ignored at.clock.items msg rest _ _ _ false tells
          c.in_ok-tell.ensures.changes
          (unknown _ _ (no-answer msg.id w.if-not-is_answer.true) w.if-not-branch.true
          ∙ ap (λ (b : Bool). is_clock msg || b) c.in_ok-tell.ensures.known)
          (w.ignored-is ∙ w.saturating_add-ignored.ensures) clock
      | else-not-branch w ↦
          tells-step _ _ _ _ _ at.changes at.ignored at.clock.items msg rest _ _ _ true tells
          c.in_ok-tell.ensures.changes
          (known-by msg.id c.in_ok-tell.field-0 fits w.else-not-branch.either
          ∙ ap (λ (b : Bool). is_clock msg || b) c.in_ok-tell.ensures.known)
          w.ignored-is clock
    ]

pub returns-clause-ignored : goal.returns-clause-ignored
returns-clause-ignored c =
    tells-ignored _ _ _ _ _ c.loop-msg.changes c.loop-msg.ignored c.loop-msg.clock.items
    (subst (λ (ms : List ValueMsg). TellsOn c.args.held.now c.args.changes.now c.args.ignored
    c.args.clock.now.items c.args.msgs.now c.loop-msg.changes c.loop-msg.ignored c.loop-msg.clock.items ms)
    (drop_all c.loop-msg.msg-index c.args.msgs.now c.loop-msg-test.false) c.loop-msg.invariant)

pub returns-clause-changes : goal.returns-clause-changes
returns-clause-changes c =
    tells-changes _ _ _ _ _ c.loop-msg.changes c.loop-msg.ignored c.loop-msg.clock.items
    (subst (λ (ms : List ValueMsg). TellsOn c.args.held.now c.args.changes.now c.args.ignored
    c.args.clock.now.items c.args.msgs.now c.loop-msg.changes c.loop-msg.ignored c.loop-msg.clock.items ms)
    (drop_all c.loop-msg.msg-index c.args.msgs.now c.loop-msg-test.false) c.loop-msg.invariant)

pub returns-clause-clock : goal.returns-clause-clock
returns-clause-clock c =
    tells-clock _ _ _ _ _ c.loop-msg.changes c.loop-msg.ignored c.loop-msg.clock.items
    (subst (λ (ms : List ValueMsg). TellsOn c.args.held.now c.args.changes.now c.args.ignored
    c.args.clock.now.items c.args.msgs.now c.loop-msg.changes c.loop-msg.ignored c.loop-msg.clock.items ms)
    (drop_all c.loop-msg.msg-index c.args.msgs.now c.loop-msg-test.false) c.loop-msg.invariant)
