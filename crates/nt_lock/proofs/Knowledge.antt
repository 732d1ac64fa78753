-- What a turn does to what workers know.
--     turn-fits        what fits before the turn fits after it
--     turn-named       and the workers stay
--     tells-fits       what is told fits, where what is kept does
--     finds            what a seat finds in its turn
use Rattle.std.proofs.Common.{◌≡◌, ◌≢◌, ℕ, ◌+◌, ◌<◌, ◌≤◌, List, [], ◌∷◌, ◌++◌, length, set, sym, refl, ap, ◌∙◌, subst, arith, length-set, sum_by, append-nil, Bool, true, false, ◌||◌}
use Rattle.std.specs.Prelude.{Option, Some, None, IfSome}
use Rattle.std.specs.List.{AllByRecursion}
use mathlib.Core.Logic.{dite}
use mathlib.Core.Option.{some}
use native.Mathlib.Decide.{ℕ_discrete}
use lib.ListN.{get_elem?}
use Rattle.atomic_table.proofs.Lists.{set_here, set_else}
use Rattle.nt_rules.specs.declared.act.Entry.{Entry}
use Rattle.nt_lock.specs.declared.view.Kept.{Kept}
use Rattle.nt_lock.specs.declared.view.Note.{Note}
use Rattle.nt_lock.specs.declared.view.Note.TheVariants.{Made, Refused, Looked, Unmarked}
use Rattle.nt_lock.specs.declared.view.Turn.{Turn}
use Rattle.nt_lock.specs.declared.view.Hand.{Hand}
use Rattle.nt_lock.specs.declared.view.Known.{Known}
use Rattle.nt_lock.specs.Turns.{turn, own, made, made_in, is_refused, found_failed, any_turn, any_hand, times}
use Rattle.nt_lock.specs.Notes.{more, grown, fails, after, MayNote, Tells}
use Rattle.nt_lock.specs.Knowledge.{Agrees, IsPast, times_in, AllAgree, Flagged, Fits, Finds, Named}
use Rattle.nt_lock.specs.Steps.{known_of, turned_hand, turned_hands, turned}
use Rattle.nt_lock.proofs.Lists.{stay, total-set, at-inside, same-at, total-has, total-has-two, some-injective, none-is-not-some, if-some, or-left, or-right}
use Rattle.nt_lock.proofs.Growth.{own-made, own-other, begins-again, made-more, later-weaker, later-more, any-more}
use Rattle.nt_lock.proofs.Hands.{counts-one, agrees-else, past-weaker, turned-times}
use Rattle.nt_lock.proofs.Notes.{fails-more, refused-fails, found-fails, why-fails, long-told}

-- ---- the seat with this number has these hands, the first of which is its own

module _ (ks : List Known) (id : ℕ) (known : Known) (h : Hand) (hs : List Hand) (at : get_elem? ks id ≡ some known)
    (hands : known.hands ≡ h ∷ hs) where
  -- what the seat knows after a turn
  abbrev next : Turn → Option (List Entry) → Known
  next t told = known_of known.opened (turned_hands t told known.hands)

  next-hands : (t : Turn) (told : Option (List Entry)) → (next t told).hands ≡ turned_hand t told h ∷ hs
  next-hands t told = ap (turned_hands t told) hands

  same-total : (t : Turn) (told : Option (List Entry)) (w : ℕ)
      → sum_by (times_in w) (set ks id (next t told)) ≡ sum_by (times_in w) ks
  same-total t told w =
      let s = total-set (times_in w) ks id known (next t told) at in
      let n = turned-times t told w known.hands in
      omega arith

  -- ---- the workers

  module _ (named : Named ks) where
    once-here : times h.worker known.hands ≡ 1 + times h.worker hs
    once-here = ap (times h.worker) hands ∙ (let c = counts-one h.worker h refl in omega arith)

    none-behind : times h.worker hs ≡ 0
    none-behind =
        let all = total-has (times_in h.worker) ks id known at in
        let once = named.once h.worker in
        let n = once-here in
        omega arith

    none-elsewhere : (j : ℕ) (x : Known) → get_elem? ks j ≡ some x → j ≢ id → times h.worker x.hands ≡ 0
    none-elsewhere j x there other =
        let two = total-has-two (times_in h.worker) ks id j known x at there other in
        let once = named.once h.worker in
        let n = once-here in
        omega arith

  stands-here : (w : ℕ) → sum_by (times_in w) ks ≡ 0 → h.worker ≢ w
  stands-here w none is =
      let all = total-has (times_in w) ks id known at in
      let n = ap (times w) hands in
      let c = counts-one w h is in
      omega arith

  pub turn-named : (t : Turn) (told : Option (List Entry)) → Named ks → Named (set ks id (next t told))
  turn-named t told named =
      let n = length-set ks id (next t told) in
      record {
        once = λ w. let s = same-total t told w in let o = named.once w in omega arith;
        no_zero = let s = same-total t told 0 in let z = named.no_zero in omega arith;
        none_above = λ w past.
            let s = same-total t told w in
            let z = named.none_above w (omega arith) in
            omega arith;
        counts = λ j x e p. stay
            (λ j (x : Known). 0 < x.opened → (j ≡ 0) × (x.opened ≡ length (set ks id (next t told)))) ks id (next t told)
            (λ p. let c = named.counts id known at p in (c.0, c.1 ∙ sym n))
            (λ j x _ a p. let c = named.counts j x a p in (c.0, c.1 ∙ sym n))
            j x e p;
      }

  -- ---- the entries

  -- the turn made an entry
  made-agrees : (list : List Entry) (e : Entry) (place : ℕ) → Named ks → e.worker ≡ h.worker → length list + 1 ≡ place
      → AllAgree ks list
      → AllAgree (set ks id (next (turn place (Made e)) (Some (list ++ e ∷ [])))) (list ++ e ∷ [])
  made-agrees list e place named by placed all =
      let longer : List Entry = list ++ e ∷ [] in
      let t : Turn = turn place (Made e) in
      let old = subst (AllByRecursion (Agrees list)) hands (all.each id known at) in
      let mine : own h.worker longer ≡ made (h.turns ++ t ∷ []) =
      own-made h.worker list e by
      ∙ (ap (λ l. l ++ (length list + 1, e) ∷ []) old.0.1
      ∙ (ap (λ (n : ℕ). made h.turns ++ (n, e) ∷ []) placed ∙ sym (made-more h.turns t))) in
      record {
        each = λ j x f. stay (λ _ (x : Known). AllByRecursion (Agrees longer) x.hands) ks id (next t (Some longer))
            (subst (AllByRecursion (Agrees longer)) (sym (next-hands t (Some longer))) (
              (begins-again (Some longer) longer refl, mine),
              agrees-else list e hs (ap (λ (w : ℕ). times w hs) by ∙ none-behind named) old.1,
            ))
            (λ j x other a.
            agrees-else list e x.hands (ap (λ (w : ℕ). times w x.hands) by ∙ none-elsewhere named j x a other)
            (all.each j x a))
            j x f;
        others = λ w none.
            let was = sym (same-total t (Some longer) w) ∙ none in
            own-other w list e (λ is. stands-here w was (sym by ∙ is)) ∙ all.others w was;
      }

  -- the turn made none
  same-agrees : (list : List Entry) (t : Turn) → made_in t.place t.note ≡ [] → AllAgree ks list
      → AllAgree (set ks id (next t (Some list))) list
  same-agrees list t nothing all =
      let old = subst (AllByRecursion (Agrees list)) hands (all.each id known at) in
      let mine : own h.worker list ≡ made (h.turns ++ t ∷ []) =
      old.0.1 ∙ sym (made-more h.turns t ∙ (ap (λ l. made h.turns ++ l) nothing ∙ append-nil (made h.turns))) in
      record {
        each = λ j x f. stay (λ _ (x : Known). AllByRecursion (Agrees list) x.hands) ks id (next t (Some list))
            (subst (AllByRecursion (Agrees list)) (sym (next-hands t (Some list)))
            ((begins-again (Some list) list refl, mine), old.1))
            (λ j x _ a. all.each j x a)
            j x f;
        others = λ w none. all.others w (sym (same-total t (Some list) w) ∙ none);
      }

  told-agrees : (note : Note) (count : ℕ) (failed : Bool) (told : Option (List Entry)) (l : List Entry) → Named ks
      → MayNote h.worker failed note → grown note told ≡ Some l → IfSome told (λ l. length l ≡ count)
      → IfSome told (AllAgree ks) → AllAgree (set ks id (next (turn (count + more note) note) (Some l))) l
  told-agrees (Made e) count failed (Some list) l named may grows long all =
      subst (λ l. AllAgree (set ks id (next (turn (count + 1) (Made e)) (Some l))) l)
      (some-injective (list ++ e ∷ []) l grows)
      (made-agrees list e (count + 1) named may (ap (λ (n : ℕ). n + 1) long) all)
  told-agrees Refused count failed (Some list) l named may grows long all =
      subst (λ l. AllAgree (set ks id (next (turn (count + 0) Refused) (Some l))) l) (some-injective list l grows)
      (same-agrees list (turn (count + 0) Refused) refl all)
  told-agrees (Looked found) count failed (Some list) l named may grows long all =
      subst (λ l. AllAgree (set ks id (next (turn (count + 0) (Looked found)) (Some l))) l)
      (some-injective list l grows)
      (same-agrees list (turn (count + 0) (Looked found)) refl all)
  told-agrees Unmarked count failed (Some list) l named may grows long all =
      subst (λ l. AllAgree (set ks id (next (turn (count + 0) Unmarked) (Some l))) l) (some-injective list l grows)
      (same-agrees list (turn (count + 0) Unmarked) refl all)
  told-agrees (Made e) count failed None l named may grows long all = absurd (none-is-not-some l grows)
  told-agrees Refused count failed None l named may grows long all = absurd (none-is-not-some l grows)
  told-agrees (Looked found) count failed None l named may grows long all = absurd (none-is-not-some l grows)
  told-agrees Unmarked count failed None l named may grows long all = absurd (none-is-not-some l grows)

  -- ---- the places

  turn-past : (t : Turn) (told : Option (List Entry)) (before now : ℕ) → before ≤ now → t.place ≤ now
      → ((j : ℕ) (x : Known) → get_elem? ks j ≡ some x → AllByRecursion (IsPast before) x.hands)
      → (j : ℕ) (x : Known) → get_elem? (set ks id (next t told)) j ≡ some x → AllByRecursion (IsPast now) x.hands
  turn-past t told before now le place past =
      let old = subst (AllByRecursion (IsPast before)) hands (past id known at) in
      stay (λ _ (x : Known). AllByRecursion (IsPast now) x.hands) ks id (next t told)
      (subst (AllByRecursion (IsPast now)) (sym (next-hands t told))
      (later-more now h.turns t (later-weaker before now h.turns le old.0) place, past-weaker before now hs le old.1))
      (λ j x _ a. past-weaker before now x.hands le (past j x a))

  -- ---- whether a turn was refused

  any-next : (f : Note → Bool) (t : Turn) (told : Option (List Entry))
      → any_hand f (next t told).hands ≡ (any_turn f h.turns || f t.note) || any_hand f hs
  any-next f t told = ap (any_hand f) (next-hands t told) ∙ ap (λ b. b || any_hand f hs) (any-more f h.turns t)

  any-now : (f : Note → Bool) → any_hand f known.hands ≡ any_turn f h.turns || any_hand f hs
  any-now f = ap (any_hand f) hands

  turn-flags : (t : Turn) (told : Option (List Entry)) (failed : Bool) → MayNote h.worker failed t.note
      → Flagged ks failed → Flagged (set ks id (next t told)) (fails t.note failed)
  turn-flags t told failed may f =
      let note : Note = t.note in
      record {
        why = λ failing. why-fails note failed failing
            (λ was-failed.
            let was = f.why was-failed in
            dite (ℕ_discrete was.0 id)
            (λ is. (
              id,
              next t told,
              set_here ks id (next t told) (at-inside ks id known at),
              any-next is_refused t told
                  ∙ grows (any_turn is_refused h.turns) (is_refused note) (any_hand is_refused hs)
                  (sym (any-now is_refused)
                  ∙ (ap (λ (z : Known). any_hand is_refused z.hands)
                  (same-at ks id known was.1 at (ap (get_elem? ks) (sym is) ∙ was.2))
                  ∙ was.3)),
            ))
            (λ other. (was.0, was.1, set_else ks id was.0 (next t told) other ∙ was.2, was.3)))
            (λ refused. (
              id,
              next t told,
              set_here ks id (next t told) (at-inside ks id known at),
              any-next is_refused t told
                  ∙ or-left (any_turn is_refused h.turns || is_refused note) (any_hand is_refused hs)
                  (or-right (any_turn is_refused h.turns) (is_refused note) refused),
            ));
        refused = λ j x e. stay (λ _ (x : Known). any_hand is_refused x.hands ≡ true → fails note failed ≡ true) ks id
            (next t told)
            (λ a.
            splits (any_turn is_refused h.turns) (is_refused note) (any_hand is_refused hs)
            (sym (any-next is_refused t told) ∙ a)
            (λ a. fails-more note failed (f.refused id known at (any-now is_refused ∙ a)))
            (refused-fails note failed))
            (λ j x _ a h. fails-more note failed (f.refused j x a h))
            j x e;
        found = λ j x e. stay (λ _ (x : Known). any_hand found_failed x.hands ≡ true → fails note failed ≡ true) ks id
            (next t told)
            (λ a.
            splits (any_turn found_failed h.turns) (found_failed note) (any_hand found_failed hs)
            (sym (any-next found_failed t told) ∙ a)
            (λ a. fails-more note failed (f.found id known at (any-now found_failed ∙ a)))
            (found-fails h.worker note failed may))
            (λ j x _ a h. fails-more note failed (f.found j x a h))
            j x e;
      }
    where
      grows : (a b c : Bool) → a || c ≡ true → (a || b) || c ≡ true
      grows true b c e = refl
      grows false true c e = refl
      grows false false c e = e

      splits : {X : Type 0} (a b c : Bool) → (a || b) || c ≡ true → (a || c ≡ true → X) → (b ≡ true → X) → X
      splits true b c e f g = f refl
      splits false true c e f g = g refl
      splits false false c e f g = f e

  -- ---- all of it

  pub turn-fits : (note : Note) (k told : Kept) (counted : ℕ) → Named ks → MayNote h.worker k.failed note
      → Tells (after note k) told → Fits ks counted k
      → Fits (set ks id (turned note k told.told known)) (counted + more note) told
  turn-fits note k told counted named may tells f =
      let t : Turn = turn (k.count + more note) note in
      let count = tells.count in
      record {
        count = tells.count ∙ ap (λ (n : ℕ). n + more note) f.count;
        long = if-some told.told tells.entries (λ l _ e.
            subst (λ o. IfSome o (λ l. length l ≡ k.count + more note)) e (long-told note k.count k.told f.long)
            ∙ sym tells.count);
        agree = if-some told.told tells.entries (λ l is e.
            subst (λ o. AllAgree (set ks id (next t o)) l) (sym is)
            (told-agrees note k.count k.failed k.told l named may e f.long f.agree));
        past = turn-past t told.told k.count told.count (omega arith) (omega arith) f.past;
        flagged = subst (Flagged (set ks id (next t told.told))) (sym tells.failed)
            (turn-flags t told.told k.failed may f.flagged);
      }

pub tells-fits : (ks : List Known) (c : ℕ) (k told : Kept) → Tells k told → Fits ks c k → Fits ks c told
tells-fits ks c k told t f =
    record {
      count = t.count ∙ f.count;
      long = if-some told.told t.entries (λ list _ e.
          subst (λ o. IfSome o (λ l. length l ≡ k.count)) e f.long ∙ sym t.count);
      agree = if-some told.told t.entries (λ list _ e. subst (λ o. IfSome o (AllAgree ks)) e f.agree);
      past = λ j x e. subst (λ (n : ℕ). AllByRecursion (IsPast n) x.hands) (sym t.count) (f.past j x e);
      flagged = subst (Flagged ks) (sym t.failed) f.flagged;
    }

pub finds : (ks : List Known) (c : ℕ) (k : Kept) (id : ℕ) (known : Known) → get_elem? ks id ≡ some known → Fits ks c k
    → Finds k known
finds ks c k id known at f =
    record {
      long = f.long;
      agrees = if-some k.told f.agree (λ list _ all. all.each id known at);
      past = f.past id known at;
      refused = f.flagged.refused id known at;
    }
