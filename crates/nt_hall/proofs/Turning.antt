-- A turn of a hall, from what the lock says of it.
--     has-turn                            the turn of a seat, by what it did
--     acted, refused, acts-well           an act
--     look-turn, look-value, look-failed  a look
--     save-turn, save-value, saves-well   a saving
use Rattle.std.proofs.Common.{◌≡◌, ℕ, ◌+◌, List, [], ◌∷◌, ◌++◌, length, sym, refl, ap, ◌∙◌, subst, Bool, true, false}
use Rattle.std.specs.Prelude.{Option, Some, None, Vec, Result, Ok, Err, IfSome, IfOk, OnOk, OnErr}
use Rattle.nt_rules.specs.declared.act.Act.{Act}
use Rattle.nt_rules.specs.declared.act.StepOut.{StepOut}
use Rattle.nt_rules.specs.declared.act.Entry.{Entry}
use Rattle.nt_rules.specs.declared.topic.Saved.{Saved}
use Rattle.nt_rules.specs.declared.start.Start.{Start}
use Rattle.nt_lock.specs.declared.view.Kept.{Kept}
use Rattle.nt_lock.specs.declared.view.Origin.{Origin}
use Rattle.nt_lock.specs.declared.view.Note.{Note}
use Rattle.nt_lock.specs.declared.view.Note.TheVariants.{Made, Refused, Looked, Unmarked}
use Rattle.nt_lock.specs.Turns.{Begins, own, made, turn, any_turn, is_refused}
use Rattle.nt_lock.specs.Notes.{more, grown}
use Rattle.nt_lock.specs.Seats.{SeatView, FindsFor, turned_seat, Took}
use Rattle.nt_lock.proofs.Lists.{if-some, some-injective, none-is-not-some, false-is-not-true}
use Rattle.nt_lock.proofs.Growth.{begins-longer}
use Rattle.nt_hall.specs.declared.work.Looked as looked
use Rattle.nt_hall.specs.Histories.{IsHistory, IsNext, IsLook, IsSaved}
use Rattle.nt_hall.specs.Locked.{LockedView, IsActed, DidAct, DidLook, DidSave, saved_list}
use Rattle.nt_hall.specs.Turns.{HasTurn, Follows, Acted}

-- ---- any turn

begins-grown : (note : Note) (before seen : Option (List Entry)) (list : List Entry) → grown note before ≡ Some list
    → IfSome before (Begins seen) → Begins seen list
begins-grown (Made e) (Some h) seen list is b =
    subst (Begins seen) (some-injective (h ++ e ∷ []) list is) (begins-longer seen h e b)
begins-grown (Made e) None seen list is b = absurd (none-is-not-some list is)
begins-grown Refused before seen list is b = subst (λ o. IfSome o (Begins seen)) is b
begins-grown (Looked failed) before seen list is b = subst (λ o. IfSome o (Begins seen)) is b
begins-grown Unmarked before seen list is b = subst (λ o. IfSome o (Begins seen)) is b

-- no turn of the seat was refused, where the hall hasn't failed
not-refused : (k : Kept) (s : SeatView) → FindsFor k s → k.failed ≡ false → any_turn is_refused s.turns ≡ false
not-refused k s f well = go (any_turn is_refused s.turns) refl
  where
    go : (b : Bool) → any_turn is_refused s.turns ≡ b → any_turn is_refused s.turns ≡ false
    go true e = absurd (false-is-not-true (sym well ∙ f.refused e))
    go false e = e

module _ {L A : Type 0} (kept : L → Kept) (last : L → Note) (did : ℕ → L → A → L → Type 0) (s t : SeatView)
    (reply : A) (h : Took kept last did s t reply) where
  seen-is : t.seen ≡ (kept h.left).told
  seen-is = ap (λ (z : SeatView). z.seen) h.turned

  pub has-turn : (note : Note) → last h.left ≡ note → HasTurn s t note
  has-turn note is =
      let k : Kept = kept h.found in
      let told : Option (List Entry) = (kept h.left).told in
      record {
        before = k.count;
        turned = h.turned ∙ (λ i. turned_seat (turn (k.count + more (is i)) (is i)) (sym seen-is i) s);
        past = h.finds.past;
        long = subst (λ o. IfSome o (λ list. length list ≡ k.count + more note)) (sym seen-is)
            (subst (λ n. IfSome told (λ list. length list ≡ k.count + more n)) is h.long);
        begins = subst (λ o. IfSome o (Begins s.seen)) (sym seen-is)
            (if-some told h.tells.entries
            (λ list _ grows. begins-grown (last h.left) k.told s.seen list grows h.finds.begins));
        own_entries = subst (λ o. IfSome o (λ list. own s.worker list ≡ made t.turns)) (sym seen-is) h.own_after;
      }

  -- what is said of the list that was found holds of what the seat sees, where the turn made no entry
  pub as-found : (P : List Entry → Type 0) → grown (last h.left) (kept h.found).told ≡ (kept h.found).told
      → IfSome (kept h.found).told P → IfSome t.seen P
  as-found P same p =
      subst (λ o. IfSome o P) (sym seen-is)
      (if-some (kept h.left).told h.tells.entries
      (λ list _ is. subst (λ o. IfSome o P) (sym same ∙ is) p))

-- ---- an act

follows : (s : SeatView) (now : ℕ) (act : Act) (out : StepOut) (e : Entry) (start : Start)
    (before told : Option (List Entry)) → start ≡ s.origin.start
    → IfSome told (λ list. grown (Made e) before ≡ Some list) → IfSome before (Begins s.seen)
    → IfSome before (λ list. IsNext start list s.worker now act out e) → IfSome before (IsHistory start)
    → IfSome told (IsHistory start) → IfSome told (Follows s now act out e)
follows s now act out e start before None is on begins next lawful still = tt
follows s now act out e start None (Some list) is on begins next lawful still = absurd (none-is-not-some list on)
follows s now act out e start (Some h) (Some list) is on begins next lawful still =
    record {
      history = h;
      list_is = sym (some-injective (h ++ e ∷ []) list on);
      begins = begins;
      lawful = subst (λ start. IsHistory start h) is lawful;
      still_lawful = subst (λ start. IsHistory start list) is still;
      next = subst (λ start. IsNext start h s.worker now act out e) is next;
    }

abbrev kept-in : {S : Type 0} → LockedView S → Kept
kept-in l = l.kept

abbrev last-in : {S : Type 0} → LockedView S → Note
last-in l = l.last

module _ (S E : Type 0) (s t : SeatView) (now : ℕ) (act : Act) where
  abbrev TookAct : Result StepOut E → Type 0
  TookAct reply = Took {L = LockedView S} kept-in last-in (DidAct now act) s t reply

  acted-so : (out : StepOut) → TookAct (Ok out) → Acted s t now act out
  acted-so out h =
      let d : IsActed s.worker now act out h.found h.left = h.done in
      let told : Option (List Entry) = h.left.kept.told in
      let start : h.found.kept.origin.start ≡ s.origin.start = ap (λ (o : Origin). o.start) h.origin in
      let on : IfSome told (λ list. grown (Made d.entry) h.found.kept.told ≡ Some list) =
      subst (λ n. IfSome told (λ list. grown n h.found.kept.told ≡ Some list)) d.last_is h.tells.entries in
      record {
        entry = d.entry;
        turn = has-turn kept-in last-in (DidAct now act) s t (Ok out) h (Made d.entry) d.last_is;
        entry_is = d.entry_is;
        follows = subst (λ o. IfSome o (Follows s now act out d.entry))
            (sym (seen-is kept-in last-in (DidAct now act) s t (Ok out) h))
            (follows s now act out d.entry h.found.kept.origin.start h.found.kept.told told start on h.finds.begins
            d.next d.before d.after);
      }

  pub acted : (reply : Result StepOut E) → TookAct reply → IfOk reply (Acted s t now act)
  acted (Ok out) h = acted-so out h
  acted (Err e) h = tt

  pub refused : (reply : Result StepOut E) → TookAct reply → OnErr reply (HasTurn s t Refused)
  refused (Ok out) h = tt
  refused (Err e) h = has-turn kept-in last-in (DidAct now act) s t (Err e) h Refused h.done

  pub acts-well : (reply : Result StepOut E) → TookAct reply → OnOk reply (any_turn is_refused s.turns ≡ false)
  acts-well (Ok out) h = not-refused h.found.kept s h.finds h.done.well
  acts-well (Err e) h = tt

-- ---- a look

module _ {S : Type 0} (s t : SeatView) (conn : ℕ) (reply : looked.Looked)
    (h : Took {L = LockedView S} kept-in last-in (λ _. DidLook conn) s t reply) where
  pub look-turn : HasTurn s t (Looked reply.failed)
  look-turn = has-turn kept-in last-in (λ _. DidLook conn) s t reply h (Looked reply.failed) h.done.last_is

  pub look-value : reply.failed ≡ false → IfSome t.seen (λ list. IsLook s.origin.start list conn reply)
  look-value well =
      as-found kept-in last-in (λ _. DidLook conn) s t reply h (λ list. IsLook s.origin.start list conn reply)
      (ap (λ (n : Note). grown n h.found.kept.told) h.done.last_is)
      (subst (λ (o : Origin). IfSome h.found.kept.told (λ list. IsLook o.start list conn reply)) h.origin (h.done.value well))

  pub look-failed : any_turn is_refused s.turns ≡ true → reply.failed ≡ true
  look-failed r = h.done.failed ∙ h.finds.refused r

-- ---- a saving

module _ (S Y E : Type 0) (s t : SeatView) where
  abbrev did-save : ℕ → LockedView S → Result (Vec Saved Y) E → LockedView S → Type 0
  did-save worker found reply left = DidSave found (saved_list reply) left

  abbrev TookSave : Result (Vec Saved Y) E → Type 0
  TookSave reply = Took {L = LockedView S} kept-in last-in did-save s t reply

  pub save-turn : (reply : Result (Vec Saved Y) E) → TookSave reply → HasTurn s t Unmarked
  save-turn reply h = has-turn kept-in last-in did-save s t reply h Unmarked h.done.last_is

  pub save-value : (reply : Result (Vec Saved Y) E) → TookSave reply
      → IfOk reply (λ saved. IfSome t.seen (λ list. IsSaved s.origin.start list saved.items))
  save-value (Ok saved) h =
      as-found kept-in last-in did-save s t (Ok saved) h (λ list. IsSaved s.origin.start list saved.items)
      (ap (λ (n : Note). grown n h.found.kept.told) h.done.last_is)
      (subst (λ (o : Origin). IfSome h.found.kept.told (λ list. IsSaved o.start list saved.items)) h.origin
      h.done.value)
  save-value (Err e) h = tt

  pub saves-well : (reply : Result (Vec Saved Y) E) → TookSave reply → OnOk reply (any_turn is_refused s.turns ≡ false)
  saves-well (Ok saved) h = not-refused h.found.kept s h.finds h.done.well
  saves-well (Err e) h = tt
