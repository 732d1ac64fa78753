-- One turn, from what its steps tell.
--     seat-pass, is-idle      a seat between its turns
--     same-value        what is worked on is the value that the pass found
--     took              the turn of a pass
--     took-seat         and what its seat shows then
use Rattle.std.proofs.Common.{◌≡◌, ℕ, ◌+◌, List, [], ◌∷◌, sym, refl, ap, ◌∙◌, subst, false}
use Rattle.std.specs.Prelude.{Option, IfSome}
use Rattle.std.specs.List.{AllByRecursion}
use Rattle.atomic_table.specs.Table.{Me, rest}
use Rattle.atomic_table.specs.Seated.{TableId}
use Rattle.nt_rules.specs.declared.act.Entry.{Entry}
use Rattle.nt_lock.specs.declared.view.Kept.{Kept}
use Rattle.nt_lock.specs.declared.view.Note.{Note}
use Rattle.nt_lock.specs.declared.view.Stage.TheVariants.{Idle}
use Rattle.nt_lock.specs.declared.view.View.{View}
use Rattle.nt_lock.specs.Turns.{turn}
use Rattle.nt_lock.specs.Notes.{more}
use Rattle.nt_lock.specs.Knowledge.{Agrees, Finds}
use Rattle.nt_lock.specs.Steps.{view_of, known_of, turned, Notes}
use Rattle.nt_lock.specs.Seats.{SeatView, seat_view, seat_hand, idle_view, FindsFor, turned_seat, Took}
use Rattle.nt_lock.specs.Passes.{idle_pass, IsIdle, HasEntered, holding, HasDone, TookTurn}
use Rattle.nt_lock.proofs.Lists.{if-some, or-left}

abbrev first-or : View → List View → View
first-or other [] = other
first-or other (v ∷ views) = v

pub seat-pass : {L : Type 0} (s : SeatView) (views : List View) (m : Me L View) → views ≡ idle_view s ∷ []
    → views ≡ m.0 ∷ [] → m.1 ≡ [] → m ≡ idle_pass s
seat-pass s views m shown is slot = λ i. (ap (first-or m.0) (sym is ∙ shown) i, slot i)

pub is-idle : {L : Type 0} (s : SeatView) (m : Me L View) → m ≡ idle_pass s → IsIdle m s.worker
is-idle {L} s m is =
    record {
      stage = ap (λ (m : Me L View). m.0.stage) is;
      slot = ap (λ (m : Me L View). m.1) is;
      hand = seat_hand s;
      hands = ap (λ (m : Me L View). m.0.known.hands) is;
      own_hand = refl;
    }

abbrev value-or : {L : Type 0} → L → List (ℕ × L) → L
value-or other [] = other
value-or other (c ∷ cs) = c.1

pub same-value : {L : Type 0} (kept : L → Kept) (m₀ m₁ : Me L View) (found : L) (e : HasEntered kept m₀ m₁)
    → m₁ ≡ holding found m₁ → found ≡ e.value
same-value {L} kept m₀ m₁ found e held = ap (λ (m : Me L View). value-or e.value m.1) (sym held ∙ e.now_is)

module _ {L A : Type 0} (kept : L → Kept) (last : L → Note) (did : ℕ → L → A → L → Type 0) where
  pub took : (worker : ℕ) (m₀ m₁ m₂ m₃ m₄ : Me L View) (reply : A) (e : HasEntered kept m₀ m₁) (left : L)
      → m₂ ≡ holding left m₁ → HasDone kept last did worker e.value reply left
      → Notes kept last e.number_is (kept e.value) left m₂ m₃
      → m₄ ≡ (view_of m₃.0.origin Idle m₃.0.known, rest m₃.1) → TookTurn kept last did worker m₀ m₄ reply
  took worker m₀ m₁ m₂ m₃ m₄ reply e left worked did-it n gone =
      let k : Kept = kept e.value in
      let told : Option (List Entry) = (kept left).told in
      let note : Note = last left in
      record {
        found = e.value;
        left = left;
        what = did-it;
        origin = e.origin;
        finds = e.finds;
        now_is =
            gone
            ∙ (ap (λ (m : Me L View). (view_of m.0.origin Idle m.0.known, rest m.1)) n.now_is
            ∙ (ap (λ (m : Me L View). (view_of m.0.origin Idle (turned note k told m.0.known), rest m.1)) worked
            ∙ ap (λ (m : Me L View). (view_of m.0.origin Idle (turned note k told m.0.known), [])) e.now_is));
        long = n.long;
        agrees = subst (λ hands. IfSome told (λ list. AllByRecursion (Agrees list) hands))
            (sym (ap (λ (m : Me L View). m.0.known.hands) gone)) n.agrees;
      }

  -- what the turn finds, and the seat shows
  finds-for : (k : Kept) (s : SeatView) → Finds k (known_of s.opened (seat_hand s ∷ [])) → FindsFor k s
  finds-for k s f =
      record {
        long = f.long;
        begins = if-some k.told f.agrees (λ list _ a. a.0.0);
        own_before = if-some k.told f.agrees (λ list _ a. a.0.1);
        past = f.past.0;
        refused = λ h. f.refused (or-left _ false h);
      }

  pub took-seat : (s : SeatView) (lock : TableId) (views : List View) (m m' : Me L View) (reply : A) → m ≡ idle_pass s
      → TookTurn kept last did s.worker m m' reply → views ≡ m'.0 ∷ [] → lock ≡ s.lock
      → Took kept last did s (seat_view lock s.worker views) reply
      × (views ≡ idle_view (seat_view lock s.worker views) ∷ [])
  took-seat s lock views m m' reply is turned-m shown same =
      let t : TookTurn kept last did s.worker (idle_pass s) m' reply =
      subst (λ m. TookTurn kept last did s.worker m m' reply) is turned-m in
      let k : Kept = kept t.found in
      let told : Option (List Entry) = (kept t.left).told in
      let u : SeatView = turned_seat (turn (k.count + more (last t.left)) (last t.left)) told s in
      let now : views ≡ idle_view u ∷ [] = shown ∙ ap (λ (m : Me L View). m.0 ∷ []) t.now_is in
      let shows : seat_view lock s.worker views ≡ u = λ i. seat_view (same i) s.worker (now i) in
      let hands = ap (λ (m : Me L View). m.0.known.hands) t.now_is in (
        subst (λ z. Took kept last did s z reply) (sym shows)
            record {
              found = t.found;
              left = t.left;
              done = t.what.done;
              may = t.what.may;
              tells = t.what.tells;
              origin = t.origin;
              finds = finds-for k s t.finds;
              turned = refl;
              long = t.long;
              own_after = if-some told t.agrees (λ list _ a. (subst (AllByRecursion (Agrees list)) hands a).0.1);
            },
        now ∙ ap (λ z. idle_view z ∷ []) (sym shows),
      )
