-- What clauses say of seats and of their turns.
use Rattle.std.specs.Prelude.{◌≡◌, ℕ, zero, suc, ◌+◌, ◌-◌, ◌<◌, ◌⊎◌, List, [], ◌∷◌, ◌++◌, length, Option, Some, IfSome, Bool, true, false, ◌||◌}
use Rattle.std.specs.List.{AllByRecursion}
use mathlib.Core.Option.{some}
use lib.ListN.{get_elem?}
use Rattle.atomic_table.specs.Seated.{TableId}
use Rattle.nt_rules.specs.declared.act.Entry.{Entry}
use Rattle.nt_lock.specs.declared.view.Note.{Note}
use Rattle.nt_lock.specs.declared.view.Turn.{Turn}
use Rattle.nt_lock.specs.declared.view.Kept.{Kept}
use Rattle.nt_lock.specs.declared.view.Hand.{Hand}
use Rattle.nt_lock.specs.declared.view.Origin.{Origin}
use Rattle.nt_lock.specs.declared.view.View.{View}
use Rattle.nt_lock.specs.declared.view.Stage.TheVariants.{Idle}
use Rattle.nt_lock.specs.Turns.{Begins, own, made, turn, NoneLater, is_refused, found_failed, any_turn}
use Rattle.nt_lock.specs.Notes.{more, after, MayNote, Tells}
use Rattle.nt_lock.specs.Steps.{view_of, hand_of, known_of, new_hand, spent}

-- The lock that a seat belongs to, what there was as it opened, the worker, how many seats there are (0 for any seat but
-- the first), the turns in their order, and the entries that were told after the last of them.
pub record SeatView : Type 0 where
  pub lock : TableId
  pub origin : Origin
  pub worker : ℕ
  pub opened : ℕ
  pub turns : List Turn
  pub seen : Option (List Entry)

-- ---- as a view shows it

abbrev pub first_view : List View → View
first_view [] = spent
first_view (v ∷ views) = v

abbrev pub first_hand : List Hand → Hand
first_hand [] = new_hand 0
first_hand (h ∷ hands) = h

abbrev pub seat_view : TableId → ℕ → List View → SeatView
seat_view lock worker views =
    let v = first_view views in
    let h = first_hand v.known.hands in
    record {
      lock = lock;
      origin = v.origin;
      worker = worker;
      opened = v.known.opened;
      turns = h.turns;
      seen = h.seen;
    }

abbrev pub seat_hand : SeatView → Hand
seat_hand s = hand_of s.worker s.turns s.seen

-- the view of a seat between its turns
abbrev pub idle_view : SeatView → View
idle_view s = view_of s.origin Idle (known_of s.opened (seat_hand s ∷ []))

-- ---- seats as the lock opens

abbrev pub new_seat : TableId → Origin → ℕ → ℕ → SeatView
new_seat lock o worker opened =
    record { lock = lock; origin = o; worker = worker; opened = opened; turns = []; seen = Some [] }

-- n seats that are not the first, from this worker on
abbrev pub others : TableId → Origin → ℕ → ℕ → List SeatView
others lock o from zero = []
others lock o from (suc n) = new_seat lock o from 0 ∷ others lock o (from + 1) n

-- the seats of n workers, from 1 on
abbrev pub new_seats : TableId → Origin → ℕ → List SeatView
new_seats lock o n = new_seat lock o 1 n ∷ others lock o 2 (n - 1)

-- the locked value has no entries yet, and has not failed
pub record IsNew (k : Kept) : Type 0 where
  pub count : k.count ≡ 0
  pub failed : k.failed ≡ false
  pub told : IfSome k.told (λ list. list ≡ [])

-- ---- one turn

-- What a seat finds in its turn: what it saw begins the list that is told, in which the worker's entries are those of
-- its turns, each once, at their places; all its turns have places up to the number of entries; and if one was refused,
-- it has failed.
pub record FindsFor (k : Kept) (s : SeatView) : Type 0 where
  pub long : IfSome k.told (λ list. length list ≡ k.count)
  pub begins : IfSome k.told (Begins s.seen)
  pub own_before : IfSome k.told (λ list. own s.worker list ≡ made s.turns)
  pub past : NoneLater k.count s.turns
  pub refused : any_turn is_refused s.turns ≡ true → k.failed ≡ true

-- the seat after one turn more, where these entries are told
abbrev pub turned_seat : Turn → Option (List Entry) → SeatView → SeatView
turned_seat t told s = record s { turns = s.turns ++ t ∷ []; seen = told }

-- One turn of a seat: the locked value as it was found and as it was left, what was done with it, and what the seat
-- shows then. The turn's place is the number of entries after it, so turns stand in the order of their places.
pub record Took {L A : Type 0} (kept : L → Kept) (last : L → Note) (did : ℕ → L → A → L → Type 0) (s t : SeatView)
    (reply : A) : Type 0 where
  pub found : L
  pub left : L
  pub done : did s.worker found reply left
  pub may : MayNote s.worker (kept found).failed (last left)
  pub tells : Tells (after (last left) (kept found)) (kept left)
  pub origin : (kept found).origin ≡ s.origin
  pub finds : FindsFor (kept found) s
  pub turned : t
      ≡ turned_seat (turn ((kept found).count + more (last left)) (last left)) (kept left).told s
  pub long : IfSome (kept left).told (λ list. length list ≡ (kept found).count + more (last left))
  pub own_after : IfSome (kept left).told (λ list. own s.worker list ≡ made t.turns)

-- ---- seats as the lock closes

-- all seats of a lock, in the order of their workers. The first knows how many there are
pub record AreAll (lock : TableId) (seats : List SeatView) : Type 0 where
  pub some_seat : 0 < length seats
  pub each : (i : ℕ) (s : SeatView) → get_elem? seats i ≡ some s → (s.lock ≡ lock) × (s.worker ≡ i + 1)
  pub first : (s : SeatView) → get_elem? seats 0 ≡ some s → s.opened ≡ length seats

abbrev pub any_seat : (Note → Bool) → List SeatView → Bool
any_seat f [] = false
any_seat f (s ∷ seats) = any_turn f s.turns || any_seat f seats

-- the list begins with what the seat saw, and the worker's entries in it are those of its turns
abbrev pub AgreesWith : List Entry → SeatView → Type 0
AgreesWith list s = Begins s.seen list × (own s.worker list ≡ made s.turns)

-- no entry is of a worker but those from 1 to n
abbrev pub IsOfWorkers : ℕ → List Entry → Type 0
IsOfWorkers n list = (worker : ℕ) → (worker ≡ 0) ⊎ (n < worker) → own worker list ≡ []

-- What the locked value tells as all seats have come back: its list agrees with all of them and has no other entries,
-- and it has failed exactly where a turn of one of them was refused.
pub record Closes (seats : List SeatView) (k : Kept) : Type 0 where
  pub origin : (s : SeatView) → get_elem? seats 0 ≡ some s → s.origin ≡ k.origin
  pub long : IfSome k.told (λ list. length list ≡ k.count)
  pub agrees : IfSome k.told (λ list. AllByRecursion (AgreesWith list) seats)
  pub workers : IfSome k.told (IsOfWorkers (length seats))
  pub past : AllByRecursion (λ s. NoneLater k.count s.turns) seats
  pub failed : k.failed ≡ any_seat is_refused seats
  pub found : any_seat found_failed seats ≡ true → k.failed ≡ true
