-- What the lock's own functions say of a seat while it has its turn.
use Rattle.std.specs.Prelude.{◌≡◌, ℕ, ◌+◌, ◌<◌, ◌^◌, List, [], ◌∷◌, ◌++◌, length, map, reverse, true, IfSome}
use Rattle.std.specs.List.{AllByRecursion}
use mathlib.Core.Option.{some}
use lib.ListN.{get_elem?}
use Rattle.atomic_table.specs.Table.{Me}
use Rattle.nt_lock.specs.declared.view.Note.{Note}
use Rattle.nt_lock.specs.declared.view.Kept.{Kept}
use Rattle.nt_lock.specs.declared.view.Hand.{Hand}
use Rattle.nt_lock.specs.declared.view.Origin.{Origin}
use Rattle.nt_lock.specs.declared.view.Stage.TheVariants.{Idle, Entered}
use Rattle.nt_lock.specs.declared.view.View.{View}
use Rattle.nt_lock.specs.Notes.{is_made, more, after, MayNote, Tells}
use Rattle.nt_lock.specs.Knowledge.{Agrees, Finds}
use Rattle.nt_lock.specs.Steps.{view_of, known_of, new_hand, turned}
use Rattle.nt_lock.specs.Seats.{SeatView, seat_hand, idle_view}

-- the pass of a seat between its turns
abbrev pub idle_pass : {L : Type 0} → SeatView → Me L View
idle_pass s = (idle_view s, [])

-- the first pass, before its first turn, where there are n seats
abbrev pub first_pass : {L : Type 0} → Origin → ℕ → Me L View
first_pass o n = (view_of o Idle (known_of n (new_hand 1 ∷ [])), [])

-- the pass has no ticket, no slot, and the hand of one worker
pub record IsIdle {L : Type 0} (m : Me L View) (worker : ℕ) : Type 0 where
  pub stage : m.0.stage ≡ Idle
  pub slot : m.1 ≡ []
  pub hand : Hand
  pub hands : m.0.known.hands ≡ hand ∷ []
  pub own_hand : hand.worker ≡ worker

-- the pass has its turn, which it entered from m, and the locked value
pub record HasEntered {L : Type 0} (kept : L → Kept) (m m' : Me L View) : Type 0 where
  pub number_is : ℕ
  pub value : L
  pub now_is : m' ≡ (view_of m.0.origin (Entered number_is (kept value)) m.0.known, (0, value) ∷ [])
  pub origin : (kept value).origin ≡ m.0.origin
  pub finds : Finds (kept value) m.0.known

-- a pass with this value in its slot
abbrev pub holding : {L : Type 0} → L → Me L View → Me L View
holding x m = (m.0, (0, x) ∷ [])

-- what was done with the value in the slot
pub record HasDone {L A : Type 0} (kept : L → Kept) (last : L → Note) (did : ℕ → L → A → L → Type 0) (worker : ℕ)
    (found : L) (reply : A) (left : L) : Type 0 where
  pub done : did worker found reply left
  pub may : MayNote worker (kept found).failed (last left)
  pub tells : Tells (after (last left) (kept found)) (kept left)
  pub room : is_made (last left) ≡ true → (kept found).count < 2 ^ 63

-- one turn of a pass
pub record TookTurn {L A : Type 0} (kept : L → Kept) (last : L → Note) (did : ℕ → L → A → L → Type 0) (worker : ℕ)
    (m m' : Me L View) (reply : A) : Type 0 where
  pub found : L
  pub left : L
  pub what : HasDone kept last did worker found reply left
  pub origin : (kept found).origin ≡ m.0.origin
  pub finds : Finds (kept found) m.0.known
  pub now_is : m' ≡ (view_of m.0.origin Idle (turned (last left) (kept found) (kept left).told m.0.known), [])
  pub long : IfSome (kept left).told (λ list. length list ≡ (kept found).count + more (last left))
  pub agrees : IfSome (kept left).told (λ list. AllByRecursion (Agrees list) m'.0.known.hands)

-- A pass that took in some of the seats, the first of which is its own: those that are left stand in the other order.
pub record Gathers {L : Type 0} (all left : List SeatView) (m : Me L View) : Type 0 where
  pub taken : List SeatView
  pub parts : all ≡ taken ++ reverse left
  pub some_taken : 0 < length taken
  pub stage : m.0.stage ≡ Idle
  pub slot : m.1 ≡ []
  pub hands : m.0.known.hands ≡ map seat_hand taken
  pub opened : m.0.known.opened ≡ length all
  pub origin : (s : SeatView) → get_elem? all 0 ≡ some s → s.origin ≡ m.0.origin
