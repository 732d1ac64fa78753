-- The order of turns: tickets are drawn by number, and served in that order.
use Rattle.std.specs.Prelude.{◌≡◌, ℕ, ◌+◌, ◌<◌, ◌≤◌, List, length, Option, Some, None, sum_by}
use mathlib.Core.Option.{some}
use lib.ListN.{get_elem?}
use Rattle.nt_lock.specs.declared.view.Kept.{Kept}
use Rattle.nt_lock.specs.declared.view.Stage.{Stage}
use Rattle.nt_lock.specs.declared.view.Stage.TheVariants.{Idle, Waiting, Entered}

-- how many tickets a seat has
abbrev pub tickets : Stage → ℕ
tickets Idle = 0
tickets (Waiting n) = 1
tickets (Entered n k) = 1

-- the number of its ticket
abbrev pub number : Stage → Option ℕ
number Idle = None
number (Waiting n) = Some n
number (Entered n k) = Some n

-- what it keeps, where it has its turn
abbrev pub inside : Stage → Option Kept
inside Idle = None
inside (Waiting n) = None
inside (Entered n k) = Some k

-- a seat has the ticket of this number
abbrev pub IsOut : ℕ → List Stage → Type 0
IsOut n stages = (j : ℕ) × (x : Stage) × (get_elem? stages j ≡ some x) × (number x ≡ Some n)

-- The tickets from `now`, which is served, up to and without `next`, which is drawn next, are those that seats have,
-- each once, and only the seat with the one that is served may have its turn. The numbers have no bound.
pub record Queue (next now : ℕ) (stages : List Stage) : Type 0 where
  pub total : sum_by tickets stages + now ≡ next
  pub few : length stages ≤ 64
  pub within : (j n : ℕ) (x : Stage) → get_elem? stages j ≡ some x → number x ≡ Some n → (now ≤ n) × (n < next)
  pub all_out : (n : ℕ) → now ≤ n → n < next → IsOut n stages
  pub apart : (i j n : ℕ) (x y : Stage) → get_elem? stages i ≡ some x → get_elem? stages j ≡ some y
      → number x ≡ Some n → number y ≡ Some n → i ≡ j
  pub serves : (j : ℕ) (x : Stage) (k : Kept) → get_elem? stages j ≡ some x → inside x ≡ Some k → x ≡ Entered now k
