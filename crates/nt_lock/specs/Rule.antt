-- The rule of the lock: what holds between any two steps.
use Rattle.std.specs.Prelude.{◌≡◌, ◌≢◌, ℕ, ◌%◌, ◌^◌, ◌⊎◌, List, [], ◌∷◌, length, map, None, slice_index}
use mathlib.Core.Option as maybe
use mathlib.Core.Option.{some}
use lib.ListN.{get_elem?}
use Rattle.atomic_table.specs.Table.{State}
use Rattle.nt_lock.specs.declared.view.Kept.{Kept}
use Rattle.nt_lock.specs.declared.view.Stage.{Stage}
use Rattle.nt_lock.specs.declared.view.Stage.TheVariants.{Idle, Entered}
use Rattle.nt_lock.specs.declared.view.Known.{Known}
use Rattle.nt_lock.specs.declared.view.Origin.{Origin}
use Rattle.nt_lock.specs.declared.view.View.{View}
use Rattle.nt_lock.specs.Tickets.{inside, Queue}
use Rattle.nt_lock.specs.Knowledge.{Fits, Named}

abbrev pub stage_of : View → Stage
stage_of v = v.stage

abbrev pub known_in : View → Known
known_in v = v.known

-- a seat that no other took in shows what there was as the lock opened
abbrev pub Shows : Origin → View → Type 0
Shows o v = v.known.hands ≢ [] → v.origin ≡ o

-- a seat that another took in has no ticket
abbrev pub IsIdleIfSpent : View → Type 0
IsIdleIfSpent v = v.known.hands ≡ [] → v.stage ≡ Idle

module _ {L : Type 0} (kept : L → Kept) (o : Origin) where
  -- the locked value is in its slot, and nobody has its turn
  pub record IsHome (counted : ℕ) (homes : List (maybe.Option L)) (stages : List Stage) (knowns : List Known)
      : Type 0 where
    pub value : L
    pub here : homes ≡ some value ∷ []
    pub origin : (kept value).origin ≡ o
    pub nobody : (j : ℕ) (x : Stage) → get_elem? stages j ≡ some x → inside x ≡ None
    pub fits : Fits knowns counted (kept value)

  -- a seat has its turn, and the locked value with it
  pub record IsAway (now counted : ℕ) (homes : List (maybe.Option L)) (stages : List Stage) (knowns : List Known)
      : Type 0 where
    pub seat : ℕ
    pub keeps : Kept
    pub gone : homes ≡ maybe.none ∷ []
    pub origin : keeps.origin ≡ o
    pub there : get_elem? stages seat ≡ some (Entered now keeps)
    pub fits : Fits knowns counted keeps

  abbrev pub IsPlaced : ℕ → ℕ → List (maybe.Option L) → List Stage → List Known → Type 0
  IsPlaced now counted homes stages knowns =
      IsHome counted homes stages knowns ⊎ IsAway now counted homes stages knowns

  -- word 0 is the ticket that is drawn next, word 1 the one that is served, word 2 the count of entries
  pub record LockRule (s : State L View) : Type 0 where
    pub next : ℕ
    pub now : ℕ
    pub wide : length s.words ≡ 3
    pub ticket : slice_index s.words 0 ≡ next % 2 ^ 64
    pub serving : slice_index s.words 1 ≡ now % 2 ^ 64
    pub queue : Queue next now (map stage_of s.views)
    pub named : Named (map known_in s.views)
    pub spent : (j : ℕ) (v : View) → get_elem? s.views j ≡ some v → IsIdleIfSpent v
    pub origins : (j : ℕ) (v : View) → get_elem? s.views j ≡ some v → Shows o v
    pub slot : IsPlaced now (slice_index s.words 2) s.homes (map stage_of s.views) (map known_in s.views)
