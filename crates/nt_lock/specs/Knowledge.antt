-- What workers know of a history.
use Rattle.std.specs.Prelude.{◌≡◌, ℕ, ◌<◌, ◌≤◌, List, [], length, Bool, true, IfSome, sum_by}
use Rattle.std.specs.List.{AllByRecursion}
use mathlib.Core.Option.{some}
use lib.ListN.{get_elem?}
use Rattle.nt_rules.specs.declared.act.Entry.{Entry}
use Rattle.nt_lock.specs.declared.view.Hand.{Hand}
use Rattle.nt_lock.specs.declared.view.Kept.{Kept}
use Rattle.nt_lock.specs.declared.view.Known.{Known}
use Rattle.nt_lock.specs.Turns.{Begins, own, made, NoneLater, is_refused, found_failed, any_hand, times}

-- a list begins with what the worker saw, and the worker's entries in it are those of its turns, each once, at their
-- places
abbrev pub Agrees : List Entry → Hand → Type 0
Agrees list h = Begins h.seen list × (own h.worker list ≡ made h.turns)

-- all turns of the worker were made by then
abbrev pub IsPast : ℕ → Hand → Type 0
IsPast place h = NoneLater place h.turns

-- how often a worker stands among the hands of a seat
abbrev pub times_in : ℕ → Known → ℕ
times_in worker k = times worker k.hands

-- the list agrees with all hands, and names no worker of whom there is no hand
pub record AllAgree (knowns : List Known) (list : List Entry) : Type 0 where
  pub each : (j : ℕ) (k : Known) → get_elem? knowns j ≡ some k → AllByRecursion (Agrees list) k.hands
  pub others : (worker : ℕ) → sum_by (times_in worker) knowns ≡ 0 → own worker list ≡ []

-- it has failed exactly where a turn of a hand was refused, and a look found so only then
pub record Flagged (knowns : List Known) (failed : Bool) : Type 0 where
  pub why : failed ≡ true
      → (j : ℕ) × (k : Known) × (get_elem? knowns j ≡ some k) × (any_hand is_refused k.hands ≡ true)
  pub refused : (j : ℕ) (k : Known) → get_elem? knowns j ≡ some k → any_hand is_refused k.hands ≡ true → failed ≡ true
  pub found : (j : ℕ) (k : Known) → get_elem? knowns j ≡ some k → any_hand found_failed k.hands ≡ true → failed ≡ true

-- what is kept has as many entries as were counted, and agrees with all that workers know
pub record Fits (knowns : List Known) (counted : ℕ) (k : Kept) : Type 0 where
  pub count : k.count ≡ counted
  pub long : IfSome k.told (λ list. length list ≡ k.count)
  pub agree : IfSome k.told (AllAgree knowns)
  pub past : (j : ℕ) (x : Known) → get_elem? knowns j ≡ some x → AllByRecursion (IsPast k.count) x.hands
  pub flagged : Flagged knowns k.failed

-- the same of the hands of one seat, as it is told when it has its turn
pub record Finds (k : Kept) (known : Known) : Type 0 where
  pub long : IfSome k.told (λ list. length list ≡ k.count)
  pub agrees : IfSome k.told (λ list. AllByRecursion (Agrees list) known.hands)
  pub past : AllByRecursion (IsPast k.count) known.hands
  pub refused : any_hand is_refused known.hands ≡ true → k.failed ≡ true

-- workers are numbered from 1 as their seats are made, no worker stands twice, and the first seat counts the seats
pub record Named (knowns : List Known) : Type 0 where
  pub once : (worker : ℕ) → sum_by (times_in worker) knowns ≤ 1
  pub no_zero : sum_by (times_in 0) knowns ≡ 0
  pub none_above : (worker : ℕ) → length knowns < worker → sum_by (times_in worker) knowns ≡ 0
  pub counts : (j : ℕ) (k : Known) → get_elem? knowns j ≡ some k → 0 < k.opened
      → (j ≡ 0) × (k.opened ≡ length knowns)
