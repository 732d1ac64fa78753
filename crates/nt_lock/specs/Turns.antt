-- Lists of entries and of turns.
use Rattle.std.specs.Prelude.{◌≡◌, ℕ, ◌+◌, ◌≤◌, List, [], ◌∷◌, ◌++◌, Option, Some, Bool, true, false, if◌then◌else◌, ◌==◌, ◌||◌}
use Rattle.nt_rules.specs.declared.act.Entry.{Entry}
use Rattle.nt_lock.specs.declared.view.Note.{Note}
use Rattle.nt_lock.specs.declared.view.Note.TheVariants.{Made, Refused, Looked, Unmarked}
use Rattle.nt_lock.specs.declared.view.Turn.{Turn}
use Rattle.nt_lock.specs.declared.view.Hand.{Hand}

-- ---- entries, the newest last

-- the list begins with these
abbrev pub StartsWith : List Entry → List Entry → Type 0
StartsWith list first = (more : List Entry) × (list ≡ first ++ more)

-- what was seen is there, and the list begins with it
abbrev pub Begins : Option (List Entry) → List Entry → Type 0
Begins seen list = (first : List Entry) × (seen ≡ Some first) × StartsWith list first

-- the entries of a worker, each with its place, where so many came before
abbrev pub own_from : ℕ → ℕ → List Entry → List (ℕ × Entry)
own_from before worker [] = []
own_from before worker (e ∷ es) =
    if e.worker == worker
    then (before + 1, e) ∷ own_from (before + 1) worker es
    else own_from (before + 1) worker es

-- the entries of a worker, each with its place, counted from 1
abbrev pub own : ℕ → List Entry → List (ℕ × Entry)
own worker list = own_from 0 worker list

-- ---- turns

abbrev pub turn : ℕ → Note → Turn
turn place note = record { place = place; note = note }

-- the entry that a turn made, with its place
abbrev pub made_in : ℕ → Note → List (ℕ × Entry)
made_in place (Made e) = (place, e) ∷ []
made_in place Refused = []
made_in place (Looked failed) = []
made_in place Unmarked = []

-- the entries that these turns made, each with its place
abbrev pub made : List Turn → List (ℕ × Entry)
made [] = []
made (t ∷ ts) = made_in t.place t.note ++ made ts

-- none of the turns has a later place
abbrev pub NoneLater : ℕ → List Turn → Type 0
NoneLater place [] = Unit {0}
NoneLater place (t ∷ ts) = (t.place ≤ place) × NoneLater place ts

abbrev pub is_refused : Note → Bool
is_refused (Made e) = false
is_refused Refused = true
is_refused (Looked failed) = false
is_refused Unmarked = false

-- a look found that a turn was refused before
abbrev pub found_failed : Note → Bool
found_failed (Made e) = false
found_failed Refused = false
found_failed (Looked failed) = failed
found_failed Unmarked = false

abbrev pub any_turn : (Note → Bool) → List Turn → Bool
any_turn f [] = false
any_turn f (t ∷ ts) = f t.note || any_turn f ts

-- ---- hands

abbrev pub any_hand : (Note → Bool) → List Hand → Bool
any_hand f [] = false
any_hand f (h ∷ hs) = any_turn f h.turns || any_hand f hs

-- how many of the hands are this worker's
abbrev pub times : ℕ → List Hand → ℕ
times worker [] = 0
times worker (h ∷ hs) = (if h.worker == worker then 1 else 0) + times worker hs
