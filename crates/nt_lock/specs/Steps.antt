-- What each kind of step makes of a seat's view, and what it tells.
use Rattle.std.specs.Prelude.{◌≡◌, ◌≢◌, ℕ, ◌+◌, ◌%◌, ◌^◌, List, [], ◌∷◌, ◌++◌, length, Option, Some, None, IfSome}
use Rattle.std.specs.List.{AllByRecursion}
use Rattle.atomic_table.specs.Table.{Me, Step, rest}
use Rattle.nt_rules.specs.declared.act.Entry.{Entry}
use Rattle.nt_lock.specs.declared.view.Note.{Note}
use Rattle.nt_lock.specs.declared.view.Turn.{Turn}
use Rattle.nt_lock.specs.declared.view.Kept.{Kept}
use Rattle.nt_lock.specs.declared.view.Stage.{Stage}
use Rattle.nt_lock.specs.declared.view.Stage.TheVariants.{Idle, Waiting, Entered}
use Rattle.nt_lock.specs.declared.view.Hand.{Hand}
use Rattle.nt_lock.specs.declared.view.Known.{Known}
use Rattle.nt_lock.specs.declared.view.Origin.{Origin}
use Rattle.nt_lock.specs.declared.view.View.{View}
use Rattle.nt_lock.specs.Turns.{turn}
use Rattle.nt_lock.specs.Notes.{more, after}
use Rattle.nt_lock.specs.Knowledge.{Agrees, Finds}

abbrev pub view_of : Origin → Stage → Known → View
view_of origin stage known = record { origin = origin; stage = stage; known = known }

abbrev pub hand_of : ℕ → List Turn → Option (List Entry) → Hand
hand_of worker turns seen = record { worker = worker; turns = turns; seen = seen }

abbrev pub known_of : ℕ → List Hand → Known
known_of opened hands = record { opened = opened; hands = hands }

-- ---- seats come and go

-- a worker before its first turn
abbrev pub new_hand : ℕ → Hand
new_hand worker = hand_of worker [] (Some [])

-- the first seat, as the lock opens
abbrev pub opener : Origin → View
opener o = view_of o Idle (known_of 1 (new_hand 1 ∷ []))

-- the first seat, after it has made one more
abbrev pub opener_after : View → View
opener_after v = view_of v.origin v.stage (known_of (v.known.opened + 1) v.known.hands)

-- the seat that it made, with the next number
abbrev pub newcomer : View → View
newcomer v = view_of v.origin Idle (known_of 0 (new_hand (v.known.opened + 1) ∷ []))

-- a seat with the hands of another that it took in
abbrev pub merged : View → View → View
merged v w = view_of v.origin v.stage (known_of v.known.opened (v.known.hands ++ w.known.hands))

abbrev pub no_origin : Origin
no_origin = record { start = record { permits = 0; saved = [] }; taken = None; faults = 0 }

-- the seat that was taken in
abbrev pub spent : View
spent = view_of no_origin Idle (known_of 0 [])

-- ---- a turn is noted

-- a worker's hand after a turn, where these entries are told
abbrev pub turned_hand : Turn → Option (List Entry) → Hand → Hand
turned_hand t told h = hand_of h.worker (h.turns ++ t ∷ []) told

-- the seat's own hand is the first
abbrev pub turned_hands : Turn → Option (List Entry) → List Hand → List Hand
turned_hands t told [] = []
turned_hands t told (h ∷ hs) = turned_hand t told h ∷ hs

-- what a seat knows after a turn, where k was kept before it
abbrev pub turned : Note → Kept → Option (List Entry) → Known → Known
turned note k told known = known_of known.opened (turned_hands (turn (k.count + more note) note) told known.hands)

-- ---- the steps: each says of the seat before, the number found and the seat after

module _ {L : Type 0} where
  -- the seat waits with the number that it drew
  abbrev pub drawn : Step L → Me L View → ℕ → Me L View → Type 0
  drawn st m r m' = (n : ℕ) × (r ≡ n % 2 ^ 64) × (m' ≡ (view_of m.0.origin (Waiting n) m.0.known, m.1))

  -- the seat has its turn, and the locked value: what this tells agrees with what the seat knows
  pub record Enters (kept : L → Kept) (n : ℕ) (m m' : Me L View) : Type 0 where
    pub value : L
    pub now_is : m' ≡ (view_of m.0.origin (Entered n (kept value)) m.0.known, (0, value) ∷ m.1)
    pub origin : (kept value).origin ≡ m.0.origin
    pub finds : Finds (kept value) m.0.known

  -- where the seat's number is served it has its turn, and else it goes on waiting
  abbrev pub entered : (L → Kept) → Step L → Me L View → ℕ → Me L View → Type 0
  entered kept st m r m' =
      (n : ℕ) → m.0.stage ≡ Waiting n → (r ≡ n % 2 ^ 64 → Enters kept n m m') × (r ≢ n % 2 ^ 64 → m' ≡ m)

  -- the turn is noted at its place, and what is told then agrees with it
  pub record Notes (kept : L → Kept) (last : L → Note) (n : ℕ) (k : Kept) (value : L) (m m' : Me L View)
      : Type 0 where
    pub now_is : m'
        ≡ (view_of m.0.origin (Entered n (kept value)) (turned (last value) k (kept value).told m.0.known), m.1)
    pub long : IfSome (kept value).told (λ list. length list ≡ (after (last value) k).count)
    pub agrees : IfSome (kept value).told (λ list. AllByRecursion (Agrees list) m'.0.known.hands)

  abbrev pub counted : (L → Kept) → (L → Note) → Step L → Me L View → ℕ → Me L View → Type 0
  counted kept last st m r m' =
      (n : ℕ) (k : Kept) (value : L) → m.0.stage ≡ Entered n k → m.1 ≡ (0, value) ∷ []
      → Notes kept last n k value m m'

  -- the seat has no ticket, and the locked value is back in its slot
  abbrev pub left : Step L → Me L View → ℕ → Me L View → Type 0
  left st m r m' = m' ≡ (view_of m.0.origin Idle m.0.known, rest m.1)
