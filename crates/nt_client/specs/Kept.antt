-- The topics that a client holds as its code keeps them, and the way back from their changes.
use Rattle.std.specs.Prelude.{◌≡◌, ◌<◌, ◌≤◌, ◌+◌, ◌-◌, ◌<ℤ◌, ◌&&◌, ℕ, zero, suc, ℤ, Bool, true, false, List, [], ◌∷◌, reverse, insert, remove, vec_len, vec_capacity, IsTrue}
use Rattle.std.specs.List.{list_any, AllByRecursion}
use Rattle.std.specs.Prelude.{Vec}
use Rattle.nt_rules.specs.declared.held.Held.{Held}
use Rattle.nt_rules.specs.telling.Told.{is_called}
use Rattle.nt_client.specs.declared.topics.Topics.{Topics}
use Rattle.nt_client.specs.declared.undo.Undo.{Undo}
use Rattle.nt_client.specs.declared.undo.Undo.TheVariants.{Added, Removed, Props, Value}
use Rattle.nt_client.specs.Names.{AreInOrder, IsNoted}
use Rattle.std.specs.Ordering.{int_eq}
use Rattle.nt_client.specs.Sorted.{AreAbove, Rise}
use Rattle.nt_client.specs.declared.names.Names.{Names}

abbrev pub id_of : Held → ℤ
id_of h = h.id

-- each topic's id is noted under its name
abbrev pub AreNoted : Names → List Held → Type 0
AreNoted names held = AllByRecursion (λ h. IsNoted names h.name h.id) held

-- topics by rising id, each of which is found by its name. More may be noted than is held
pub record IsKept (names : Names) (held : List Held) : Type 0 where
  pub rising : Rise id_of held
  pub noted : AreNoted names held
  pub in_order : AreInOrder names

-- topics by rising id, each of which is found by its name where it is said that they are noted
pub record IsStored (t : Topics) : Type 0 where
  pub rising : Rise id_of t.held.items
  pub noted : IsTrue t.is_noted → AreNoted t.names t.held.items
  pub in_order : AreInOrder t.names

-- the topic at this index is the last of this name
abbrev pub IsLastAt : List ℕ → List Held → ℕ → Type 0
IsLastAt name [] i = ⊥
IsLastAt name (h ∷ held) zero = (is_called name h ≡ true) × (list_any (is_called name) held ≡ false)
IsLastAt name (h ∷ held) (suc i) = IsLastAt name held i

-- what names and ids say of a topic
abbrev pub outline : Held → ℤ × List ℕ
outline h = (h.id, h.name)

-- ---- changes that can be undone

-- a change of the topic at an index
abbrev pub at_index : (Held → Held) → ℕ → List Held → List Held
at_index f i [] = []
at_index f zero (h ∷ held) = f h ∷ held
at_index f (suc i) (h ∷ held) = h ∷ at_index f i held

-- what was before a change
abbrev pub undo : Undo → List Held → List Held
undo (Added i) held = remove held i
undo (Removed i h) held = insert held i h
undo (Props i props) held = at_index (λ h. record h { props = props }) i held
undo (Value i value) held = at_index (λ h. record h { value = value }) i held

-- what was before many, the newest of which stands first
abbrev pub undone : List Undo → List Held → List Held
undone [] held = held
undone (u ∷ changes) held = undone changes (undo u held)

-- each stands where it can be undone: within the length, and what was removed with room to come back
abbrev pub CanUndo : ℕ → ℕ → List Undo → Type 0
CanUndo capacity n [] = Unit {0}
CanUndo capacity n (Added i ∷ changes) = (i < n) × CanUndo capacity (n - 1) changes
CanUndo capacity n (Removed i h ∷ changes) = (i ≤ n) × (n < capacity) × CanUndo capacity (n + 1) changes
CanUndo capacity n (Props i props ∷ changes) = (i < n) × CanUndo capacity n changes
CanUndo capacity n (Value i value ∷ changes) = (i < n) × CanUndo capacity n changes

-- the way back from topics, as their changes are noted, the newest last
abbrev pub before : List Undo → List Held → List Held
before log held = undone (reverse log) held

abbrev pub IsWayBack : {Z : Type 0} → Vec Held Z → List Undo → Type 0
IsWayBack held log = CanUndo (vec_capacity held) (vec_len held) (reverse log)

-- the topics lead back to where they led before
pub record LeadsBack {Z : Type 0} (held : Vec Held Z) (log : List Undo) (held-2 : Vec Held Z) (log-2 : List Undo) : Type 0 where
  pub back : before log-2 held-2.items ≡ before log held.items
  pub way : IsWayBack held log → IsWayBack held-2 log-2

-- the topics are kept and lead back
pub record GoesOn (t : Topics) (log : List Undo) (t-2 : Topics) (log-2 : List Undo) : Type 0 where
  pub kept : IsKept t-2.names t-2.held.items
  pub leads : LeadsBack t.held log t-2.held log-2

-- ---- a topic of an id and a name

abbrev pub is_of : ℤ → List ℕ → Held → Bool
is_of id name h = int_eq h.id id && is_called name h

abbrev pub IsCalledNowhere : ℤ → List ℕ → List Held → Type 0
IsCalledNowhere id name held = list_any (is_of id name) held ≡ false

abbrev pub IsCalledAt : ℤ → List ℕ → List Held → ℕ → Type 0
IsCalledAt id name [] i = ⊥
IsCalledAt id name (h ∷ held) zero = (h.id ≡ id) × (is_called name h ≡ true) × AreAbove id_of id held
IsCalledAt id name (h ∷ held) (suc i) = (h.id <ℤ id) × IsCalledAt id name held i
