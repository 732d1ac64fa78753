-- What holds of the roster of a server, and what follows for its meta topics.
use Rattle.std.specs.Prelude.{◌≡◌, ◌≢◌, ◌<◌, ◌≤◌, ◌<ℤ◌, ℕ, List, [], ◌∷◌, ◌++◌, length, map, Some}
use Rattle.std.specs.List.{AllByRecursion, flat_map}
use Rattle.std.specs.List.Sorted.{IsPermutation}
use Rattle.nt_rules.specs.Limits.{most_bytes}
use Rattle.nt_rules.specs.declared.roster.ConnRow.{ConnRow}
use Rattle.nt_rules.specs.declared.roster.Roster.{Roster}
use Rattle.nt_rules.specs.meta.Order.{ordered}
use Rattle.nt_rules.specs.meta.Meta.{IsNumbered, metas, named_in, meta_named, meta_bytes}

-- the relation holds of each item and each one after it
abbrev pub Pairwise : {X : Type 0} → (X → X → Type 0) → List X → Type 0
Pairwise R [] = Unit {0}
Pairwise R (x ∷ xs) = AllByRecursion (R x) xs × Pairwise R xs

-- connections stand by rising number and topics by rising id, and their names differ
pub record IsRoster (r : Roster) : Type 0 where
  pub numbered : IsNumbered r
  pub by_number : Pairwise (λ a b. a.conn < b.conn) r.conns
  pub by_id : Pairwise (λ a b. a.id < b.id) r.topics
  pub clients_differ : Pairwise (λ a b. a.name ≢ b.name) r.conns
  pub topics_differ : Pairwise (λ a b. a.name ≢ b.name) r.topics

-- connections stand by rising number, and the publishers and the subscriptions of each by rising uid
pub record IsInOrder (r : Roster) : Type 0 where
  pub conns : Pairwise (λ a b. a.conn < b.conn) r.conns
  pub pubs : AllByRecursion (λ c. Pairwise (λ a b. a.uid <ℤ b.uid) c.pubs) r.conns
  pub subs : AllByRecursion (λ c. Pairwise (λ a b. a.uid <ℤ b.uid) c.subs) r.conns

-- meta topics stand by rising id
abbrev pub AreById : Roster → Type 0
AreById r = Pairwise (λ a b. a.id < b.id) (metas r)

-- each of them is the one that its name finds, with the rows as they stand
abbrev pub AreFound : Roster → Type 0
AreFound r = AllByRecursion (λ m. named_in r m.name ≡ Some m) (metas r)

-- and with the rows in order
abbrev pub AreFoundInOrder : Roster → Type 0
AreFoundInOrder r = AllByRecursion (λ m. meta_named r m.name ≡ Some m) (metas (ordered r))

-- the value of each is the one that the roster has under its name, whose rows are put in order for it
abbrev pub HaveTheirValues : Roster → Type 0
HaveTheirValues r = AllByRecursion (λ m. meta_bytes r m.name ≡ Some m.bytes) (metas r)

-- the same connection, with its publishers and its subscriptions in another order
pub record IsReordered (c d : ConnRow) : Type 0 where
  pub conn : d.conn ≡ c.conn
  pub name : d.name ≡ c.name
  pub pubs : IsPermutation c.pubs d.pubs
  pub subs : IsPermutation c.subs d.subs

-- a roster with the same rows in another order, and none more or less
pub record HasSameRows (r s : Roster) : Type 0 where
  pub reordered : ConnRow → ConnRow
  pub each : (c : ConnRow) → IsReordered c (reordered c)
  pub conns : IsPermutation (map reordered r.conns) s.conns
  pub topics : s.topics ≡ r.topics

-- a prefix of some spellings that is short enough, and no longer prefix is
pub record IsLongestPrefix (all prefix : List (List ℕ)) : Type 0 where
  pub rest : List (List ℕ)
  pub whole : all ≡ prefix ++ rest
  pub within : length (flat_map (λ x. x) prefix) ≤ most_bytes
  pub longest : (other back : List (List ℕ)) → all ≡ other ++ back
      → length (flat_map (λ x. x) other) ≤ most_bytes → length other ≤ length prefix
