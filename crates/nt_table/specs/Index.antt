-- What an index of topics says, and when it is right.
use Rattle.std.specs.Prelude.{◌≡◌, ◌+◌, ◌<◌, ℕ, ℤ, Bool, true, false, List, [], ◌∷◌, Option, Some, None, ◌==◌, nat_eq, if◌then◌else◌}
use Rattle.std.specs.Ordering.{int_eq}
use Rattle.std.specs.Option.{is_some}
use Rattle.std.specs.List.{Contains}
use Rattle.std.specs.HashMap.{HashMap, get, get_by_text, hash_map_len}
use Rattle.nt_table.specs.declared.index.Index.{Index}
use Rattle.nt_rules.specs.declared.topic.Topic.{Topic}
use Rattle.nt_rules.specs.declared.topic.Pub.{Pub}
use Rattle.nt_rules.specs.Sorted.{RisesFrom}
use Rattle.nt_rules.specs.topics.Topics.{is_publisher, is_named, has_publisher, has_conn, publishers_of, without_conn, outlives}

abbrev pub one : Bool → ℕ
one b = if b then 1 else 0

-- the id that it says a name has
abbrev pub id_named : Index → List ℕ → Option ℕ
id_named index name = get_by_text index.names name

abbrev pub id_in : {S : Type 0} → Option (HashMap ℤ ℕ S) → ℤ → Option ℕ
id_in None uid = None
id_in (Some ids) uid = get int_eq ids uid

-- the id that it says a publisher's topic has
abbrev pub id_of : Index → ℕ → ℤ → Option ℕ
id_of index conn uid = id_in (get nat_eq index.conns conn) uid

abbrev pub count_in : {S : Type 0} → Option (HashMap ℤ ℕ S) → ℕ
count_in None = 0
count_in (Some ids) = hash_map_len ids

-- how many publishers it says a connection has
abbrev pub count_of : Index → ℕ → ℕ
count_of index conn = count_in (get nat_eq index.conns conn)

-- ---- an index that is right

-- whether a topic has the id that was found, if any
abbrev pub is_at : Option ℕ → Topic → Bool
is_at None t = false
is_at (Some id) t = id == t.id

-- how many of the publishers pass a test
abbrev pub number : (Pub → Bool) → List Pub → ℕ
number test [] = 0
number test (p ∷ pubs) = one (test p) + number test pubs

abbrev pub total : (Pub → Bool) → List Topic → ℕ
total test [] = 0
total test (t ∷ topics) = number test t.pubs + total test topics

-- the ids rise, from no less than this one
abbrev pub IsRising : ℕ → List Topic → Type 0
IsRising least topics = RisesFrom (λ t. t.id) least topics

-- a topic that has its own name and publishers, and no others, in what names and publishers are said to have
pub record IsFiled (names : List ℕ → Option ℕ) (ids : ℕ → ℤ → Option ℕ) (next : ℕ) (t : Topic) : Type 0 where
  pub below : t.id < next
  pub named : (name : List ℕ) → is_named name t ≡ is_at (names name) t
  pub published : (conn : ℕ) (uid : ℤ) → number (is_publisher conn uid) t.pubs ≡ one (is_at (ids conn uid) t)

abbrev pub AreFiled : (List ℕ → Option ℕ) → (ℕ → ℤ → Option ℕ) → ℕ → List Topic → Type 0
AreFiled names ids next [] = Unit {0}
AreFiled names ids next (t ∷ topics) = IsFiled names ids next t × AreFiled names ids next topics

-- topics by rising id below the next one, of which the index says all there is
pub record IsIndexed (index : Index) (topics : List Topic) (next : ℕ) : Type 0 where
  pub rising : IsRising 0 topics
  pub filed : AreFiled (id_named index) (id_of index) next topics
  pub names_below : (name : List ℕ) (id : ℕ) → id_named index name ≡ Some id → id < next
  pub ids_below : (conn : ℕ) (uid : ℤ) (id : ℕ) → id_of index conn uid ≡ Some id → id < next
  pub held : (conn : ℕ) (uid : ℤ) → total (is_publisher conn uid) topics ≡ one (is_some (id_of index conn uid))
  pub counted : (conn : ℕ) → count_of index conn ≡ publishers_of conn topics

-- what is right stays right
abbrev pub StaysIndexed : Index → List Topic → Index → List Topic → Type 0
StaysIndexed index topics index-2 topics-2 = (next : ℕ) → IsIndexed index topics next → IsIndexed index-2 topics-2 next

-- ---- the end of a connection

-- what it leaves of a topic
abbrev pub left_by : ℕ → Topic → Option Topic
left_by conn t = if outlives conn t then Some (without_conn conn t) else None

-- a topic has those of the connection's publishers that are said to be there, and no others of it
abbrev pub AreSaid : (ℤ → Option ℕ) → ℕ → List Topic → Type 0
AreSaid ids conn [] = Unit {0}
AreSaid ids conn (t ∷ topics) =
    ((uid : ℤ) → has_publisher conn uid t ≡ is_at (ids uid) t) × AreSaid ids conn topics

-- each topic to which the connection publishes has one of these ids
abbrev pub AreAmong : List ℕ → ℕ → List Topic → Type 0
AreAmong ids conn [] = Unit {0}
AreAmong ids conn (t ∷ topics) = (has_conn conn t ≡ true → Contains ids t.id) × AreAmong ids conn topics
