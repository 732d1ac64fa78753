-- The life of a client topic: what the entries that count did to it, and the older values that were put to it
-- (NetworkTables 4.1, "Published Topics" and "Properties").
use Rattle.std.specs.Prelude.{ℕ, ℤ, Bool, List, [], ◌∷◌, ◌++◌, Option, Some, None, is_none, option_map, filter, not, ◌&&◌, ◌+◌, if◌then◌else◌}
use Rattle.std.specs.List.{filter_map}
use Rattle.serde_json.specs.Data.{Data}
use Rattle.nt_values.specs.declared.value.Value.{Value}
use Rattle.nt_topics.specs.Properties.{updated, is_cached}
use Rattle.nt_rules.specs.declared.topic.Pub.{Pub}
use Rattle.nt_rules.specs.declared.topic.Topic.{Topic}
use Rattle.nt_rules.specs.declared.topic.Saved.{Saved}
use Rattle.nt_rules.specs.topics.Puts.{Put, greatest, taken, timed}
use Rattle.nt_rules.specs.topics.Topics.{lives_on, is_publisher, is_of, has_conn, is_turned}

-- a publish that counted: the place of its entry, the connection and the uid
pub record Publishing : Type 0 where
  pub place : ℕ
  pub conn : ℕ
  pub uid : ℤ

-- a change of properties that counted
pub record Setting : Type 0 where
  pub place : ℕ
  pub conn : ℕ
  pub update : Data

-- a life. Its publishings and settings stand oldest first, its puts newest first. It turns where it begins and where an
-- update changes whether it is cached: `puts` are those made since its last turn, at the place `turn`, and
-- `taken_before` those that were taken before it
pub record Life : Type 0 where
  pub id : ℕ
  pub name : List ℕ
  pub typ : List ℕ
  pub props : Data
  pub pubs : List Pub
  pub over : Option ℕ
  pub publishings : List Publishing
  pub settings : List Setting
  pub turn : ℕ
  pub puts : List Put
  pub taken_before : List Put

-- the held put: of a cached topic the greatest since its turn, by time and then by place. One that isn't cached holds
-- none
abbrev pub held_of : Life → Option Put
held_of l = if is_cached l.props then greatest l.puts else None

-- the puts that were taken since the turn, newest first: of a topic that isn't cached all
abbrev pub taken_since_turn : Life → List Put
taken_since_turn l = if is_cached l.props then taken l.puts else l.puts

-- all puts that were taken, newest first
abbrev pub taken_of : Life → List Put
taken_of l = taken_since_turn l ++ l.taken_before

abbrev pub is_living : Life → Bool
is_living l = is_none l.over

-- the topic as it is now
abbrev pub topic_of : Life → Topic
topic_of l =
    record {
      id = l.id;
      name = l.name;
      typ = l.typ;
      props = l.props;
      value = option_map timed (held_of l);
      pubs = l.pubs;
    }

-- the topic of a life that goes on
abbrev pub living_topic : Life → Option Topic
living_topic l = if is_living l then Some (topic_of l) else None

-- the living topics, by rising id
abbrev pub topics : List Life → List Topic
topics lives = filter_map living_topic lives

-- ---- what happens to a life at a place

-- the list with its first item that passes the test changed
abbrev pub at_first : {X : Type 0} → (X → Bool) → (X → X) → List X → List X
at_first test f [] = []
at_first test f (x ∷ xs) = if test x then f x ∷ xs else x ∷ at_first test f xs

-- the first life that goes on and whose topic passes the test, changed
abbrev pub at_living : (Topic → Bool) → (Life → Life) → List Life → List Life
at_living test f lives = at_first (λ l. is_living l && test (topic_of l)) f lives

-- it ends where it has no publisher left and no flag keeps it
abbrev pub or_ended : ℕ → Life → Life
or_ended place l = if lives_on (topic_of l) then l else record l { over = Some place }

abbrev pub with_publishing : ℕ → Pub → Life → Life
with_publishing place p l =
    record l {
      pubs = l.pubs ++ p ∷ [];
      publishings = l.publishings ++ record { place = place; conn = p.conn; uid = p.uid } ∷ [];
    }

-- a life that a publish begins
abbrev pub born : ℕ → ℕ → List ℕ → List ℕ → Data → Pub → Life
born place id name typ props p =
    record {
      id = id;
      name = name;
      typ = typ;
      props = props;
      pubs = p ∷ [];
      over = None;
      publishings = record { place = place; conn = p.conn; uid = p.uid } ∷ [];
      settings = [];
      turn = place;
      puts = [];
      taken_before = [];
    }

abbrev pub without_publisher : ℕ → ℤ → Life → Life
without_publisher conn uid l = record l { pubs = filter (λ p. not (is_publisher conn uid p)) l.pubs }

abbrev pub without_conn : ℕ → Life → Life
without_conn conn l = record l { pubs = filter (λ p. not (is_of conn p)) l.pubs }

-- it turns at a place
abbrev pub turned_at : ℕ → Life → Life
turned_at place l = record l { turn = place; puts = []; taken_before = taken_of l }

-- it turns where this update changes whether it is cached
abbrev pub turned_by : ℕ → Data → Life → Life
turned_by place u l = if is_turned l.props (updated l.props u) then turned_at place l else l

abbrev pub with_setting : ℕ → ℕ → Data → Life → Life
with_setting place conn u l =
    record (turned_by place u l) {
      props = updated l.props u;
      settings = l.settings ++ record { place = place; conn = conn; update = u } ∷ [];
    }

abbrev pub with_a_put : Put → Life → Life
with_a_put p l = record l { puts = p ∷ l.puts }

-- the end of a connection ends a life where it takes its last publisher
abbrev pub closed_for : ℕ → ℕ → Life → Life
closed_for place conn l =
    if is_living l && has_conn conn (topic_of l)
    then or_ended place (without_conn conn l)
    else without_conn conn l

-- ---- saved topics

-- a restored value was put at the place 0, with the time 0
abbrev pub restored_put : Option Value → List Put
restored_put None = []
restored_put (Some v) = record { place = 0; time = 0; value = v } ∷ []

abbrev pub restored_life : ℕ → Saved → Life
restored_life id s =
    record {
      id = id;
      name = s.name;
      typ = s.typ;
      props = s.props;
      pubs = [];
      over = None;
      publishings = [];
      settings = [];
      turn = 0;
      puts = restored_put s.value;
      taken_before = [];
    }

-- the lives of restored topics, from an id on
abbrev pub restored : ℕ → List Saved → List Life
restored id [] = []
restored id (s ∷ saved) = restored_life id s ∷ restored (id + 1) saved
