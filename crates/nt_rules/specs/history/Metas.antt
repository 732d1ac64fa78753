-- The meta topics after a history: each has a life of its own, with the bytes as its value (NetworkTables 4.1,
-- "Server-Published Meta Topics").
use Rattle.std.specs.Prelude.{ℕ, ℤ, Bool, true, false, List, [], ◌∷◌, ◌++◌, Option, Some, None, map, filter, length, codes, unwrap_or, option_map, bytes_eq, ◌==◌, ◌+◌, if◌then◌else◌}
use Rattle.std.specs.List.{find, flat_map}
use Rattle.serde_json.specs.Data.{object, no_members}
use Rattle.nt_values.specs.declared.value.Value.TheVariants.{Bytes}
use Rattle.nt_subs.specs.declared.sub.Sub.{Sub}
use Rattle.nt_rules.specs.declared.topic.Topic.{Topic}
use Rattle.nt_rules.specs.declared.topic.Pub.{Pub}
use Rattle.nt_rules.specs.topics.Topics.{is_of}
use Rattle.nt_rules.specs.declared.roster.Roster.{Roster}
use Rattle.nt_rules.specs.declared.roster.ConnRow.{ConnRow}
use Rattle.nt_rules.specs.declared.roster.PubRow.{PubRow}
use Rattle.nt_rules.specs.declared.roster.SubRow.{SubRow}
use Rattle.nt_rules.specs.declared.roster.LifeRow.{LifeRow}
use Rattle.nt_rules.specs.Limits.{first_meta}
use Rattle.nt_rules.specs.declared.meta.MetaNow.{MetaNow}
use Rattle.nt_rules.specs.meta.Meta.{metas}
use Rattle.nt_rules.specs.meta.Order.{insert_all, pub_below}
use Rattle.nt_rules.specs.declared.act.Entry.{Entry}
use Rattle.nt_rules.specs.history.Lives.{Life, topics}
use Rattle.nt_rules.specs.declared.start.Start.{Start}
use Rattle.nt_rules.specs.history.Now.{Now, Connection, open_ones, now_of}

-- ---- the roster

abbrev pub pub_row : Topic → Pub → PubRow
pub_row t p = record { uid = p.uid; topic = t.name }

-- the publishers of a connection, by rising uid
abbrev pub pub_rows : ℕ → List Topic → List PubRow
pub_rows conn ts = insert_all pub_below [] (flat_map (λ t. map (pub_row t) (filter (is_of conn) t.pubs)) ts)

abbrev pub sub_row : ℤ × Sub → SubRow
sub_row s = record { uid = s.0; sub = s.1 }

abbrev pub conn_row : List Topic → Connection → ConnRow
conn_row ts c = record { conn = c.number; name = c.name; pubs = pub_rows c.number ts; subs = map sub_row c.subs }

abbrev pub life_row : Topic → LifeRow
life_row t = record { id = t.id; name = t.name }

-- the open connections and the living topics
abbrev pub roster_of : List Connection → List Topic → Roster
roster_of conns ts = record { conns = map (conn_row ts) conns; topics = map life_row ts }

-- the roster of the present
abbrev pub roster_now : Now → Roster
roster_now n = roster_of (open_ones n.connections) (topics n.lives)

-- the living meta topics, by rising id
abbrev pub metas_now : Now → List MetaNow
metas_now n = metas (roster_now n)

-- ---- their lives

abbrev pub meta_at : ℕ → List MetaNow → Option (List ℕ)
meta_at id ms = option_map (λ m. m.bytes) (find (λ m. m.id == id) ms)

abbrev pub same_bytes : Option (List ℕ) → Option (List ℕ) → Bool
same_bytes (Some a) (Some b) = bytes_eq a b
same_bytes None None = true
same_bytes a b = false

-- the last place at which the bytes of a meta topic changed, or its life began
abbrev pub meta_place : Start → List Entry → ℕ → ℕ
meta_place start [] id = 0
meta_place start (e ∷ past) id =
    if same_bytes (meta_at id (metas_now (now_of start past))) (meta_at id (metas_now (now_of start (e ∷ past))))
    then meta_place start past id
    else length past + 1

-- the ids of the meta topics of a topic and of a connection stand above these
abbrev pub of_topic_publishers : ℕ
of_topic_publishers = first_meta

abbrev pub of_topic_subscriptions : ℕ
of_topic_subscriptions = 805306368

abbrev pub of_client_publishers : ℕ
of_client_publishers = 1073741824

abbrev pub of_client_subscriptions : ℕ
of_client_subscriptions = 1342177280

abbrev pub of_server : ℕ
of_server = 1610612736

-- the life of a meta topic. Its value was taken at the place at which its bytes last changed
abbrev pub meta_life : Start → List Entry → ℕ → List ℕ → Option ℕ → Life
meta_life start past id name over =
    record {
      id = id;
      name = name;
      typ = codes "msgpack";
      props = object no_members;
      pubs = [];
      over = over;
      publishings = [];
      settings = [];
      turn = 0;
      puts = record {
        place = meta_place start past id;
        time = 0;
        value = Bytes (unwrap_or (meta_at id (metas_now (now_of start past))) []);
      } ∷ [];
      taken_before = [];
    }

-- the lives of all meta topics, by rising id: two live as long as each topic, two as long as each connection is open,
-- and three always
abbrev pub meta_lives : Start → List Entry → List Life
meta_lives start past =
    map (λ l. meta_life start past (of_topic_publishers + l.id) (codes "$pub$" ++ l.name) l.over)
    (now_of start past).lives
    ++ map (λ l. meta_life start past (of_topic_subscriptions + l.id) (codes "$sub$" ++ l.name) l.over)
    (now_of start past).lives
    ++ map (λ c. meta_life start past (of_client_publishers + c.number) (codes "$client_pub$" ++ c.name) c.over)
    (now_of start past).connections
    ++ map (λ c. meta_life start past (of_client_subscriptions + c.number) (codes "$client_sub$" ++ c.name) c.over)
    (now_of start past).connections
    ++ meta_life start past (of_server + 1) (codes "$clients") None
    ∷ meta_life start past (of_server + 2) (codes "$server_pub") None
    ∷ meta_life start past (of_server + 3) (codes "$server_sub") None
    ∷ []

-- all lives after a history, of topics and of meta topics, by rising id
abbrev pub all_lives : Start → List Entry → List Life
all_lives start past = (now_of start past).lives ++ meta_lives start past
