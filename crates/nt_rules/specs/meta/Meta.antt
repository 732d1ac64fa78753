-- The meta topics that live (NetworkTables 4.1, "Server-Published Meta Topics"): their ids, names and values.
use Rattle.std.specs.Prelude.{◌≤◌, ℕ, ◌+◌, ◌*◌, Bool, List, [], ◌∷◌, ◌++◌, map, option_map, Option, codes, bytes_eq}
use Rattle.std.specs.List.{find, All}
use Rattle.nt_rules.specs.declared.roster.ConnRow.{ConnRow}
use Rattle.nt_rules.specs.declared.roster.LifeRow.{LifeRow}
use Rattle.nt_rules.specs.declared.roster.Roster.{Roster}
use Rattle.nt_rules.specs.declared.meta.MetaNow.{MetaNow}
use Rattle.nt_rules.specs.meta.Order.{ordered}
use Rattle.nt_rules.specs.meta.Elements.{client_element, publisher_element, subscription_element, publishers_of, subscribers_of}
use Rattle.nt_rules.specs.meta.Packing.{array_bytes}
use Rattle.nt_rules.specs.Limits.{last_connection, last_id}

-- meta topics have their ids above: the kinds of them lie so far apart
abbrev pub id_of : ℕ → ℕ → ℕ
id_of kind number = kind * 268_435_456 + number

-- of a living topic
abbrev pub topic_pub : Roster → LifeRow → MetaNow
topic_pub r t = record {
  id = id_of 2 t.id;
  name = codes "$pub$" ++ t.name;
  bytes = array_bytes (publishers_of r.conns t.name);
}

abbrev pub topic_sub : Roster → LifeRow → MetaNow
topic_sub r t = record {
  id = id_of 3 t.id;
  name = codes "$sub$" ++ t.name;
  bytes = array_bytes (subscribers_of r.conns t.name);
}

-- of an open connection
abbrev pub client_pub : ConnRow → MetaNow
client_pub c = record {
  id = id_of 4 c.conn;
  name = codes "$client_pub$" ++ c.name;
  bytes = array_bytes (map publisher_element c.pubs);
}

abbrev pub client_sub : ConnRow → MetaNow
client_sub c = record {
  id = id_of 5 c.conn;
  name = codes "$client_sub$" ++ c.name;
  bytes = array_bytes (map subscription_element c.subs);
}

-- of the server: its clients, and what it publishes and subscribes to itself, which is nothing
abbrev pub clients : Roster → MetaNow
clients r = record {
  id = id_of 6 1;
  name = codes "$clients";
  bytes = array_bytes (map client_element r.conns);
}

abbrev pub server_pub : MetaNow
server_pub = record { id = id_of 6 2; name = codes "$server_pub"; bytes = array_bytes [] }

abbrev pub server_sub : MetaNow
server_sub = record { id = id_of 6 3; name = codes "$server_sub"; bytes = array_bytes [] }

-- the meta topics that live
abbrev pub metas : Roster → List MetaNow
metas r =
    map (topic_pub r) r.topics
    ++ (map (topic_sub r) r.topics
    ++ (map client_pub r.conns
    ++ (map client_sub r.conns
    ++ clients r ∷ server_pub ∷ server_sub ∷ [])))

-- ---- by their names

abbrev pub is_named : List ℕ → MetaNow → Bool
is_named name m = bytes_eq m.name name

-- the one of this name, with the rows as they stand
abbrev pub named_in : Roster → List ℕ → Option MetaNow
named_in r name = find (is_named name) (metas r)

-- and with the rows in order
abbrev pub meta_named : Roster → List ℕ → Option MetaNow
meta_named r name = named_in (ordered r) name

-- the value of the meta topic of this name, where one lives
abbrev pub meta_bytes : Roster → List ℕ → Option (List ℕ)
meta_bytes r name = option_map (λ m. m.bytes) (meta_named r name)

-- its id, for which the order of the rows is nothing
abbrev pub meta_number : Roster → List ℕ → Option ℕ
meta_number r name = option_map (λ m. m.id) (named_in r name)

-- ---- rosters

-- no number of a connection and no id of a topic is too great
pub record IsNumbered (r : Roster) : Type 0 where
  pub conns : All (λ c. c.conn ≤ last_connection) r.conns
  pub topics : All (λ t. t.id ≤ last_id) r.topics
