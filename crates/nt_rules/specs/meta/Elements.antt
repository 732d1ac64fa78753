-- The elements of the lists that meta topics hold (NetworkTables 4.1, "Server-Published Meta Topics"): each a
-- map, as the atoms that spell it, with its keys in the order of the standard's tables.
use Rattle.std.specs.Prelude.{ℕ, Bool, true, List, [], ◌∷◌, ◌++◌, length, map, filter, codes, decimal, bytes_eq, if◌then◌else◌}
use Rattle.std.specs.List.{flat_map}
use Rattle.nt_msgpack.specs.Atoms.{AtomValue, int, boolean, text, array_head, map_head, shortest}
use Rattle.nt_subs.specs.declared.sub.Options.{Options}
use Rattle.nt_subs.specs.Wishes.{is_matched}
use Rattle.nt_rules.specs.declared.roster.ConnRow.{ConnRow}
use Rattle.nt_rules.specs.declared.roster.PubRow.{PubRow}
use Rattle.nt_rules.specs.declared.roster.SubRow.{SubRow}

-- atoms in a row, each in its shortest spelling
abbrev pub spelled : List AtomValue → List ℕ
spelled atoms = flat_map shortest atoms

-- ---- the options of a subscription

-- an option, where it is true
abbrev pub option_name : List ℕ → Bool → List (List ℕ)
option_name name is_set = if is_set then name ∷ [] else []

-- the options that are true
abbrev pub true_options : Options → List (List ℕ)
true_options options =
    option_name (codes "all") options.all
    ++ (option_name (codes "prefix") options.prefix ++ option_name (codes "topicsonly") options.topicsonly)

-- options, each with true
abbrev pub option_pairs : List (List ℕ) → List AtomValue
option_pairs names = flat_map (λ name. text name ∷ boolean true ∷ []) names

-- a map of the options that are true
abbrev pub options_atoms : Options → List AtomValue
options_atoms options = map_head (length (true_options options)) ∷ option_pairs (true_options options)

-- ---- what connections are, publish and subscribe to

-- an array of texts
abbrev pub texts_atoms : List (List ℕ) → List AtomValue
texts_atoms texts = array_head (length texts) ∷ map text texts

-- a connection among all: its name, and its number in decimal
abbrev pub client_element : ConnRow → List AtomValue
client_element c =
    map_head 2 ∷ text (codes "id") ∷ text c.name ∷ text (codes "conn") ∷ text (decimal c.conn) ∷ []

-- a publisher, among its connection's
abbrev pub publisher_element : PubRow → List AtomValue
publisher_element p = map_head 2 ∷ text (codes "uid") ∷ int p.uid ∷ text (codes "topic") ∷ text p.topic ∷ []

-- a subscription, among its connection's
abbrev pub subscription_element : SubRow → List AtomValue
subscription_element s =
    map_head 3 ∷ text (codes "uid") ∷ int s.uid ∷ text (codes "topics")
    ∷ (texts_atoms s.sub.names ++ text (codes "options") ∷ options_atoms s.sub.options)

-- ---- who publishes and subscribes to a topic

-- a publisher of this client, among its topic's
abbrev pub topic_publisher : List ℕ → PubRow → List AtomValue
topic_publisher client p =
    map_head 2 ∷ text (codes "client") ∷ text client ∷ text (codes "pubuid") ∷ int p.uid ∷ []

-- a subscription of this client, among those that match a topic
abbrev pub topic_subscriber : List ℕ → SubRow → List AtomValue
topic_subscriber client s =
    map_head 3 ∷ text (codes "client") ∷ text client ∷ text (codes "subuid") ∷ int s.uid
    ∷ text (codes "options") ∷ options_atoms s.sub.options

-- the publishers of a topic, connection by connection
abbrev pub publishers_of : List ConnRow → List ℕ → List (List AtomValue)
publishers_of conns topic =
    flat_map (λ c. map (topic_publisher c.name) (filter (λ p. bytes_eq p.topic topic) c.pubs)) conns

-- the subscriptions that match a topic, connection by connection
abbrev pub subscribers_of : List ConnRow → List ℕ → List (List AtomValue)
subscribers_of conns topic =
    flat_map (λ c. map (topic_subscriber c.name) (filter (λ s. is_matched s.sub topic) c.subs)) conns
