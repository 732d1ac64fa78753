-- The limits of a server. Those of names and subscriptions stand with them, in nt_topics and nt_subs.
use Rattle.std.specs.Prelude.{ℕ}

-- ---- topics

-- the most publishers of one connection
abbrev pub most_publishers : ℕ
most_publishers = 16384

-- the most living topics
abbrev pub most_topics : ℕ
most_topics = 16384

-- the last id of a topic. Meta topics have theirs above
abbrev pub last_id : ℕ
last_id = 268435455

-- the most bytes of the compact text of a topic's properties
abbrev pub most_properties : ℕ
most_properties = 65536

-- the greatest size of a value that is put or restored
abbrev pub most_value : ℕ
most_value = 131072

-- ---- connections

-- the last number of a connection
abbrev pub last_connection : ℕ
last_connection = 268435455

-- the most that what is queued for a connection may weigh
abbrev pub most_weight : ℕ
most_weight = 8388608

-- ---- meta topics

-- the id of the first meta topic
abbrev pub first_meta : ℕ
first_meta = 536870912

-- the most bytes of the elements of one list that a meta topic tells
abbrev pub most_bytes : ℕ
most_bytes = 1_048_576
