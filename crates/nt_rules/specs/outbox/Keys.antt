-- The messages that may be owed to a connection. Each is named by a key.
use Rattle.std.specs.Prelude.{ℕ, Bool, true, false, max, List, [], ◌∷◌, ◌&&◌, ◌||◌, ◌==◌, nat_lt, nat_le, ◌+◌, if◌then◌else◌}
use Rattle.std.specs.List.{list_any}

-- the end of a topic that was announced; the answer to a publish of the connection; a change of properties; the
-- announce of a topic that is wanted; a value
pub data Kind : Type 0 where
  Of_end : Kind
  Of_publish : Kind
  Of_setting : Kind
  Of_topic : Kind
  Of_value : Kind

-- a message: its kind, the id of its topic, and the place in the order of entries of what it tells: the end, the
-- publish, the change of properties or the put. An announce of a topic that is wanted has the place 0
pub record Key : Type 0 where
  pub kind : Kind
  pub topic : ℕ
  pub place : ℕ

abbrev pub is_kind : Kind → Kind → Bool
is_kind Of_end Of_end = true
is_kind Of_publish Of_publish = true
is_kind Of_setting Of_setting = true
is_kind Of_topic Of_topic = true
is_kind Of_value Of_value = true
is_kind k m = false

abbrev pub is_key : Key → Key → Bool
is_key a b = is_kind a.kind b.kind && (a.topic == b.topic) && (a.place == b.place)

abbrev pub is_in : List Key → Key → Bool
is_in keys k = list_any (is_key k) keys

abbrev pub end_key : ℕ → ℕ → Key
end_key id place = record { kind = Of_end; topic = id; place = place }

abbrev pub publish_key : ℕ → ℕ → Key
publish_key id place = record { kind = Of_publish; topic = id; place = place }

abbrev pub setting_key : ℕ → ℕ → Key
setting_key id place = record { kind = Of_setting; topic = id; place = place }

abbrev pub topic_key : ℕ → Key
topic_key id = record { kind = Of_topic; topic = id; place = 0 }

abbrev pub value_key : ℕ → ℕ → Key
value_key id place = record { kind = Of_value; topic = id; place = place }

abbrev pub is_value : Key → Bool
is_value k = is_kind k.kind Of_value

-- ---- the topic of a key

-- the key tells of a change of the topic's properties
abbrev pub sets : ℕ → Key → Bool
sets id k = is_kind k.kind Of_setting && (k.topic == id)

-- the key announces the topic
abbrev pub announces : ℕ → Key → Bool
announces id k = (is_kind k.kind Of_publish || is_kind k.kind Of_topic) && (k.topic == id)

-- one more than the last place of the topic's values among the keys, and 0 where there is none
abbrev pub next_value : List Key → ℕ → ℕ
next_value [] id = 0
next_value (k ∷ keys) id =
    if is_value k && (k.topic == id) then max (k.place + 1) (next_value keys id) else next_value keys id

-- ---- order

-- by place, and at one place by the topic's id
abbrev pub is_before : Key → Key → Bool
is_before a b = nat_lt a.place b.place || ((a.place == b.place) && nat_le a.topic b.topic)

abbrev pub insert_key : Key → List Key → List Key
insert_key k [] = k ∷ []
insert_key k (x ∷ xs) = if is_before k x then k ∷ x ∷ xs else x ∷ insert_key k xs

-- the keys by place, and at one place by the topic's id
abbrev pub in_order : List Key → List Key
in_order [] = []
in_order (k ∷ ks) = insert_key k (in_order ks)
