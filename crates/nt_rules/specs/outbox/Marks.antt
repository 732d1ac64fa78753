-- What is kept of one topic for one connection, what happens to it, and which messages it leaves owed.
use Rattle.std.specs.Prelude.{ℕ, Bool, true, false, max, List, [], ◌∷◌, ◌++◌, Option, Some, None, is_none, option_map, map, filter, length, not, ◌&&◌, ◌||◌, ◌==◌, nat_lt, nat_le, ◌+◌, ◌*◌, if◌then◌else◌}
use Rattle.std.specs.List.{list_any, flat_map}
use Rattle.serde_json.specs.Written.{compact_text}
use Rattle.nt_values.specs.Types.{size_of}
use Rattle.nt_subs.specs.declared.wish.Wanted.{Wanted}
use Rattle.nt_subs.specs.declared.wish.Wanted.TheVariants.{No, TopicOnly, Newest, All}
use Rattle.nt_rules.specs.declared.topic.Timed.{Timed}
use Rattle.nt_rules.specs.declared.waiting.Publish.{Publish}
use Rattle.nt_rules.specs.declared.waiting.Setting.{Setting}
use Rattle.nt_rules.specs.declared.waiting.Placed.{Placed}
use Rattle.nt_rules.specs.outbox.Keys.{Key, is_in, end_key, publish_key, setting_key, topic_key, value_key, announces, next_value, in_order}
use Rattle.nt_rules.specs.Limits.{first_meta}

-- what is kept of one topic for one connection: its id and name; whether it was announced to the connection; the place
-- of its end, where it was announced and its end isn't told; the publishes that aren't answered and the changes of its
-- properties that aren't told, the oldest first; one more than the last place of a value that was handed, and 0 where
-- none was; how much it is wanted; the values that are owed one by one, the oldest first: under All, and of a topic
-- that isn't cached; the place of the value of a cached topic that is owed under Newest. The value of a meta topic
-- stands at the place 0: of one, `next` is 1 where its bytes were handed since they changed, and else 0
pub record Mark : Type 0 where
  pub id : ℕ
  pub name : List ℕ
  pub is_announced : Bool
  pub over : Option ℕ
  pub publishes : List Publish
  pub settings : List Setting
  pub next : ℕ
  pub wish : Wanted
  pub values : List Placed
  pub newest : Option ℕ

-- ---- nothing kept

-- a topic of which nothing was heard
abbrev pub fresh : ℕ → List ℕ → Mark
fresh id name =
    record {
      id = id;
      name = name;
      is_announced = false;
      over = None;
      publishes = [];
      settings = [];
      next = 0;
      wish = No;
      values = [];
      newest = None;
    }

abbrev pub is_empty : {X : Type 0} → List X → Bool
is_empty [] = true
is_empty (x ∷ xs) = false

-- whether a topic is wanted at all
abbrev pub is_wish : Wanted → Bool
is_wish No = false
is_wish wish = true

-- whether its values are wanted
abbrev pub is_valued : Wanted → Bool
is_valued Newest = true
is_valued All = true
is_valued wish = false

-- whether nothing of it has to be kept: it is as it was before anything was heard
abbrev pub is_blank : Mark → Bool
is_blank m =
    not m.is_announced && is_none m.over && is_empty m.publishes && is_empty m.settings && (m.next == 0)
    && not (is_wish m.wish) && is_empty m.values && is_none m.newest

-- ---- what happens to a topic

abbrev pub same_wish : Wanted → Wanted → Bool
same_wish No No = true
same_wish TopicOnly TopicOnly = true
same_wish Newest Newest = true
same_wish All All = true
same_wish a b = false

-- what is queued, the oldest first, and then an item more. One at the place of the last one stands for it
abbrev pub queued : {X : Type 0} → (X → ℕ) → X → List X → List X
queued place x [] = x ∷ []
queued place x (y ∷ []) = if place y == place x then x ∷ [] else y ∷ x ∷ []
queued place x (y ∷ z ∷ ys) = y ∷ queued place x (z ∷ ys)

-- it is wanted so much from its start on
abbrev pub started : Wanted → Mark → Mark
started wish m = record m { wish = wish }

-- a value of a cached topic was taken: under All each is owed, under Newest the last
abbrev pub noted_held : Placed → Wanted → Mark → Mark
noted_held p All m = record m { wish = All; values = queued (λ p. p.place) p m.values }
noted_held p Newest m = record m { wish = Newest; newest = Some p.place }
noted_held p wish m = record m { wish = wish }

-- a value of a topic that isn't cached was taken: each is owed where its values are wanted
abbrev pub noted_passing : Placed → Wanted → Mark → Mark
noted_passing p wish m =
    record m { wish = wish; values = if is_valued wish then queued (λ p. p.place) p m.values else m.values }

abbrev pub noted_value : Placed → Bool → Wanted → Mark → Mark
noted_value p cached wish m = if cached then noted_held p wish m else noted_passing p wish m

-- its properties changed: that is owed where it was announced before, or an earlier change is owed
abbrev pub noted_setting : Setting → Wanted → Mark → Mark
noted_setting s wish m =
    record m {
      wish = wish;
      settings = if m.is_announced || not (is_empty m.settings) then queued (λ s. s.place) s m.settings else m.settings;
    }

-- it turned: whether it is cached changed. No value of it is owed any more
abbrev pub turned : Mark → Mark
turned m = record m { values = []; newest = None }

-- it ended: nothing of it is owed any more, but for its end where it was announced
abbrev pub ended : ℕ → Mark → Mark
ended place m = record (fresh m.id m.name) { over = if m.is_announced then Some place else m.over }

-- the connection published it
abbrev pub replied_publish : Publish → Mark → Mark
replied_publish p m = record m { publishes = queued (λ p. p.place) p m.publishes }

-- the connection changed its properties
abbrev pub replied_setting : Setting → Mark → Mark
replied_setting s m = record m { settings = queued (λ s. s.place) s m.settings }

-- ---- another wish

-- those of these values whose place was not reached yet
abbrev pub from_place : ℕ → Option Placed → List Placed
from_place next None = []
from_place next (Some p) = if nat_le next p.place then p ∷ [] else []

abbrev pub place_from : ℕ → Option ℕ → Option ℕ
place_from next None = None
place_from next (Some place) = if nat_le next place then Some place else None

-- under All and under Newest the held value is owed, where it wasn't handed
abbrev pub all_of : Wanted → ℕ → Option Placed → List Placed
all_of All next held = from_place next held
all_of wish next held = []

abbrev pub newest_of : Wanted → ℕ → Option ℕ → Option ℕ
newest_of Newest next place = place_from next place
newest_of wish next place = None

-- of a topic that isn't cached the values stay owed where they were wanted before and are now
abbrev pub still_queued : Wanted → Wanted → List Placed → List Placed
still_queued old wish values = if is_valued old && is_valued wish then values else []

-- how much it is wanted changed. The held value of a cached topic was taken at its place
abbrev pub rewanted : Bool → Option Placed → Wanted → Wanted → Mark → Mark
rewanted cached held old wish m =
    if same_wish old wish then m
    else if cached then record m {
      wish = wish;
      values = all_of wish m.next held;
      newest = newest_of wish m.next (option_map (λ p. p.place) held);
    }
    else record m { wish = wish; values = still_queued old wish m.values; newest = None }

-- the held value with the place at which it was taken
abbrev pub placed : ℕ → Timed → Placed
placed place v = record { place = place; time = v.time; value = v.value }

-- ---- meta topics

abbrev pub is_meta : ℕ → Bool
is_meta id = nat_le first_meta id

-- a meta topic is wanted under All as it is under Newest
abbrev pub meta_wish : Wanted → Wanted
meta_wish All = Newest
meta_wish wish = wish

-- its bytes changed. Its value stands at the place 0, and was not handed since
abbrev pub changed_meta : Wanted → Mark → Mark
changed_meta wish m =
    record m { wish = meta_wish wish; next = 0; newest = newest_of (meta_wish wish) 0 (Some 0) }

abbrev pub rewanted_meta : Wanted → Wanted → Mark → Mark
rewanted_meta old wish m =
    if same_wish (meta_wish old) (meta_wish wish) then m
    else record m { wish = meta_wish wish; newest = newest_of (meta_wish wish) m.next (Some 0) }

-- ---- keys are handed

abbrev pub without : List Key → Option ℕ → ℕ → Option ℕ
without keys None id = None
without keys (Some place) id = if is_in keys (end_key id place) then None else Some place

abbrev pub handed : List Key → Mark → Mark
handed keys m =
    record m {
      is_announced = m.is_announced || list_any (announces m.id) keys;
      over = without keys m.over m.id;
      publishes = filter (λ p. not (is_in keys (publish_key m.id p.place))) m.publishes;
      settings = filter (λ s. not (is_in keys (setting_key m.id s.place))) m.settings;
      next = max m.next (next_value keys m.id);
      values = filter (λ p. nat_le (next_value keys m.id) p.place) m.values;
      newest = place_from (next_value keys m.id) m.newest;
    }

-- ---- the keys that are owed of a topic

abbrev pub option_items : {X : Type 0} → Option X → List X
option_items None = []
option_items (Some x) = x ∷ []

abbrev pub end_keys : Mark → List Key
end_keys m = map (end_key m.id) (option_items m.over)

abbrev pub reply_keys : Mark → List Key
reply_keys m =
    map (λ p. publish_key m.id p.place) m.publishes ++ map (λ s. setting_key m.id s.place) m.settings

-- an announce: it is wanted, wasn't announced, and no answer to a publish will announce it
abbrev pub topic_keys : Mark → List Key
topic_keys m =
    if is_wish m.wish && not m.is_announced && is_empty m.publishes then topic_key m.id ∷ [] else []

abbrev pub value_keys : Mark → List Key
value_keys m = map (λ p. value_key m.id p.place) m.values

abbrev pub newest_keys : Mark → List Key
newest_keys m = map (value_key m.id) (option_items m.newest)

-- all that is owed, in the order in which it is handed: ends by place; answers to publishes and changes of properties
-- by place; announces by id; the values that are owed one by one, by place; values under Newest by id
abbrev pub keys : List Mark → List Key
keys marks =
    in_order (flat_map end_keys marks)
    ++ in_order (flat_map reply_keys marks)
    ++ flat_map topic_keys marks
    ++ in_order (flat_map value_keys marks)
    ++ flat_map newest_keys marks

-- ---- weights

abbrev pub settings_weight : List Setting → ℕ
settings_weight [] = 0
settings_weight (s ∷ settings) = 64 + length (compact_text s.update) + settings_weight settings

abbrev pub values_weight : List Placed → ℕ
values_weight [] = 0
values_weight (p ∷ values) = 64 + size_of p.value + values_weight values

-- 64 for an end and for each answer to a publish, 64 and the length of its compact text for each change of
-- properties, 64 and its size for each value that is owed one by one. Announces and all other values weigh nothing
abbrev pub mark_weight : Mark → ℕ
mark_weight m =
    64 * length (option_items m.over) + 64 * length m.publishes + settings_weight m.settings + values_weight m.values

abbrev pub weight : List Mark → ℕ
weight [] = 0
weight (m ∷ marks) = mark_weight m + weight marks

-- ---- all topics of a connection, by rising id

abbrev pub unless_blank : Mark → List Mark → List Mark
unless_blank m marks = if is_blank m then marks else m ∷ marks

-- the marks with that of this id changed
abbrev pub at_id : ℕ → List ℕ → (Mark → Mark) → List Mark → List Mark
at_id id name f [] = unless_blank (f (fresh id name)) []
at_id id name f (m ∷ marks) =
    if m.id == id then unless_blank (f m) marks
    else if nat_lt id m.id then unless_blank (f (fresh id name)) (m ∷ marks)
    else m ∷ at_id id name f marks

-- the marks after keys were handed
abbrev pub handed_all : List Key → List Mark → List Mark
handed_all keys marks = filter (λ m. not (is_blank m)) (map (handed keys) marks)
