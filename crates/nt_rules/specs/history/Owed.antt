-- What a connection is owed after a history. The keys of messages tell places in the one list of entries.
use Rattle.std.specs.Prelude.{ℕ, ℤ, Bool, true, false, pos, List, [], ◌∷◌, ◌++◌, Option, Some, None, is_none, option_map, reverse, map, filter, length, take, not, ◌&&◌, ◌||◌, ◌==◌, nat_lt, nat_le, ◌+◌, ◌*◌, if◌then◌else◌}
use Rattle.std.specs.List.{list_any, find, flat_map}
use Rattle.serde_json.specs.Written.{compact_text}
use Rattle.nt_values.specs.declared.value.Value.TheVariants.{Int}
use Rattle.nt_values.specs.Types.{size_of}
use Rattle.nt_frames.specs.declared.message.ValueMsg.{ValueMsg}
use Rattle.nt_topics.specs.Properties.{is_cached}
use Rattle.nt_control.specs.declared.message.ClientMsg.TheVariants.{SetProps}
use Rattle.nt_control.specs.declared.message.ServerMsg.{ServerMsg}
use Rattle.nt_control.specs.declared.message.ServerMsg.TheVariants.{Announce, Unannounce, Properties}
use Rattle.nt_subs.specs.declared.wish.Wanted.{Wanted}
use Rattle.nt_subs.specs.declared.wish.Wanted.TheVariants.{Newest, All}
use Rattle.nt_subs.specs.Wishes.{wanted}
use Rattle.nt_rules.specs.topics.Puts.{Put}
use Rattle.nt_rules.specs.topics.Topics.{is_named}
use Rattle.nt_rules.specs.declared.batch.Batch.{Batch}
use Rattle.nt_rules.specs.outbox.Keys.{Kind, Of_end, Of_publish, Of_setting, Of_topic, Of_value, Key, is_in, end_key, publish_key, setting_key, topic_key, value_key, announces, sets, next_value, is_value, in_order}
use Rattle.nt_rules.specs.outbox.Marks.{is_empty, is_wish, is_valued, is_meta, meta_wish, option_items}
use Rattle.nt_rules.specs.outbox.Calls.{fallen}
use Rattle.nt_rules.specs.declared.act.Msg.TheVariants.{Control}
use Rattle.nt_rules.specs.declared.act.Deed.{Deed}
use Rattle.nt_rules.specs.declared.act.Deed.TheVariants.{Said, Drained}
use Rattle.nt_rules.specs.declared.act.Entry.{Entry}
use Rattle.nt_rules.specs.history.Lives.{Life, Publishing, Setting, is_living, taken_since_turn, topics}
use Rattle.nt_rules.specs.declared.start.Start.{Start}
use Rattle.nt_rules.specs.history.Now.{Now, is_there, is_open_for, subs_of, now_of, cause_of}
use Rattle.nt_rules.specs.history.Metas.{all_lives}

-- what the entries did for one connection: the keys that it was given, the places of the changes of properties that it
-- is told of, and the weight with which it fell behind
pub record Account : Type 0 where
  pub given : List Key
  pub told_settings : List ℕ
  pub fell : Option ℕ

-- an announce of the life was given
abbrev pub is_announced : Account → ℕ → Bool
is_announced a id = list_any (announces id) a.given

-- ---- what is owed of a life that goes on, and the end of one that doesn't

-- its end, where it was announced and its end wasn't given
abbrev pub owed_end_at : Account → ℕ → Option ℕ → Option ℕ
owed_end_at a id None = None
owed_end_at a id (Some place) = if is_in a.given (end_key id place) then None else Some place

abbrev pub owed_end : Account → Life → Option ℕ
owed_end a l = if is_announced a l.id then owed_end_at a l.id l.over else None

-- the publishes of the connection that weren't answered
abbrev pub owed_publishes : Account → ℕ → Life → List Publishing
owed_publishes a conn l =
    filter (λ p. not (is_in a.given (publish_key l.id p.place))) (filter (λ p. p.conn == conn) l.publishings)

-- the changes of properties that it is told of and wasn't given
abbrev pub owed_settings : Account → Life → List Setting
owed_settings a l =
    filter (λ s. not (is_in a.given (setting_key l.id s.place)))
    (filter (λ s. list_any (λ place. place == s.place) a.told_settings) l.settings)

-- its announce: it is wanted, wasn't announced, and no answer to a publish will announce it
abbrev pub owes_topic : Account → ℕ → Wanted → Life → Bool
owes_topic a conn wish l = is_wish wish && not (is_announced a l.id) && is_empty (owed_publishes a conn l)

-- the place of the last put that was taken not after this one, and 0 where there is none
abbrev pub place_by : ℕ → List Put → ℕ
place_by since [] = 0
place_by since (p ∷ ps) = if nat_le p.place since then p.place else place_by since ps

-- of a cached topic under All the taken puts after the last one that was given, from the one that was held as the wish
-- became All; oldest first
abbrev pub owed_cached : Account → Wanted → ℕ → Life → List Put
owed_cached a All since l =
    reverse
    (filter (λ p. nat_le (next_value a.given l.id) p.place && nat_le (place_by since (taken_since_turn l)) p.place)
    (taken_since_turn l))
owed_cached a wish since l = []

-- of one that isn't cached the puts after the last one that was given, and after its values became wanted; oldest first
abbrev pub owed_uncached : Account → Wanted → ℕ → Life → List Put
owed_uncached a wish since l =
    if is_valued wish
    then reverse (filter (λ p. nat_le (next_value a.given l.id) p.place && nat_lt since p.place) (taken_since_turn l))
    else []

-- the values that are owed one by one. Those before the last turn aren't owed any more
abbrev pub owed_values : Account → Wanted → ℕ → Life → List Put
owed_values a wish since l = if is_cached l.props then owed_cached a wish since l else owed_uncached a wish since l

-- of a cached topic under Newest the place of the last taken put, where it is after the last one that was given
abbrev pub newest_from : ℕ → List Put → Option ℕ
newest_from next [] = None
newest_from next (p ∷ ps) = if nat_le next p.place then Some p.place else None

abbrev pub newest_for : Account → Wanted → Life → Option ℕ
newest_for a Newest l = newest_from (next_value a.given l.id) (taken_since_turn l)
newest_for a wish l = None

abbrev pub owed_newest : Account → Wanted → Life → Option ℕ
owed_newest a wish l = if is_cached l.props then newest_for a wish l else None

-- ---- keys

abbrev pub end_keys : Account → Life → List Key
end_keys a l = map (end_key l.id) (option_items (owed_end a l))

abbrev pub reply_keys : Account → ℕ → Life → List Key
reply_keys a conn l =
    map (λ p. publish_key l.id p.place) (owed_publishes a conn l)
    ++ map (λ s. setting_key l.id s.place) (owed_settings a l)

abbrev pub topic_keys : Account → ℕ → Wanted → Life → List Key
topic_keys a conn wish l = if owes_topic a conn wish l then topic_key l.id ∷ [] else []

abbrev pub value_keys : Account → Wanted → ℕ → Life → List Key
value_keys a wish since l = map (λ p. value_key l.id p.place) (owed_values a wish since l)

abbrev pub newest_keys : Account → Wanted → Life → List Key
newest_keys a wish l = map (value_key l.id) (option_items (owed_newest a wish l))

-- what an account leaves owed, in the order in which it is handed: ends by place; answers to publishes and changes of
-- properties by place; announces by id; the values that are owed one by one, by place; values under Newest by id
abbrev pub keys_owed : Account → ℕ → (Life → Wanted) → (Life → ℕ) → List Life → List Key
keys_owed a conn wish since lives =
    let living = filter is_living lives in
    in_order (flat_map (end_keys a) lives)
    ++ in_order (flat_map (reply_keys a conn) living)
    ++ flat_map (λ l. topic_keys a conn (wish l) l) living
    ++ in_order (flat_map (λ l. value_keys a (wish l) (since l) l) living)
    ++ flat_map (λ l. newest_keys a (wish l) l) living

-- ---- wishes

-- how much a connection wants a name
abbrev pub wish_for : Start → List Entry → ℕ → List ℕ → Wanted
wish_for start past conn name = wanted (subs_of (now_of start past).connections conn) name

abbrev pub is_all : Wanted → Bool
is_all All = true
is_all wish = false

-- where its wish for a name passes the test, the place from which it has done so without a break
abbrev pub wanted_since : (Wanted → Bool) → Start → List Entry → ℕ → List ℕ → ℕ
wanted_since test start [] conn name = 0
wanted_since test start (e ∷ past) conn name =
    if test (wish_for start past conn name) then wanted_since test start past conn name else length past + 1

-- the place from which it has wanted all of it, and that from which it has wanted its values
abbrev pub all_since : Start → List Entry → ℕ → List ℕ → ℕ
all_since start past conn name = wanted_since is_all start past conn name

abbrev pub valued_since : Start → List Entry → ℕ → List ℕ → ℕ
valued_since start past conn name = wanted_since is_valued start past conn name

-- the place from which the wish that counts has lasted: of a cached topic All, of another one Newest or All
abbrev pub since_for : Start → List Entry → ℕ → Life → ℕ
since_for start past conn l =
    if is_cached l.props then all_since start past conn l.name else valued_since start past conn l.name

-- a meta topic is wanted under All as it is under Newest
abbrev pub wish_on : (List ℕ → Wanted) → Life → Wanted
wish_on wish l = if is_meta l.id then meta_wish (wish l.name) else wish l.name

-- ---- what is owed by an account, and its weight

abbrev pub owed_by : Account → Start → List Entry → ℕ → List Key
owed_by a start past conn =
    if is_there (now_of start past).connections conn && is_none a.fell
    then keys_owed a conn (wish_on (wish_for start past conn)) (since_for start past conn) (all_lives start past)
    else []

abbrev pub settings_weight : List Setting → ℕ
settings_weight [] = 0
settings_weight (s ∷ settings) = 64 + length (compact_text s.update) + settings_weight settings

abbrev pub puts_weight : List Put → ℕ
puts_weight [] = 0
puts_weight (p ∷ puts) = 64 + size_of p.value + puts_weight puts

-- 64 for an end and for each answer to a publish, 64 and the length of its compact text for each change of properties,
-- 64 and its size for each value that is owed one by one. Announces and all other values weigh nothing
abbrev pub living_weight : Account → ℕ → Wanted → ℕ → Life → ℕ
living_weight a conn wish since l =
    64 * length (owed_publishes a conn l) + settings_weight (owed_settings a l)
    + puts_weight (owed_values a wish since l)

abbrev pub life_weight : Account → ℕ → Wanted → ℕ → Life → ℕ
life_weight a conn wish since l =
    64 * length (option_items (owed_end a l)) + (if is_living l then living_weight a conn wish since l else 0)

abbrev pub lives_weight : Account → ℕ → (Life → Wanted) → (Life → ℕ) → List Life → ℕ
lives_weight a conn wish since [] = 0
lives_weight a conn wish since (l ∷ lives) =
    life_weight a conn (wish l) (since l) l + lives_weight a conn wish since lives

abbrev pub weight_by : Account → Start → List Entry → ℕ → ℕ
weight_by a start past conn =
    if is_there (now_of start past).connections conn && is_none a.fell
    then lives_weight a conn (wish_on (wish_for start past conn)) (since_for start past conn) (all_lives start past)
    else 0

-- ---- the account, entry after entry

-- the keys given after a deed, for those given and owed before
abbrev pub given_after : Deed → Bool → List Key → List Key → List Key
given_after (Drained batch) true given owed = given ++ take (length batch.texts + length batch.values) owed
given_after deed own given owed = given

-- the life whose properties a deed changes
abbrev pub set_on : Now → ℕ → ℕ → Deed → Option ℕ
set_on n worker conn (Said (Control (SetProps name update))) =
    if is_none (cause_of n worker conn (Control (SetProps name update)))
    then option_map (λ t. t.id) (find (is_named name) (topics n.lives))
    else None
set_on n worker conn deed = None

-- a connection is told of a change of properties that it sent, of one on a life that was announced to it, and of one
-- that comes behind another that is owed
abbrev pub settings_after : Account → List Key → ℕ → ℕ → ℕ → Option ℕ → List ℕ
settings_after a owed conn place sender None = a.told_settings
settings_after a owed conn place sender (Some id) =
    if (sender == conn) || (is_announced a id || list_any (sets id) owed)
    then place ∷ a.told_settings
    else a.told_settings

-- the account after an entry, but for the weight
abbrev pub accounted : Account → List Key → Now → Entry → ℕ → Account
accounted a owed n e conn =
    record {
      given = given_after e.deed ((e.conn == conn) && is_open_for n.connections e.worker conn) a.given owed;
      told_settings = settings_after a owed conn (n.place + 1) e.conn (set_on n e.worker e.conn e.deed);
      fell = a.fell;
    }

abbrev pub account : Start → List Entry → ℕ → Account
account start [] conn = record { given = []; told_settings = []; fell = None }
account start (e ∷ past) conn =
    let before = account start past conn in
    let a : Account = accounted before (owed_by before start past conn) (now_of start past) e conn in
    record a { fell = fallen before.fell (weight_by a start (e ∷ past) conn) }

-- ---- what is owed after a history

abbrev pub owed : Start → List Entry → ℕ → List Key
owed start past conn = owed_by (account start past conn) start past conn

-- what is queued for it weighs so much
abbrev pub queued : Start → List Entry → ℕ → ℕ
queued start past conn = weight_by (account start past conn) start past conn

-- the weight with which an open connection fell behind, at the first place at which it was too much
abbrev pub behind : Start → List Entry → ℕ → Option ℕ
behind start past conn =
    if is_there (now_of start past).connections conn then (account start past conn).fell else None

-- ---- the message of a key to a connection. Each key has one: where nothing is found, which never comes, an empty one

abbrev pub no_text : ServerMsg
no_text = Unannounce [] (pos 0)

abbrev pub no_value : ValueMsg
no_value = record { id = pos 0; time = 0; value = Int (pos 0) }

abbrev pub uid_at : ℕ → List Publishing → Option ℤ
uid_at place ps = option_map (λ p. p.uid) (find (λ p. p.place == place) ps)

-- a change of properties has ack for the connection that sent it
abbrev pub properties_text : ℕ → List ℕ → Option Setting → ServerMsg
properties_text conn name None = no_text
properties_text conn name (Some s) = Properties name (s.conn == conn) s.update

-- an announce tells the topic as it is now
abbrev pub text_by : Kind → ℕ → Life → ℕ → ServerMsg
text_by Of_end conn l place = Unannounce l.name (pos l.id)
text_by Of_publish conn l place = Announce l.name (pos l.id) l.typ (uid_at place l.publishings) l.props
text_by Of_setting conn l place = properties_text conn l.name (find (λ s. s.place == place) l.settings)
text_by Of_topic conn l place = Announce l.name (pos l.id) l.typ None l.props
text_by Of_value conn l place = no_text

-- the value of a meta topic has the moment of the drain as its time
abbrev pub put_value : ℕ → ℕ → Option Put → ValueMsg
put_value moment id None = no_value
put_value moment id (Some p) = record { id = pos id; time = if is_meta id then moment else p.time; value = p.value }

abbrev pub life_at : ℕ → List Life → Option Life
life_at id lives = find (λ l. l.id == id) lives

abbrev pub text_of : ℕ → Key → Option Life → ServerMsg
text_of conn k None = no_text
text_of conn k (Some l) = text_by k.kind conn l k.place

abbrev pub value_of : ℕ → Key → Option Life → ValueMsg
value_of moment k None = no_value
value_of moment k (Some l) = put_value moment l.id (find (λ p. p.place == k.place) l.puts)

-- the messages of keys, as a batch that a drain hands at a moment
abbrev pub messages : List Life → ℕ → ℕ → List Key → Batch
messages lives moment conn keys =
    record {
      texts = map (λ k. text_of conn k (life_at k.topic lives)) (filter (λ k. not (is_value k)) keys);
      values = map (λ k. value_of moment k (life_at k.topic lives)) (filter is_value keys);
    }
