-- What an outbox holds, and what its calls do to it.
use Rattle.std.specs.Prelude.{ℕ, ℤ, pos, negsuc, ◌^◌, Bool, true, false, List, [], Option, Some, None, is_some, option_map, take, nat_lt, if◌then◌else◌}
use Rattle.serde_json.specs.Data.{Data}
use Rattle.nt_topics.specs.Properties.{is_cached}
use Rattle.nt_subs.specs.declared.wish.Wanted.{Wanted}
use Rattle.nt_rules.specs.declared.topic.Topic.{Topic}
use Rattle.nt_rules.specs.declared.topic.Change.{Change}
use Rattle.nt_rules.specs.declared.topic.Change.TheVariants as change
use Rattle.nt_rules.specs.declared.meta.MetaNow.{MetaNow}
use Rattle.nt_rules.specs.outbox.Marks.{Mark}
use Rattle.nt_rules.specs.declared.batch.Batch.{Batch}
use Rattle.nt_rules.specs.outbox.Keys.{Key}
use Rattle.nt_rules.specs.outbox.Marks.{started, noted_value, noted_setting, turned, ended, replied_publish, replied_setting, rewanted, placed, changed_meta, rewanted_meta, keys, weight, at_id, handed_all}
use Rattle.nt_rules.specs.outbox.Messages.{Living, batch_of}
use Rattle.nt_rules.specs.Limits.{most_weight}

-- an outbox: whether it met want of memory; the place of its last call; the weight with which it fell behind at a place
-- before that one; and what it keeps of each topic, by rising id
pub record OutboxState : Type 0 where
  pub failed : Bool
  pub place : ℕ
  pub fell : Option ℕ
  pub marks : List Mark

abbrev pub nothing_owed : OutboxState
nothing_owed = record { failed = false; place = 0; fell = None; marks = [] }

-- ---- behind

-- the weight with which a connection has fallen behind, where it had before, or where what is queued weighs too much
abbrev pub fallen : Option ℕ → ℕ → Option ℕ
fallen (Some w) weight = Some w
fallen None weight = if nat_lt most_weight weight then Some weight else None

abbrev pub behind : OutboxState → Option ℕ
behind b = fallen b.fell (weight b.marks)

-- what is owed: nothing to a connection that fell behind
abbrev pub unless_behind : Option ℕ → List Mark → List Mark
unless_behind None marks = marks
unless_behind (Some w) marks = []

abbrev pub keys_of : OutboxState → List Key
keys_of b = keys (unless_behind (behind b) b.marks)

abbrev pub weight_of : OutboxState → ℕ
weight_of b = weight (unless_behind (behind b) b.marks)

-- ---- calls

-- the outbox at the first call of a place: the weight after the last call of the place before counts
abbrev pub at_place : ℕ → OutboxState → OutboxState
at_place place b =
    if nat_lt b.place place
    then record b { place = place; fell = behind b; marks = unless_behind (behind b) b.marks }
    else b

-- a call at a place, which does this to the marks. One that fell behind before keeps nothing
abbrev pub with_call : ℕ → (List Mark → List Mark) → OutboxState → OutboxState
with_call place f b =
    let m : OutboxState = at_place place b in record m { marks = if is_some m.fell then [] else f m.marks }

-- a call at a place that tells nothing
abbrev pub reached : ℕ → OutboxState → OutboxState
reached place b = with_call place (λ marks. marks) b

-- the id of a topic. A number that is none, which no table gives, names no topic
abbrev pub id_of : ℤ → Option ℕ
id_of (pos n) = if nat_lt n (2 ^ 32) then Some n else None
id_of (negsuc n) = None

abbrev pub at_topic : ℤ → List ℕ → (Mark → Mark) → List Mark → List Mark
at_topic id name f marks = by_id (id_of id)
  where
    by_id : Option ℕ → List Mark
    by_id None = marks
    by_id (Some n) = at_id n name f marks

-- a change of a topic, which is cached or not after it, and is wanted so much
abbrev pub noted_in : ℕ → Change → Bool → Wanted → List Mark → List Mark
noted_in place (change.Started id name typ props) cached wish marks = at_topic id name (started wish) marks
noted_in place (change.Changed id name time value) cached wish marks =
    at_topic id name (noted_value (record { place = place; time = time; value = value }) cached wish) marks
noted_in place (change.Props id name update) cached wish marks =
    at_topic id name (noted_setting (record { place = place; is_own = false; update = update }) wish) marks
noted_in place (change.Ended id name) cached wish marks = at_topic id name (ended place) marks

abbrev pub noted : ℕ → Change → Bool → Wanted → OutboxState → OutboxState
noted place change cached wish b = with_call place (noted_in place change cached wish) b

-- whether the topic of this id is cached changed
abbrev pub turned_to : ℕ → ℕ → OutboxState → OutboxState
turned_to place id b = with_call place (at_id id [] turned) b

-- the answers to the connection's own publish and to its own change of properties
abbrev pub replied_publish_to : ℕ → Topic → ℤ → OutboxState → OutboxState
replied_publish_to place t uid b =
    with_call place (at_id t.id t.name (replied_publish (record { place = place; uid = uid }))) b

abbrev pub replied_setting_to : ℕ → Topic → Data → OutboxState → OutboxState
replied_setting_to place t update b =
    with_call place (at_id t.id t.name (replied_setting (record { place = place; is_own = true; update = update }))) b

-- how much a topic is wanted changed. Its held value was taken at a place
abbrev pub rewanted_to : ℕ → Topic → ℕ → Wanted → Wanted → OutboxState → OutboxState
rewanted_to place t taken old wish b =
    with_call place (at_id t.id t.name (rewanted (is_cached t.props) (option_map (placed taken) t.value) old wish)) b

abbrev pub meta_rewanted : ℕ → MetaNow → Wanted → Wanted → OutboxState → OutboxState
meta_rewanted place meta old wish b = with_call place (at_id meta.id meta.name (rewanted_meta old wish)) b

abbrev pub meta_changed : ℕ → MetaNow → Wanted → OutboxState → OutboxState
meta_changed place meta wish b = with_call place (at_id meta.id meta.name (changed_meta wish)) b

abbrev pub meta_ended : ℕ → ℕ → OutboxState → OutboxState
meta_ended place id b = with_call place (at_id id [] (ended place)) b

-- a drain hands the first messages that are owed, at most so many
abbrev pub handed_keys : ℕ → OutboxState → List Key
handed_keys budget b = take budget (keys_of b)

abbrev pub drained : ℕ → OutboxState → OutboxState
drained budget b = record b { marks = handed_all (handed_keys budget b) b.marks }

abbrev pub drained_batch : Living → ℕ → ℕ → OutboxState → Batch
drained_batch living now budget b = batch_of living now b.marks (handed_keys budget b)
