-- The messages that keys name, as the topics are now (NetworkTables 4.1, "Server to Client Messages" and "MessagePack
-- Data").
use Rattle.std.specs.Prelude.{ℕ, ℤ, pos, List, [], Option, Some, None, option_map, option_and_then, unwrap_or, map, filter, not, ◌==◌, codes, if◌then◌else◌}
use Rattle.std.specs.List.{find}
use Rattle.serde_json.specs.Data.{object, no_members}
use Rattle.nt_values.specs.declared.value.Value.TheVariants.{Int, Bytes}
use Rattle.nt_frames.specs.declared.message.ValueMsg.{ValueMsg}
use Rattle.nt_control.specs.declared.message.ServerMsg.{ServerMsg}
use Rattle.nt_control.specs.declared.message.ServerMsg.TheVariants.{Announce, Unannounce, Properties}
use Rattle.nt_rules.specs.declared.meta.MetaNow.{MetaNow}
use Rattle.nt_rules.specs.declared.topic.Timed.{Timed}
use Rattle.nt_rules.specs.declared.topic.Topic.{Topic}
use Rattle.nt_rules.specs.topics.Topics.{is_named}
use Rattle.nt_rules.specs.declared.waiting.Publish.{Publish}
use Rattle.nt_rules.specs.declared.waiting.Setting.{Setting}
use Rattle.nt_rules.specs.declared.waiting.Placed.{Placed}
use Rattle.nt_rules.specs.outbox.Marks.{Mark}
use Rattle.nt_rules.specs.declared.batch.Batch.{Batch}
use Rattle.nt_rules.specs.outbox.Keys.{Kind, Of_end, Of_publish, Of_setting, Of_topic, Of_value, Key, is_value}
use Rattle.nt_rules.specs.outbox.Marks.{is_meta}

-- the living topics, and the living meta topics of which something is owed
pub record Living : Type 0 where
  pub topics : List Topic
  pub metas : List MetaNow

-- ---- texts

abbrev pub unannounced : Mark → ServerMsg
unannounced m = Unannounce m.name (pos m.id)

-- an announce tells the topic as it is now. One that isn't there, which never comes, is told as one that ended
abbrev pub announced_topic : Mark → Option ℤ → Option Topic → ServerMsg
announced_topic m uid None = unannounced m
announced_topic m uid (Some t) = Announce t.name (pos t.id) t.typ uid t.props

-- meta topics have the type msgpack and no properties
abbrev pub announced_meta : Mark → Option ℤ → ServerMsg
announced_meta m uid = Announce m.name (pos m.id) (codes "msgpack") uid (object no_members)

abbrev pub announced : Living → Mark → Option ℤ → ServerMsg
announced living m uid =
    if is_meta m.id then announced_meta m uid else announced_topic m uid (find (is_named m.name) living.topics)

-- the uid of the publish at a place
abbrev pub uid_at : ℕ → List Publish → Option ℤ
uid_at place publishes = option_map (λ p. p.uid) (find (λ p. p.place == place) publishes)

-- a change of properties has ack for the connection that sent it
abbrev pub properties : Mark → Option Setting → ServerMsg
properties m None = unannounced m
properties m (Some s) = Properties m.name s.is_own s.update

abbrev pub text_by : Living → Mark → Kind → ℕ → ServerMsg
text_by living m Of_end place = unannounced m
text_by living m Of_publish place = announced living m (uid_at place m.publishes)
text_by living m Of_setting place = properties m (find (λ s. s.place == place) m.settings)
text_by living m Of_topic place = announced living m None
text_by living m Of_value place = unannounced m

-- ---- values

abbrev pub value_message : ℕ → Timed → ValueMsg
value_message id v = record { id = pos id; time = v.time; value = v.value }

-- what stands for a value that isn't there, which never comes
abbrev pub no_value : ℕ → ValueMsg
no_value id = record { id = pos id; time = 0; value = Int (pos 0) }

abbrev pub held_value : ℕ → Option Timed → ValueMsg
held_value id None = no_value id
held_value id (Some v) = value_message id v

-- a meta topic's value has the moment of the drain as its time
abbrev pub meta_value : ℕ → ℕ → Option MetaNow → ValueMsg
meta_value now id None = no_value id
meta_value now id (Some m) = record { id = pos id; time = now; value = Bytes m.bytes }

-- the value that was kept, where it is owed one by one, and else the one that the topic holds
abbrev pub placed_value : Living → Mark → Option Placed → ValueMsg
placed_value living m (Some p) = record { id = pos m.id; time = p.time; value = p.value }
placed_value living m None =
    held_value m.id (option_and_then (λ t. t.value) (find (is_named m.name) living.topics))

abbrev pub value_by : Living → ℕ → Mark → ℕ → ValueMsg
value_by living now m place =
    if is_meta m.id then meta_value now m.id (find (λ t. t.id == m.id) living.metas)
    else placed_value living m (find (λ p. p.place == place) m.values)

-- ---- batches

abbrev pub mark_at : ℕ → List Mark → Option Mark
mark_at id marks = find (λ m. m.id == id) marks

abbrev pub text_of : Living → List Mark → Key → ServerMsg
text_of living marks k =
    unwrap_or (option_map (λ m. text_by living m k.kind k.place) (mark_at k.topic marks)) (Unannounce [] (pos k.topic))

abbrev pub value_of : Living → ℕ → List Mark → Key → ValueMsg
value_of living now marks k =
    unwrap_or (option_map (λ m. value_by living now m k.place) (mark_at k.topic marks)) (no_value k.topic)

-- the messages of these keys: the texts and the values, each in their order
abbrev pub batch_of : Living → ℕ → List Mark → List Key → Batch
batch_of living now marks ks =
    record {
      texts = map (text_of living marks) (filter (λ k. not (is_value k)) ks);
      values = map (value_of living now marks) (filter is_value ks);
    }
