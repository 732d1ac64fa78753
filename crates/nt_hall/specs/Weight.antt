-- What entries weigh, and how many may be kept.
use Rattle.std.specs.Prelude.{ℕ, ◌+◌, List, length, sum_by, Bool, ◌&&◌, nat_le}
use Rattle.serde_json.specs.Written.{compact_text}
use Rattle.nt_values.specs.Types.{size_of}
use Rattle.nt_frames.specs.declared.message.ValueMsg.{ValueMsg}
use Rattle.nt_control.specs.declared.message.ClientMsg.{ClientMsg}
use Rattle.nt_control.specs.declared.message.ClientMsg.TheVariants as client
use Rattle.nt_control.specs.declared.message.ServerMsg.{ServerMsg}
use Rattle.nt_control.specs.declared.message.ServerMsg.TheVariants as server
use Rattle.nt_rules.specs.declared.batch.Batch.{Batch}
use Rattle.nt_rules.specs.declared.act.Msg.{Msg}
use Rattle.nt_rules.specs.declared.act.Msg.TheVariants.{Control, Put}
use Rattle.nt_rules.specs.declared.act.Deed.{Deed}
use Rattle.nt_rules.specs.declared.act.Deed.TheVariants as deed
use Rattle.nt_rules.specs.declared.act.Entry.{Entry}

-- ---- weights: the bytes of all names and types, of the compact texts of properties and updates, and the sizes of
-- values

abbrev pub names_weight : List (List ℕ) → ℕ
names_weight names = sum_by length names

abbrev pub client_weight : ClientMsg → ℕ
client_weight (client.Publish name uid typ props) = length name + length typ + length (compact_text props)
client_weight (client.Unpublish uid) = 0
client_weight (client.SetProps name update) = length name + length (compact_text update)
client_weight (client.Subscribe uid sub) = names_weight sub.names
client_weight (client.Unsubscribe uid) = 0

abbrev pub server_weight : ServerMsg → ℕ
server_weight (server.Announce name id typ pubuid props) = length name + length typ + length (compact_text props)
server_weight (server.Unannounce name id) = length name
server_weight (server.Properties name ack update) = length name + length (compact_text update)

abbrev pub said_weight : Msg → ℕ
said_weight (Control m) = client_weight m
said_weight (Put v) = size_of v.value

-- 64 for each message that is handed, and what it weighs
abbrev pub texts_weight : List ServerMsg → ℕ
texts_weight texts = sum_by (λ m. 64 + server_weight m) texts

abbrev pub values_weight : List ValueMsg → ℕ
values_weight values = sum_by (λ v. 64 + size_of v.value) values

abbrev pub deed_weight : Deed → ℕ
deed_weight (deed.Opened name) = length name
deed_weight deed.NotOpened = 0
deed_weight (deed.Said m) = said_weight m
deed_weight (deed.Drained batch) = texts_weight batch.texts + values_weight batch.values
deed_weight deed.Closed = 0
deed_weight deed.Permitted = 0
deed_weight deed.NoPermit = 0
deed_weight deed.Shut = 0

-- 64 for the entry, and what its deed weighs
abbrev pub entry_weight : Entry → ℕ
entry_weight e = 64 + deed_weight e.deed

-- ---- limits

-- the most entries that a journal keeps
abbrev pub most_entries : ℕ
most_entries = 4_194_304

-- the most that they may weigh together
abbrev pub most_weight : ℕ
most_weight = 268_435_456

-- a list that may be kept
abbrev pub may_keep : List Entry → Bool
may_keep list = nat_le (length list) most_entries && nat_le (sum_by entry_weight list) most_weight
