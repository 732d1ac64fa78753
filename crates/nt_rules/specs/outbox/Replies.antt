-- The answers to a connection's own messages.
use Rattle.std.specs.Prelude.{ℕ, Option, Some, None}
use Rattle.serde_json.specs.Data.{Data}
use Rattle.nt_rules.specs.declared.topic.Topic.{Topic}
use Rattle.nt_rules.specs.declared.batch.Reply.{Reply}
use Rattle.nt_rules.specs.declared.batch.Reply.TheVariants as reply
use Rattle.nt_rules.specs.outbox.Calls.{OutboxState, replied_publish_to, replied_setting_to}

-- the outbox after an answer. One to a change of properties comes with the update
abbrev pub replied_to : ℕ → Topic → Reply → Option Data → OutboxState → OutboxState
replied_to place t (reply.Publish uid) update b = replied_publish_to place t uid b
replied_to place t reply.Ack (Some update) b = replied_setting_to place t update b
replied_to place t reply.Ack None b = b
