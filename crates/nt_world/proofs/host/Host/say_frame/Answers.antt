use Rattle.std.proofs.Common.{List, subst}
use Rattle.std.proofs.lemmas.Result.{on_ok_weaker}
use Rattle.nt_rules.specs.declared.act.Msg.{Msg}
use Rattle.nt_world.specs.World.{Hosts, with_messages}
use Rattle.nt_world.proofs.Entries.{values-fit, values-decoded}
use Rattle.nt_world.proofs.host.Host.say_frame.Goals as goal

pub say_values-requires : goal.say_values-requires
say_values-requires c = values-fit c.as_bytes-in-Binary.result.now c.in_ok-read-in-Binary.read.messages.items
    c.in_ok-read-in-Binary.read.fault c.in_ok-read-in-Binary.ensures.means

pub returns-in_ok-read-in-Binary : goal.returns-in_ok-read-in-Binary
returns-in_ok-read-in-Binary c = on_ok_weaker c.say_values.result
    (λ said. λ decode is_decoding past h.
    subst (λ (ms : List Msg). Hosts c.say_values.new.self.server c.say_values.new.self.entries
    (with_messages c.args.worker c.args.conn ms past))
    (values-decoded decode c.args.frame.now c.in-Binary.bytes c.as_bytes-in-Binary.result.now
    c.in_ok-read-in-Binary.read.messages.items c.in-Binary.is c.as_bytes-in-Binary.ensures is_decoding
    (λ ms fault m. (c.in_ok-read-in-Binary.ensures.only ms fault m).0))
    (said past h)) c.say_values.ensures
