use Rattle.std.proofs.Common.{◌≡◌, ◌++◌, List, [], map, length, sym, ap, subst, arith}
use Rattle.std.proofs.lemmas.Grind.{common_steps}
use Rattle.std.proofs.Math.ListN.{take, drop}
use Rattle.nt_rules.specs.declared.roster.ConnRow.{ConnRow}
use Rattle.nt_rules.specs.history.State.{Open, message_noted, turn_noted}
use Rattle.nt_server.specs.Connections.{Connections, AreNumbered}
use Rattle.nt_server.proofs.Numbers.{numbered_map}
use Rattle.nt_server.proofs.RosterRows.{said_row}
use Rattle.nt_server.proofs.connections.OpenConnections.tell_message.Goals as goal

pub invariant_of-self-2 : goal.invariant_of-self-2
invariant_of-self-2 c =
    let opens : List Open = c.args.self.now.opens in
    let told : (take c.replace-list.result.len (c.loop-client.client-items
    ++ drop (length c.loop-client.client-items) c.replace-list.result.items))
    ≡ map (λ o. message_noted c.args.place c.args.table.now.topics c.args.conn c.args.msg.now c.args.changes.now
    (turn_noted c.args.place c.args.turned o)) opens =
    grind (arith, common_steps) in
    let numbered : AreNumbered c.self.inside.opened opens =
    subst (λ (k : Connections). AreNumbered c.self.inside.opened k.opens) c.self.view_is c.self.invariant in
    subst (λ (os : List Open). AreNumbered c.self.inside.opened os) (sym told)
    (numbered_map c.self.inside.opened
    (λ o. message_noted c.args.place c.args.table.now.topics c.args.conn c.args.msg.now c.args.changes.now
    (turn_noted c.args.place c.args.turned o)) opens
    (λ o. ap (λ (r : ConnRow). r.conn) (said_row [] c.args.place c.args.table.now.topics c.args.conn c.args.msg.now
    c.args.changes.now c.args.turned o)) numbered)
