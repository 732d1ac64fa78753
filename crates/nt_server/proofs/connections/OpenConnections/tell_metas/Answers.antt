use Rattle.std.proofs.Common.{◌≡◌, ◌++◌, List, map, length, refl, sym, subst, arith}
use Rattle.std.proofs.lemmas.Grind.{common_steps}
use Rattle.std.proofs.Math.ListN.{take, drop}
use Rattle.nt_subs.specs.Wishes.{wanted}
use Rattle.nt_rules.specs.outbox.Calls.{reached}
use Rattle.nt_rules.specs.history.State.{Open, with_outbox, noted_differences}
use Rattle.nt_server.specs.Connections.{Connections, AreNumbered}
use Rattle.nt_server.proofs.Numbers.{numbered_map}
use Rattle.nt_server.proofs.connections.OpenConnections.tell_metas.Goals as goal

pub invariant_of-self-2 : goal.invariant_of-self-2
invariant_of-self-2 c =
    let opens : List Open = c.args.self.now.opens in
    let told : (take c.replace-list.result.len (c.loop-client.client-items
    ++ drop (length c.loop-client.client-items) c.replace-list.result.items))
    ≡ map (λ o. with_outbox (noted_differences c.args.place (wanted o.subs) c.in_ok-found.found.items (reached c.args.place o.outbox)) o)
    opens
    =
    grind (arith, common_steps) in
    let numbered : AreNumbered c.self.inside.opened opens =
    subst (λ (k : Connections). AreNumbered c.self.inside.opened k.opens) c.self.view_is c.self.invariant in
    subst (λ (os : List Open). AreNumbered c.self.inside.opened os) (sym told)
    (numbered_map c.self.inside.opened (λ o. with_outbox (noted_differences c.args.place (wanted o.subs)
    c.in_ok-found.found.items (reached c.args.place o.outbox)) o)
    opens (λ o. refl) numbered)
