use Rattle.std.proofs.Common.{◌≡◌, ◌∙◌, List, not, filter, sym, ap, subst}
use Rattle.nt_rules.proofs.Search.{filter-found}
use Rattle.nt_rules.specs.history.State.{Open, is_number}
use Rattle.nt_server.specs.Connections.{Connections, number, IsServedAt}
use Rattle.nt_server.proofs.Numbers.{numbered_without, found-served}
use Rattle.nt_server.proofs.connections.OpenConnections.close.Goals as goal

pub invariant_of-self : goal.invariant_of-self
invariant_of-self c =
    let here : IsServedAt c.args.worker c.args.conn c.self.inside.list.items c.in-Some.i =
    subst (λ (k : Connections). IsServedAt c.args.worker c.args.conn k.opens c.in-Some.i) (sym c.self.view_is)
    c.in-Some.ensures in
    rw c.remove-closed.ensures.items (numbered_without c.self.inside.opened c.in-Some.i c.self.inside.list.items
    here.within c.self.invariant)

pub returns-in-Some-clause-rest : goal.returns-in-Some-clause-rest
returns-in-Some-clause-rest c =
    let os = c.self.inside.list.items in
    let here : IsServedAt c.args.worker c.args.conn os c.in-Some.i =
    subst (λ (k : Connections). IsServedAt c.args.worker c.args.conn k.opens c.in-Some.i) (sym c.self.view_is)
    c.in-Some.ensures in
    let left : c.remove-closed.new.self.items ≡ filter (λ o. not (is_number c.args.conn o)) os =
    c.remove-closed.ensures.items
    ∙ sym (filter-found number c.args.conn os c.in-Some.i
    (found-served c.self.inside.opened c.args.worker c.args.conn c.in-Some.i os c.self.invariant here)) in
    rw (← c.self.view_is, here.served) (ap (λ (os : List Open). record {
      opened = c.self.inside.opened;
      opens = os;
    }) left)
