use Rattle.std.proofs.Common.{◌∙◌, List, sym, ap, subst}
use Rattle.nt_rules.specs.history.State.{Open}
use Rattle.nt_server.specs.Connections.{IsOpenAt}
use Rattle.nt_server.proofs.Numbers.{served-at, not-served}
use Rattle.nt_server.proofs.connections.OpenConnections.served.Goals as goal

pub returns-then-client-worker : goal.returns-then-client-worker
returns-then-client-worker c =
    let here : IsOpenAt c.args.conn c.self.inside.list.items c.in-Ok.i =
    subst (λ (os : List Open). IsOpenAt c.args.conn os c.in-Ok.i) c.deref.ensures.value c.in-Ok.ensures in
    rw (← c.self.view_is) (served-at c.args.worker c.args.conn c.in-Ok.i c.self.inside.list.items
    c.index-client.result.now here c.index-client.ensures
    (sym (ap (λ (o : Open). o.worker) c.client.view_is) ∙ c.if-client-worker.true))

pub returns-else-client-worker : goal.returns-else-client-worker
returns-else-client-worker c =
    let here : IsOpenAt c.args.conn c.self.inside.list.items c.in-Ok.i =
    subst (λ (os : List Open). IsOpenAt c.args.conn os c.in-Ok.i) c.deref.ensures.value c.in-Ok.ensures in
    rw (← c.self.view_is) (not-served c.args.worker c.args.conn c.in-Ok.i c.self.inside.list.items
    c.index-client.result.now here c.index-client.ensures
    (λ e. c.if-client-worker.false (ap (λ (o : Open). o.worker) c.client.view_is ∙ e)))
