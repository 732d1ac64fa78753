use Rattle.std.proofs.Common.{◌≡◌, ◌∙◌, List, Some, None, refl, sym, ap, subst}
use Rattle.nt_rules.specs.outbox.Calls.{OutboxState, behind, drained}
use Rattle.nt_rules.specs.history.State.{Open, outbox_at, with_outbox}
use Rattle.nt_server.specs.Connections.{Connections, IsServedAt}
use Rattle.nt_server.specs.contracts.open.Open.{the_view}
use Rattle.nt_server.proofs.Numbers.{found-served, outbox-there, numbered-write, drained-behind, drained-there, drained-out}
use Rattle.nt_server.proofs.connections.OpenConnections.drain.Goals as goal

pub returns-in-Some-behind-clause-out : goal.returns-in-Some-behind-clause-out
returns-in-Some-behind-clause-out c =
    let os : List Open = c.self.inside.list.items in
    let o : Open = c.index-client.result.now in
    let here : IsServedAt c.args.worker c.args.conn os c.in-Some.i =
    subst (λ (k : Connections). IsServedAt c.args.worker c.args.conn k.opens c.in-Some.i) (sym c.self.view_is)
    c.in-Some.ensures in
    let owed : outbox_at os c.args.conn ≡ o.outbox =
    outbox-there c.self.inside.opened c.args.worker c.args.conn c.in-Some.i os o c.self.invariant here
    c.index-client.ensures in
    let fell : behind o.outbox ≡ Some c.in-Some-behind._weight =
    sym (ap (λ (p : Open). behind p.outbox) c.client.view_is) ∙ sym c.behind.ensures ∙ c.in-Some-behind.is in
    rw (← c.self.view_is, here.served, owed, fell) refl

pub returns-in-Some-behind-clause-connections : goal.returns-in-Some-behind-clause-connections
returns-in-Some-behind-clause-connections c =
    let os : List Open = c.self.inside.list.items in
    let o : Open = c.index-client.result.now in
    let here : IsServedAt c.args.worker c.args.conn os c.in-Some.i =
    subst (λ (k : Connections). IsServedAt c.args.worker c.args.conn k.opens c.in-Some.i) (sym c.self.view_is)
    c.in-Some.ensures in
    let fell : behind o.outbox ≡ Some c.in-Some-behind._weight =
    sym (ap (λ (p : Open). behind p.outbox) c.client.view_is) ∙ sym c.behind.ensures ∙ c.in-Some-behind.is in
    rw (← c.self.view_is, here.served)
    (ap (λ (os : List Open). record { opened = c.self.inside.opened; opens = os })
    (sym (drained-behind c.args.conn c.args.budget c.in-Some-behind._weight c.in-Some.i os o
    (found-served c.self.inside.opened c.args.worker c.args.conn c.in-Some.i os c.self.invariant here)
    c.index-client.ensures fell)))

pub invariant_of-self : goal.invariant_of-self
invariant_of-self c =
    let here : IsServedAt c.args.worker c.args.conn c.self.inside.list.items c.in-Some.i =
    subst (λ (k : Connections). IsServedAt c.args.worker c.args.conn k.opens c.in-Some.i) (sym c.self.view_is)
    c.in-Some.ensures in
    numbered-write c.self.inside.opened c.in-Some.i c.self.inside.list.items c.index_mut-client.result.now _
    c.self.invariant here.within c.index_mut-client.ensures.value (ap (λ (o : Open). o.conn) c.client-2.view_is)

pub invariant_of-self-2 : goal.invariant_of-self-2
invariant_of-self-2 c =
    let here : IsServedAt c.args.worker c.args.conn c.self.inside.list.items c.in-Some.i =
    subst (λ (k : Connections). IsServedAt c.args.worker c.args.conn k.opens c.in-Some.i) (sym c.self.view_is)
    c.in-Some.ensures in
    numbered-write c.self.inside.opened c.in-Some.i c.self.inside.list.items c.index_mut-client.result.now _
    c.self.invariant here.within c.index_mut-client.ensures.value (ap (λ (o : Open). o.conn) c.client-2.view_is)

pub returns-clause-out : goal.returns-clause-out
returns-clause-out c =
    let os : List Open = c.self.inside.list.items in
    let here : IsServedAt c.args.worker c.args.conn os c.in-Some.i =
    subst (λ (k : Connections). IsServedAt c.args.worker c.args.conn k.opens c.in-Some.i) (sym c.self.view_is)
    c.in-Some.ensures in
    let owed : outbox_at os c.args.conn ≡ c.client-2.inside.outbox =
    outbox-there c.self.inside.opened c.args.worker c.args.conn c.in-Some.i os c.index_mut-client.result.now
    c.self.invariant here c.index_mut-client.ensures.value
    ∙ sym (ap (λ (p : Open). p.outbox) c.client-2.view_is) in
    let same : outbox_at os c.args.conn ≡ c.client.inside.outbox =
    outbox-there c.self.inside.opened c.args.worker c.args.conn c.in-Some.i os c.index-client.result.now
    c.self.invariant here c.index-client.ensures
    ∙ sym (ap (λ (p : Open). p.outbox) c.client.view_is) in
    let none : behind c.client-2.inside.outbox ≡ None =
    ap behind (sym owed ∙ same) ∙ sym c.behind.ensures ∙ c.in_default-behind.is in
    rw (← c.self.view_is, here.served, owed) (drained-out _ _ _ none c.in_ok-batch.ensures.batch)

pub returns-clause-connections : goal.returns-clause-connections
returns-clause-connections c =
    let os : List Open = c.self.inside.list.items in
    let o : Open = c.index_mut-client.result.now in
    let here : IsServedAt c.args.worker c.args.conn os c.in-Some.i =
    subst (λ (k : Connections). IsServedAt c.args.worker c.args.conn k.opens c.in-Some.i) (sym c.self.view_is)
    c.in-Some.ensures in
    let owed : outbox_at os c.args.conn ≡ o.outbox =
    outbox-there c.self.inside.opened c.args.worker c.args.conn c.in-Some.i os o c.self.invariant here
    c.index_mut-client.ensures.value in
    let same : outbox_at os c.args.conn ≡ c.client.inside.outbox =
    outbox-there c.self.inside.opened c.args.worker c.args.conn c.in-Some.i os c.index-client.result.now
    c.self.invariant here c.index-client.ensures
    ∙ sym (ap (λ (p : Open). p.outbox) c.client.view_is) in
    let none : behind o.outbox ≡ None =
    ap behind (sym owed ∙ same) ∙ sym c.behind.ensures ∙ c.in_default-behind.is in
    let handed : with_outbox c.drain.new.self (the_view c.client-2.inside)
    ≡ with_outbox (drained c.args.budget o.outbox) o =
    ap (λ (b : OutboxState). with_outbox b (the_view c.client-2.inside)) c.in_ok-batch.ensures.owed
    ∙ ap (λ (p : Open). with_outbox (drained c.args.budget p.outbox) p) c.client-2.view_is in
    rw (← c.self.view_is, here.served)
    (ap (λ (os : List Open). record { opened = c.self.inside.opened; opens = os })
    (drained-there c.args.conn c.args.budget c.in-Some.i os o
    (with_outbox c.drain.new.self (the_view c.client-2.inside))
    (found-served c.self.inside.opened c.args.worker c.args.conn c.in-Some.i os c.self.invariant here)
    c.index_mut-client.ensures.value none handed))
