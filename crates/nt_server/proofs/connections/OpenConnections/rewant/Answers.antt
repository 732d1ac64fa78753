use Rattle.std.proofs.Common.{◌≡◌, ◌<◌, ◌∙◌, cond, List, [], length, set, sym, ap, subst}
use Rattle.nt_subs.specs.Subscriptions.{Subs}
use Rattle.nt_rules.specs.declared.meta.MetaNow.{MetaNow}
use Rattle.nt_rules.specs.outbox.Calls.{OutboxState}
use Rattle.nt_rules.specs.history.State.{Open, with_outbox, open_metas}
use Rattle.nt_server.specs.Connections.{Connections, number_at, metas_if}
use Rattle.nt_server.specs.contracts.open.Open.{the_view}
use Rattle.nt_server.proofs.Numbers.{found_there, numbered-write, numbered-twice}
use Rattle.nt_server.proofs.Resubscribing.{retold, IsRewanted, rewanted}
use Rattle.nt_server.proofs.connections.OpenConnections.rewant.Goals.{then-makes+in_ok-after, else-makes}
use Rattle.nt_server.proofs.connections.OpenConnections.rewant.Goals as goal

pub invariant_of-self : goal.invariant_of-self
invariant_of-self c =
    let within : c.args.i < length c.self.inside.list.items =
    subst (λ (k : Connections). c.args.i < length k.opens) (sym c.self.view_is) c.requires in
    numbered-write c.self.inside.opened c.args.i c.self.inside.list.items c.index_mut-client.result.now _
    c.self.invariant within c.index_mut-client.ensures.value (ap (λ (o : Open). o.conn) c.client.view_is)

pub invariant_of-self-in_err-rewant : goal.invariant_of-self-in_err-rewant
invariant_of-self-in_err-rewant c =
    let within : c.args.i < length c.self.inside.list.items =
    subst (λ (k : Connections). c.args.i < length k.opens) (sym c.self.view_is) c.requires in
    numbered-twice c.self.inside.opened c.args.i c.self.inside.list.items c.index_mut-client.result.now _
    c.index_mut-client-2.result.now _ c.self.invariant within c.index_mut-client.ensures.value
    (ap (λ (o : Open). o.conn) c.client.view_is) c.index_mut-client-2.ensures.value
    (ap (λ (o : Open). o.conn) c.client-2.view_is)

pub invariant_of-self-2 : goal.invariant_of-self-2
invariant_of-self-2 c =
    let within : c.args.i < length c.self.inside.list.items =
    subst (λ (k : Connections). c.args.i < length k.opens) (sym c.self.view_is) c.requires in
    numbered-twice c.self.inside.opened c.args.i c.self.inside.list.items c.index_mut-client.result.now _
    c.index_mut-client-2.result.now _ c.self.invariant within c.index_mut-client.ensures.value
    (ap (λ (o : Open). o.conn) c.client.view_is) c.index_mut-client-2.ensures.value
    (ap (λ (o : Open). o.conn) c.client-2.view_is)

pub returns : goal.returns
returns c =
    let place = c.args.place in
    let ts = c.args.table.now.topics in
    let taken = c.args.taken.now in
    let makes = c.args.makes in
    let after : List MetaNow = c.if-makes.after in
    let os : List Open = c.self.inside.list.items in
    let i = c.args.i in
    let o : Open = c.index_mut-client.result.now in
    let q : Open = c.index_mut-client-2.result.now in
    let old : Subs = c.replace-old.result in
    let ms : List MetaNow = c.as_slice.result.now in
    let p : Open = record (the_view c.client.inside) { subs = c.replace-old.new.dest } in
    let r : Open = with_outbox c.rewant.new.outbox (the_view c.client-2.inside) in
    let within : i < length os =
    subst (λ (k : Connections). i < length k.opens) (sym c.self.view_is) c.requires in
    let given : p ≡ record o { subs = c.args.subs } =
    ap (λ (x : Open). record x { subs = c.replace-old.new.dest }) c.client.view_is
    ∙ ap (λ (s : Subs). record o { subs = s }) c.replace-old.ensures.after in
    let had : old ≡ o.subs = c.replace-old.ensures.value ∙ ap (λ (x : Open). x.subs) c.client.view_is in
    let after_is : after ≡ metas_if makes (set os i p) ts =
    elim c.if-makes.branch [
      | then-makes+in_ok-after w ↦ w.after-is ∙ w.in_ok-after.ensures
          ∙ ap (λ (xs : List Open). open_metas xs ts) w.deref.ensures.value
          ∙ sym (ap (λ b. cond b (open_metas (set os i p) ts) []) w.if-makes.true)
      | else-makes w ↦ w.after-is ∙ w.empty-after.ensures
          ∙ sym (ap (λ b. cond b (open_metas (set os i p) ts) []) w.if-makes.false)
    ] in
    let retold_is : r ≡ retold place taken ts ms old q =
    ap (λ (b : OutboxState). with_outbox b (the_view c.client-2.inside)) c.in_ok-rewant.ensures
    ∙ ap (retold place taken ts ms old) c.client-2.view_is in
    let made : IsRewanted place (number_at os i) makes after taken ts c.args.subs os (set (set os i p) i r) =
    rewanted place (number_at os i) i makes after ms taken ts c.args.subs old os o p q r (record {
      found = found_there 0 i os c.self.invariant.rising within;
      at = c.index_mut-client.ensures.value;
      given = given;
      had = had;
      after_is = after_is;
      handed = c.as_slice.ensures;
      there = c.index_mut-client-2.ensures.value;
      retold_is = retold_is;
    }) in
    record {
      metas = rw (← c.self.view_is) made.metas_are;
      connections =
          rw (← c.self.view_is)
          (ap (λ (os : List Open). record { opened = c.self.inside.opened; opens = os }) made.opens_are);
    }
