use Rattle.std.proofs.Common.{◌≡◌, ◌∙◌, List, [], Option, None, false, sym, ap, subst, rules}
use Rattle.nt_rules.specs.declared.meta.MetaNow.{MetaNow}
use Rattle.nt_rules.specs.history.State.{Open, subs_at, with_subs_of, rewanting, open_metas}
use Rattle.nt_server.specs.Connections.{Connections, number_at, reached_all, told_metas, resubscribed}
use Rattle.nt_server.specs.MetaWishes.{give_special, WereKept, AreKept}
use Rattle.nt_server.proofs.MetaWishes.{WantNone, none-resubscribed, none-after}
use Rattle.nt_server.proofs.RosterRows.{IsRenewed, renewed}
use Rattle.nt_server.proofs.connections.OpenConnections.resubscribe.Goals.{in-None-2+in_ok-before-in-None-2, in-Some}
use Rattle.nt_server.proofs.connections.OpenConnections.resubscribe.Goals as goal

pub returns-in-None-clause-connections : goal.returns-in-None-clause-connections
returns-in-None-clause-connections c =
    let place = c.args.place in
    let ts = c.args.table.now.topics in
    let taken = c.args.taken.now in
    let opens : List Open = c.args.self.now.opens in
    let conn = number_at opens c.args.i in
    let none : c.args.metas.now ≡ None = search rules in
    let wants : WantNone opens =
    subst (λ (m : Option (List MetaNow)). WereKept m (open_metas opens ts) opens) none c.requires.kept in
    let plain : give_special c.args.subs ≡ false = sym c.if-not-gives_special.ensures in
    c.reach.ensures
    ∙ ap (λ (k : Connections). record k { opens = reached_all place k.opens }) c.in_ok-_none-in-None.ensures.connections
    ∙ ap (λ (ms : List MetaNow). record c.args.self.now {
      opens = reached_all place (rewanting place taken ts ms conn (subs_at opens conn) (with_subs_of conn c.args.subs opens));
    }) c.in_ok-_none-in-None.ensures.metas
    ∙ ap (λ (os : List Open). record c.args.self.now { opens = os })
    (none-resubscribed place taken ts conn c.args.subs opens c.requires.ids plain wants)

pub returns-in-None-clause-metas : goal.returns-in-None-clause-metas
returns-in-None-clause-metas c =
    let place = c.args.place in
    let ts = c.args.table.now.topics in
    let taken = c.args.taken.now in
    let opens : List Open = c.args.self.now.opens in
    let conn = number_at opens c.args.i in
    let none : c.args.metas.now ≡ None = search rules in
    let gone : c.take.new.self ≡ None = search rules in
    let wants : WantNone opens =
    subst (λ (m : Option (List MetaNow)). WereKept m (open_metas opens ts) opens) none c.requires.kept in
    let plain : give_special c.args.subs ≡ false = sym c.if-not-gives_special.ensures in
    let new_is : c.reach.new.self ≡ record c.args.self.now {
      opens = reached_all place (rewanting place taken ts [] conn (subs_at opens conn) (with_subs_of conn c.args.subs opens));
    } =
    c.reach.ensures
    ∙ ap (λ (k : Connections). record k { opens = reached_all place k.opens }) c.in_ok-_none-in-None.ensures.connections
    ∙ ap (λ (ms : List MetaNow). record c.args.self.now {
      opens = reached_all place (rewanting place taken ts ms conn (subs_at opens conn) (with_subs_of conn c.args.subs opens));
    }) c.in_ok-_none-in-None.ensures.metas in
    subst (λ (m : Option (List MetaNow)). AreKept m c.reach.new.self.opens ts) (sym gone)
    (subst (λ (k : Connections). WantNone k.opens) (sym new_is)
    (none-after place taken ts conn c.args.subs opens c.requires.ids plain wants))

pub returns : goal.returns
returns c =
    let place = c.args.place in
    let ts = c.args.table.now.topics in
    let taken = c.args.taken.now in
    let opens : List Open = c.args.self.now.opens in
    let conn = number_at opens c.args.i in
    let others : List Open = with_subs_of conn c.args.subs opens in
    let before : List MetaNow = c.match-take.before in
    let after : List MetaNow = c.in_ok-after.after in
    let told : List Open = c.tell_metas.new.self.opens in
    let before_is : before ≡ open_metas opens ts =
    elim c.match-take.branch [
      | in-None-2+in_ok-before-in-None-2 w ↦ w.before-is ∙ w.in_ok-before-in-None-2.ensures
          ∙ ap (λ (os : List Open). open_metas os ts) w.deref.ensures.value
          ∙ ap (λ (k : Connections). open_metas k.opens ts) w.self.view_is
      | in-Some w ↦ w.before-is
          ∙ subst (λ (m : Option (List MetaNow)). WereKept m (open_metas opens ts) opens)
          (sym c.take.ensures.value ∙ w.in-Some.is) c.requires.kept
    ] in
    let told_is : told ≡ told_metas place before after c.rewant-2.new.self.opens =
    ap (λ (k : Connections). k.opens) c.in_ok-tell_metas.ensures
    ∙ ap (λ (ms : List MetaNow). told_metas place ms c.as_slice-2.result.now c.rewant-2.new.self.opens) c.as_slice.ensures
    ∙ ap (λ (ms : List MetaNow). told_metas place before ms c.rewant-2.new.self.opens) c.as_slice-2.ensures in
    let made : IsRenewed place before taken ts conn (subs_at opens conn) others after told =
    renewed place before taken ts conn (subs_at opens conn) others after c.rewant-2.new.self.opens told
    c.in_ok-after.ensures.metas (ap (λ (k : Connections). k.opens) c.in_ok-after.ensures.connections) told_is in
    record {
      connections =
          c.in_ok-tell_metas.ensures
          ∙ ap (λ (k : Connections). record k {
            opens = told_metas place c.as_slice.result.now c.as_slice-2.result.now c.rewant-2.new.self.opens;
          }) c.in_ok-after.ensures.connections
          ∙ ap (λ (os : List Open). record c.args.self.now { opens = os })
          (sym (ap (λ (k : Connections). k.opens) c.in_ok-tell_metas.ensures) ∙ made.opens_are
          ∙ ap (λ (ms : List MetaNow). resubscribed place ms taken ts conn c.args.subs opens) before_is);
      metas = made.metas_are;
    }
