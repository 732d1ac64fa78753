use Rattle.std.proofs.Common.{◌≡◌, ◌∙◌, List, Option, None, sym, ap, subst, rules}
use Rattle.nt_rules.specs.declared.meta.MetaNow.{MetaNow}
use Rattle.nt_rules.specs.history.State.{Open, open_metas}
use Rattle.nt_server.specs.Connections.{Connections}
use Rattle.nt_server.specs.MetaWishes.{WereKept, AreKept}
use Rattle.nt_server.proofs.MetaWishes.{WantNone, none-reached, none-refreshed}
use Rattle.nt_server.proofs.RosterRows.{metas_told}
use Rattle.nt_server.proofs.connections.OpenConnections.refresh.Goals as goal

pub returns-in_default-clause-connections : goal.returns-in_default-clause-connections
returns-in_default-clause-connections c =
    let opens : List Open = c.args.self.now.opens in
    let ts = c.args.table.now.topics in
    let none : c.args.metas.now ≡ None = search rules in
    λ os us kept.
    c.reach.ensures
    ∙ ap (λ (os : List Open). record c.args.self.now { opens = os })
    (sym (none-refreshed c.args.place os us ts opens
    (subst (λ (m : Option (List MetaNow)). WereKept m (open_metas os us) opens) none kept)))

pub returns-in_default-clause-metas : goal.returns-in_default-clause-metas
returns-in_default-clause-metas c =
    let opens : List Open = c.args.self.now.opens in
    let none : c.args.metas.now ≡ None = search rules in
    let gone : c.take.new.self ≡ None = search rules in
    λ before kept.
    subst (λ (m : Option (List MetaNow)). AreKept m c.reach.new.self.opens c.args.table.now.topics) (sym gone)
    (subst (λ (k : Connections). WantNone k.opens) (sym c.reach.ensures)
    (none-reached c.args.place opens
    (subst (λ (m : Option (List MetaNow)). WereKept m before opens) none kept)))

pub returns-clause-metas : goal.returns-clause-metas
returns-clause-metas c =
    let ts = c.args.table.now.topics in
    λ before kept.
    c.in_ok-after.ensures
    ∙ ap (λ (os : List Open). open_metas os ts) c.deref.ensures.value
    ∙ ap (λ (k : Connections). open_metas k.opens ts) c.self.view_is
    ∙ sym (metas_told ts _ c.args.self.now.opens)
    ∙ sym (ap (λ (k : Connections). open_metas k.opens ts) c.in_ok-tell_metas.ensures)
