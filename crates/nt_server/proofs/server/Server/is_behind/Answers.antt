use Rattle.std.proofs.Common.{◌≡◌, ◌∙◌, sym, ap, rules}
use Rattle.nt_rules.specs.history.State.{outbox_at}
use Rattle.nt_rules.specs.outbox.Calls as box
use Rattle.nt_laws.proofs.histories.Inspection.{looked-behind}
use Rattle.nt_server.proofs.server.Server.is_behind.Goals as goal

pub returns-in-Some : goal.returns-in-Some
returns-in-Some c =
    let owed : c.in-Some.outbox.now ≡ outbox_at c.args.self.now.state.opens c.args.conn = search rules in
    λ start past represents.
    c.behind.ensures ∙ ap (λ (b : box.OutboxState). box.behind b) owed
    ∙ looked-behind c.args.self.now start past c.args.conn represents

pub returns-in-None : goal.returns-in-None
returns-in-None c =
    let none : outbox_at c.args.self.now.state.opens c.args.conn ≡ box.nothing_owed = search rules in
    λ start past represents.
    sym (ap (λ (b : box.OutboxState). box.behind b) none)
    ∙ looked-behind c.args.self.now start past c.args.conn represents
