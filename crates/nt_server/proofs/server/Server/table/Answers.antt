use Rattle.std.proofs.Common.{◌≡◌, List, sym, ap, subst}
use Rattle.nt_rules.specs.declared.topic.Topic.{Topic}
use Rattle.nt_rules.specs.topics.Apart.{AreApart}
use Rattle.nt_rules.specs.history.Step.{ServerState}
use Rattle.nt_laws.proofs.histories.ServerOrder.{kept-apart}
use Rattle.nt_server.proofs.server.Server.table.Goals as goal

pub returns-clause-apart : goal.returns-clause-apart
returns-clause-apart c =
    let same : c.self.inside.inner.table.topics ≡ c.args.self.now.state.topics =
    ap (λ (k : ServerState). k.state.topics) c.self.view_is in
    λ start past represents.
    subst (λ (ts : List Topic). AreApart ts) (sym same) (kept-apart c.args.self.now start past represents)
